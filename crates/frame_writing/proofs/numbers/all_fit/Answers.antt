-- `all_fit`'s loop: whether the numbers that are left fit.
-- Assumes nothing.
use Rattle.octets.proofs.Words.{refl, sym, ◌∙◌, ◌≤◌, arith, rules, lt-ltb, le-ltb, length, drop_of_length-le}
use Rattle.frame_writing.proofs.ListedLaws.{fitting-turn}
use Rattle.frame_writing.proofs.numbers.all_fit.Goals as goal

pub loop-k-init : goal.loop-k-init
loop-k-init c = refl

pub returns-then-numbers-k : goal.returns-then-numbers-k
returns-then-numbers-k c =
    let l = c.loop-k in
    let a = c.args in
    sym (sym l.invariant ∙ (fitting-turn a.widths.now a.numbers.now l.k (search rules) ∙ simp (le-ltb _ _ c.if-numbers-k.true)))

pub returns-then-not-fits : goal.returns-then-not-fits
returns-then-not-fits c =
    let l = c.loop-k in
    let a = c.args in
    let f = c.fits in
    sym (sym l.invariant ∙ (fitting-turn a.widths.now a.numbers.now l.k (search rules) ∙
    simp (lt-ltb _ _ c.if-numbers-k.false, ← f.ensures, c.if-not-fits.true)))

pub loop-k-preserved : goal.loop-k-preserved
loop-k-preserved c =
    let l = c.loop-k in
    let a = c.args in
    let f = c.fits in
    sym (sym l.invariant ∙ (fitting-turn a.widths.now a.numbers.now l.k (search rules) ∙
    simp (lt-ltb _ _ c.if-numbers-k.false, ← f.ensures, c.if-not-fits.false)))

pub returns : goal.returns
returns c =
    let l = c.loop-k in
    let a = c.args in
    let h : length a.widths.now ≤ l.k = omega arith in
    rw (drop_of_length-le a.widths.now h) at l.invariant
