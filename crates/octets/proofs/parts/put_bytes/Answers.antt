-- `put_bytes`'s loop: to store the bytes that are left is to store them all.
-- Assumes nothing.
use Rattle.octets.proofs.Words.{refl, sym, ◌∙◌, ◌<◌, add-zero, arith, length, length-set}
use Rattle.octets.proofs.StoreLaws.{sets-past, copied, copy_turn}
use Rattle.octets.proofs.parts.put_bytes.Goals as goal

pub returns-then-out-at : goal.returns-then-out-at
returns-then-out-at c = let a = c.args in sym (sets-past a.s.now a.out.now a.at c.if-out-at.true)

pub loop-k-init : goal.loop-k-init
loop-k-init c = (refl, rw add-zero)

pub loop-k-preserved : goal.loop-k-preserved
loop-k-preserved c =
    let l = c.loop-k in
    let a = c.args in
    let h : l.k < length a.s.now = omega arith in
    (simp length-set l.invariant.0, sym (copy_turn l.out a.s.now a.at l.k 0 h) ∙ l.invariant.1)

pub returns : goal.returns
returns c =
    let l = c.loop-k in
    let a = c.args in
    sym (copied l.out a.s.now a.at l.k (omega arith)) ∙ l.invariant.1
