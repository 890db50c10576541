-- `put_number`'s loop: to store the digits that are left is to store them all.
-- Assumes nothing.
use Rattle.octets.proofs.Words.{◌≡◌, refl, sym, ◌∙◌, arith, length-set}
use Rattle.octets.specs.Numbers.{digits}
use Rattle.octets.proofs.StoreLaws.{sets-past, digits-turn}
use Rattle.octets.proofs.numbers.put_number.Goals as goal

pub loop-init : goal.loop-init
loop-init c = (refl, refl)

pub returns-then-out-place : goal.returns-then-out-place
returns-then-out-place c =
    let l = c.loop in
    sym (sets-past (digits l.counter l.rest) l.out l.place c.if-out-place.true) ∙ l.invariant.1

pub loop-preserved : goal.loop-preserved
loop-preserved c =
    let l = c.loop in
    (simp length-set l.invariant.0, sym (digits-turn l.out l.place l.counter l.rest c.loop-test.true) ∙ l.invariant.1)

pub returns : goal.returns
unfolding digits
returns c =
    let l = c.loop in
    let e : l.counter ≡ 0 = omega arith in
    rw e at l.invariant.1
