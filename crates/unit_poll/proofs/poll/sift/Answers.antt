-- `sift`'s loop: what is left to store, with what is stored, is the whole.
-- Assumes nothing.
use Rattle.unit_poll.proofs.LoopLaws.{sifting, sifted_in, sifting_on}
use Rattle.unit_poll.proofs.poll.sift.Goals as goal

pub loop-place-init : goal.loop-place-init
loop-place-init c = sifting _ _

pub loop-place-preserved : goal.loop-place-preserved
loop-place-preserved c =
    let l = c.loop-place in
    sifting_on _ _ _ _ _ _ l.invariant c.loop-place-test.true _ c.at-next.ensures _ _ c.either.ensures c.either-hand.ensures _ c.put.ensures

pub returns : goal.returns
returns c = sifted_in _ _ _ _ _ _ c.loop-place.invariant c.loop-place-test.false
