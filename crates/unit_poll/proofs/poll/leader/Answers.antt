-- `leader`'s loop: the best so far and of the rest is the best of all.
-- Assumes nothing.
use Rattle.unit_poll.specs.PollBytes.{poll_in}
use Rattle.unit_poll.proofs.LoopLaws.{leading, leading_end, leading_none, leading_on}
use Rattle.unit_poll.proofs.poll.leader.Goals as goal

pub loop-place-init : goal.loop-place-init
unfolding poll_in
loop-place-init c = leading _ _ (rw (c.read-2.ensures, c.read.ensures))

pub returns-then-voter-eq0 : goal.returns-then-voter-eq0
returns-then-voter-eq0 c =
    let l = c.loop-place in
    leading_none _ l.place _ c.loop-place-test.true l.invariant _ c.at-voter.ensures c.if-voter-eq0.true

pub loop-place-preserved : goal.loop-place-preserved
loop-place-preserved c =
    let l = c.loop-place in
    leading_on _ l.place _ c.loop-place-test.true l.invariant _ c.at-voter.ensures c.if-voter-eq0.false _ c.better-leader.ensures

pub returns : goal.returns
returns c = leading_end _ _ _ c.loop-place-test.false c.loop-place.invariant
