-- `move_in`'s loop: to move the row in hand in at the place that is reached is the whole.
-- Assumes nothing.
use Rattle.octets.proofs.Words.{◌∙◌, arith, length-set}
use Rattle.route_merges.proofs.MoveLaws.{move-stop, move-turn, move-last}
use Rattle.route_merges.proofs.learning.move_in.Goals as goal

pub returns-then-next-eq0 : goal.returns-then-next-eq0
returns-then-next-eq0 c = move-stop c.loop-i.rows c.loop-i.i c.loop-i.hand (omega (arith, c.loop-i.invariant.0)) c.if-next-eq0.true ∙ c.loop-i.invariant.1

pub loop-i-preserved : goal.loop-i-preserved
loop-i-preserved c = (
  length-set _ _ _ ∙ c.loop-i.invariant.0,
  move-turn c.loop-i.rows c.loop-i.i c.loop-i.hand (omega (arith, c.loop-i.invariant.0)) c.if-next-eq0.false ∙ c.loop-i.invariant.1,
)

pub returns : goal.returns
returns c = move-last c.loop-i.rows c.loop-i.i c.loop-i.hand (omega (arith, c.loop-i.invariant.0)) ∙ c.loop-i.invariant.1
