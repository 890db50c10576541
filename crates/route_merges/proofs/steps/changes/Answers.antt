-- `changes`: taken back by a bad candidate, or giving way to a good one.
-- Assumes nothing.
use Rattle.route_merges.proofs.steps.changes.Goals as goal

pub returns-then-bad : goal.returns-then-bad
returns-then-bad c = rw (← c.bad.ensures, c.if-bad.true, c.usable-usable.ensures)

pub returns : goal.returns
returns c =
    rw (← c.bad.ensures, c.if-bad.false, c.usable-usable.ensures, c.from-hops.ensures)
