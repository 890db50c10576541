-- `learn_all`'s loop: what was learned so far, with what the entries left offer, is the whole.
-- Assumes nothing.
use Rattle.route_merges.proofs.LoopLaws.{Going}
use Rattle.route_merges.proofs.learning.learn_all.Given as goal

abbrev pub invariant-loop-position : goal.invariant-loop-position
invariant-loop-position l =
    Going l.heard.own l.heard.origin l.heard.quality l.heard.time l.part l.count l.fn.rows l.rows l.position l.tally.skipped l.tally.compared
