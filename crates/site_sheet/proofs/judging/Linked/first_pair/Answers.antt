-- `first_pair`: the first of the pairs that the rows from the place on begin.
-- Assumes nothing.
use Rattle.octets.proofs.Words.{arith}
use Rattle.site_sheet.proofs.JudgeLaws.{none_paired, pair_turn}
use Rattle.site_sheet.proofs.judging.Linked.first_pair.Goals as goal

pub loop-place-init : goal.loop-place-init
loop-place-init c = none_paired _ _ _ c.args.self.now.sheet.counted

pub loop-place-preserved : goal.loop-place-preserved
loop-place-preserved c =
    let l = c.loop-place in
    pair_turn _ _ l.place c.known_at.result _ _ c.loop-place-test.true (omega (arith, c.args.self.now.sheet.counted)) l.invariant c.known_at.ensures c.first_with-best.ensures
