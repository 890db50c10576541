-- `step`: the offset less the correction of its drift.
-- Assumes nothing.
use Rattle.std.proofs.Common.{refl, arith, rules}
use Rattle.unit_clock.proofs.StepLaws.{less_correction}
use Rattle.unit_clock.proofs.steps.step.Goals as goal

pub returns : goal.returns
returns c =
    let a = c.args in
    less_correction a.local a.offset a.original_time a.delay _ _ _ _ _ (search rules) (search rules) refl refl c.age.ensures c.correction.ensures (omega arith)
