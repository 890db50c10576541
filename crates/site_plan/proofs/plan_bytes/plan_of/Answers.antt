-- `plan_of`: the section, and the kind of beacons behind it.
-- Assumes nothing.
use Rattle.octets.proofs.Words.{◌≡◌, ◌+◌, arith}
use Rattle.site_plan.specs.PlanBytes.{section_at, plan_at}
use Rattle.site_plan.proofs.plan_bytes.plan_of.Goals as goal

pub returns : goal.returns
unfolding plan_at section_at
returns c =
    let p = c.args.place in
    let kind : p + 2 + 2 + 1 + 1 + 1 + 2 ≡ p + 9 = omega arith in
    rw (kind, c.section_plan.ensures, c.read.ensures)
