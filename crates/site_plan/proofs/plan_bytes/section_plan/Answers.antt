-- `section_plan`: each number stands where the layout says.
-- Assumes nothing.
use Rattle.octets.proofs.Words.{◌≡◌, ◌+◌, arith}
use Rattle.site_plan.specs.PlanBytes.{section_at}
use Rattle.site_plan.proofs.plan_bytes.section_plan.Goals as goal

pub returns : goal.returns
unfolding section_at
returns c =
    let p = c.args.place in
    let a : p + 2 + 2 ≡ p + 4 = omega arith in
    let b : p + 4 + 1 ≡ p + 5 = omega arith in
    let d : p + 5 + 1 ≡ p + 6 = omega arith in
    let e : p + 6 + 1 ≡ p + 7 = omega arith in
    rw (
      a,
      b,
      d,
      e,
      c.read.ensures,
      c.read-2.ensures,
      c.read-3.ensures,
      c.read-4.ensures,
      c.read-5.ensures,
      c.read-6.ensures,
    )
