-- `put_plan`: the section, and the kind of beacons behind it.
-- Assumes nothing.
use Rattle.octets.proofs.Words.{◌≡◌, refl, ◌+◌, arith}
use Rattle.octets.proofs.StoreLaws.{all_laid}
use Rattle.site_plan.specs.Plans.{plan_values}
use Rattle.site_plan.specs.PlanBytes.{section_widths, section_values, section_bytes, plan_widths, bytes_of_plan}
use Rattle.site_plan.proofs.plan_bytes.put_plan.Goals as goal

pub returns : goal.returns
unfolding section_bytes bytes_of_plan
returns c =
    let a = c.args in
    let behind : a.place + 2 + 2 + 1 + 1 + 1 + 2 ≡ a.place + 9 = omega arith in
    all_laid a.out.now a.place plan_widths (plan_values a.plan) _
    (rw (c.store.ensures, c.put_section.ensures, behind, all_laid a.out.now a.place section_widths (section_values a.plan) _ refl))
