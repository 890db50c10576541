-- `put_section`: the section's numbers, one behind the other from the place on.
-- Assumes nothing.
use Rattle.octets.proofs.Words.{refl, arith}
use Rattle.octets.proofs.StoreLaws.{all-put, put, done}
use Rattle.site_plan.specs.PlanBytes.{section_widths, section_values, section_bytes}
use Rattle.site_plan.proofs.plan_bytes.put_section.Goals as goal

pub returns : goal.returns
unfolding section_bytes
returns c =
    let a = c.args in
    all-put a.out.now a.place section_widths (section_values a.plan) _
    (put c.store.ensures (omega arith)
    (put c.store-2.ensures (omega arith)
    (put c.store-3.ensures (omega arith)
    (put c.store-4.ensures (omega arith)
    (put c.store-5.ensures (omega arith)
    (put c.store-6.ensures refl done))))))
