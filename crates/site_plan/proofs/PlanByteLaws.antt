-- The bytes of a plan: how many they are, that numbers which were read fit, and there and back.
-- Assumes nothing.
use Rattle.octets.proofs.Words.{◌≡◌, refl, ap, List, [], ◌++◌, append-nil, ℕ, lit<, length}
use Rattle.octets.specs.Layouts.{Fit, Bytes}
use Rattle.octets.proofs.LayoutLaws.{length-bytes, fields_fit, fields-bytes}
use Rattle.site_plan.specs.declared.plan.Plan.{Plan}
use Rattle.site_plan.specs.Plans.{plan_values}
use Rattle.site_plan.specs.PlanBytes.{section_widths, section_size, section_values, section_at, section_bytes, plan_widths, plan_size, plan_from, plan_at, bytes_of_plan, PlanReadsBack}

pub length-plan : (p : Plan) → length (bytes_of_plan p) ≡ plan_size
unfolding bytes_of_plan
length-plan p = length-bytes plan_widths (plan_values p) refl

pub length-section : (p : Plan) → length (section_bytes p) ≡ section_size
unfolding section_bytes
length-section p = length-bytes section_widths (section_values p) refl

pub plan-fits : (s : List ℕ) (at : ℕ) → Bytes s → Fit plan_widths (plan_values (plan_at s at))
unfolding plan_at
plan-fits s at b = fields_fit s b plan_widths at

pub section-fits : (s : List ℕ) (at : ℕ) → Bytes s → Fit plan_widths (plan_values (section_at s at))
unfolding section_at
section-fits s at b =
    let f = fields_fit s b section_widths at in
    (f.0, (f.1.0, (f.1.1.0, (f.1.1.1.0, (f.1.1.1.1.0, (f.1.1.1.1.1.0, (lit< tt, tt)))))))

-- numbers that fit a plan's bytes fit those of its section
pub section-fit : (p : Plan) → Fit plan_widths (plan_values p) → Fit section_widths (section_values p)
section-fit p f = (f.0, (f.1.0, (f.1.1.0, (f.1.1.1.0, (f.1.1.1.1.0, (f.1.1.1.1.1.0, tt))))))

-- whatever stands behind it
pub plan-read : (p : Plan) (q : List ℕ) → Fit plan_widths (plan_values p) → plan_at (bytes_of_plan p ++ q) 0 ≡ p
unfolding plan_at bytes_of_plan
plan-read p q h = ap plan_from (fields-bytes plan_widths (plan_values p) [] q 0 refl h)

pub plan_reads_back : PlanReadsBack
plan_reads_back p h = rw (append-nil (bytes_of_plan p)) at (plan-read p [] h)
