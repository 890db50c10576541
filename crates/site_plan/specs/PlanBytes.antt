-- A plan as 10 bytes, and as the 9 that a stored form has for it.
-- Assumes nothing.
use Rattle.std.specs.Prelude.{◌≡◌, ℕ, List, [], ◌∷◌, ◌++◌, get_or}
use Rattle.octets.specs.Layouts.{total, fields, bytes, Fit}
use Rattle.site_plan.specs.declared.plan.Plan.{Plan}
use Rattle.site_plan.specs.Plans.{plan_values, long_beacons}

-- the plan with these seven numbers
abbrev pub plan_from : List ℕ → Plan
plan_from vs =
    record {
      network = get_or vs 0 0;
      manager = get_or vs 1 0;
      max_hops = get_or vs 2 0;
      rows = get_or vs 3 0;
      data_slots = get_or vs 4 0;
      slot_ms = get_or vs 5 0;
      beacon_type = get_or vs 6 0;
    }

-- ---- the section of a stored form: network 2, manager 2, h 1, M 1, D 1, slot ms 2
abbrev pub section_widths : List ℕ
section_widths = 2 ∷ 2 ∷ 1 ∷ 1 ∷ 1 ∷ 2 ∷ []

-- how many bytes it has: 9
abbrev pub section_size : ℕ
section_size = total section_widths

abbrev pub section_values : Plan → List ℕ
section_values p = p.network ∷ p.manager ∷ p.max_hops ∷ p.rows ∷ p.data_slots ∷ p.slot_ms ∷ []

-- the plan that the section from a place on says: its manager sends document 01's beacons. A byte past the end is 0
unfoldable pub section_at : List ℕ → ℕ → Plan
section_at s at = plan_from (fields section_widths s at ++ (long_beacons ∷ []))

unfoldable pub section_bytes : Plan → List ℕ
section_bytes p = bytes section_widths (section_values p)

-- ---- a plan that a C caller keeps: these, then the kind of its beacons 1
abbrev pub plan_widths : List ℕ
plan_widths = 2 ∷ 2 ∷ 1 ∷ 1 ∷ 1 ∷ 2 ∷ 1 ∷ []

-- how many bytes a plan has: 10
abbrev pub plan_size : ℕ
plan_size = total plan_widths

-- the plan that the bytes from a place on say
unfoldable pub plan_at : List ℕ → ℕ → Plan
plan_at s at = plan_from (fields plan_widths s at)

unfoldable pub bytes_of_plan : Plan → List ℕ
bytes_of_plan p = bytes plan_widths (plan_values p)

-- a plan whose numbers fit is read back from its bytes
abbrev pub PlanReadsBack : Type 0
PlanReadsBack = (p : Plan) → Fit plan_widths (plan_values p) → plan_at (bytes_of_plan p) 0 ≡ p
