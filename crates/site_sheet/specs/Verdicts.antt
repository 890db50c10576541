-- The verdict on a sheet: who offends, which of them is the first, and what the check of a sheet says.
-- Assumes nothing.
use Rattle.std.specs.Prelude.{ℕ, Bool, not, ◌&&◌, ◌||◌, cond, List, [], ◌∷◌, ◌++◌, Result, eqb, leb, ltb}
use Rattle.octets.specs.Answers.{Said, accepted, first, unless}
use Rattle.octets.specs.Refusals.{told_by}
use Rattle.octets.specs.declared.refusals.Refusal.{Refusal}
use Rattle.slot_sets.specs.Sets.{count, is_empty, minus, disjoint, firsts}
use Rattle.site_plan.specs.declared.plan.Plan.{Plan}
use Rattle.site_sheet.specs.declared.checking.Verdict.{Verdict as Given}
use Rattle.site_sheet.specs.Sheets.{Proposed, Link, near, reasons}

-- ---- who offends
-- 1 to 4 slots, all below d
abbrev pub unit_rule : ℕ → Proposed → Bool
unit_rule d g = leb 1 (count g.slots) && leb (count g.slots) 4 && is_empty (minus g.slots (firsts d))

-- two units, the lower first, that share a slot and are near
abbrev pub clash : List Link → List Proposed → Proposed → Proposed → Bool
clash links sheet g h = ltb g.unit h.unit && not (disjoint g.slots h.slots) && near links sheet g.unit h.unit

-- who is named: a pair by its lower and its higher unit, a unit alone with 0 for the higher
pub record Named : Type 0 where
  pub lower : ℕ
  pub higher : ℕ

abbrev pub both : ℕ → ℕ → Named
both u v = record { lower = u; higher = v }

abbrev pub alone : ℕ → Named
alone u = both u 0

-- what each element gives, one after the other
unfoldable pub gather : {A : Type 0} → (A → List Named) → List A → List Named
gather f [] = []
gather f (a ∷ l) = f a ++ gather f l

-- this one where the test holds
abbrev pub only : Bool → Named → List Named
only test n = cond test (n ∷ []) []

abbrev pub bad_unit : ℕ → Proposed → List Named
bad_unit d g = only (not (unit_rule d g)) (alone g.unit)

unfoldable pub bad_units : ℕ → List Proposed → List Named
bad_units d sheet = gather (bad_unit d) sheet

-- each two elements that a test holds of, by their units: those that one begins, and all
abbrev pub pairs_with : {A : Type 0} → (A → A → Bool) → (A → ℕ) → A → List A → List Named
pairs_with test unit g l = gather (λ h. only (test g h) (both (unit g) (unit h))) l

abbrev pub pairs : {A : Type 0} → (A → A → Bool) → (A → ℕ) → List A → List Named
pairs test unit l = gather (λ g. pairs_with test unit g l) l

abbrev pub unit_of : Proposed → ℕ
unit_of g = g.unit

unfoldable pub bad_pairs : List Link → List Proposed → List Named
bad_pairs links sheet = pairs (clash links sheet) unit_of sheet

-- ---- the first of them
-- by the lower unit, then by the higher
abbrev pub up_to : Named → Named → Bool
up_to m n = ltb m.lower n.lower || (eqb m.lower n.lower && leb m.higher n.higher)

pub data Found : Type 0 where
  nobody : Found
  found : Named → Found

abbrev pub sooner : Named → Found → Named
sooner m nobody = m
sooner m (found n) = cond (up_to m n) m n

unfoldable pub soonest : List Named → Found
soonest [] = nobody
soonest (m ∷ l) = found (sooner m (soonest l))

-- ---- the verdict
pub data Verdict : Type 0 where
  fine : Verdict
  unit : ℕ → Verdict
  pair : ℕ → ℕ → Verdict

-- units first
abbrev pub judged : Found → Found → Verdict
judged (found n) pairs = unit n.lower
judged nobody (found n) = pair n.lower n.higher
judged nobody nobody = fine

unfoldable pub verdict : ℕ → List Link → List Proposed → Verdict
verdict d links sheet = judged (soonest (bad_units d sheet)) (soonest (bad_pairs links sheet))

-- how many units it names, and these
abbrev pub verdict_values : Verdict → List ℕ
verdict_values fine = 0 ∷ []
verdict_values (unit u) = 1 ∷ u ∷ []
verdict_values (pair u v) = 2 ∷ u ∷ v ∷ []

-- ---- the check
unfoldable pub check_sheet : Plan → List Link → List Proposed → Said
check_sheet p links sheet = unless (first (reasons p links sheet)) (accepted (verdict_values (verdict p.data_slots links sheet)))

-- the verdict that an answer gives
abbrev pub given : Given → Verdict
given Given.Fine = fine
given (Given.Unit u) = unit u
given (Given.Pair n) = pair n.lower n.higher

-- what each case of an answer says
abbrev pub told_checked : Result Given Refusal → Said
told_checked answer = told_by (λ v. verdict_values (given v)) answer
