-- A walk from 0 meets every entry, and its answers are told apart by what they say.
-- Assumes nothing.
use Rattle.octets.proofs.Words.{◌≡◌, refl, ap, ◌∙◌, List, [], ◌∷◌, map, ℕ, zero, suc, ◌+◌, arith, ne_eqb}
use Rattle.octets.specs.Lists.{tab}
use Rattle.std.specs.Prelude.{Option, Some, None}
use Rattle.octets.proofs.RefusalLaws.{told_one}
use Rattle.frame_kinds.specs.Shape.{part_in}
use Rattle.frame_kinds.specs.Reading.{refusal_as}
use Rattle.frame_traffic.specs.declared.entry.Entry.{Entry}
use Rattle.frame_traffic.specs.Traffic.{update, entry_at, entry_from, entry_values}
use Rattle.frame_entries.specs.declared.walking.Step.{Step}
use Rattle.frame_entries.specs.Walks.{count_in, step_values}
use Rattle.frame_entries.specs.Laws.{met, MeetsEveryEntry, WalkedOneToOne}
use Rattle.frame_entries.proofs.WalkLaws.{step_end, step-one}

module _ (s : List ℕ) (z : refusal_as update s ≡ 0) where
  -- with so many entries left, f of 0 the one at the position
  meets : (left position : ℕ) → position + left ≡ count_in s → (f : ℕ → Entry) → ((i : ℕ) → f i ≡ entry_at (part_in update s) (position + i))
      → met (suc left) s position ≡ map entry_values (tab left f)
  unfolding tab
  meets zero position e f h = rw (← step_end s position z (omega (arith, e)))
  meets (suc left) position e f h =
      let here : position + 0 ≡ position = omega arith in
      let there : (i : ℕ) → position + suc i ≡ position + 1 + i = λ i. omega arith in
      let onward : position + 1 ≡ 0 → ⊥ = λ n. omega (arith, n) in
      rw (← step-one s position z (omega (arith, e)) (f 0) (h 0 ∙ ap (entry_at (part_in update s)) here), ne_eqb (position + 1) 0 onward)
      (ap (λ (rest : List (List ℕ)). entry_values (f 0) ∷ rest)
      (meets left (position + 1) (omega (arith, e)) (λ i. f (suc i)) (λ i. h (suc i) ∙ ap (entry_at (part_in update s)) (there i))))

pub meets_every_entry : MeetsEveryEntry
meets_every_entry s z = meets s z (count_in s) 0 (omega arith) _ (λ i. ap (entry_at (part_in update s)) (omega arith))

-- the step that has these values
step_from : List ℕ → Option Step
step_from [] = None
step_from (next ∷ []) = None
step_from (next ∷ v ∷ vs) = Some (record { entry = entry_from (v ∷ vs); next = next })

step_back : (a : Option Step) → step_from (step_values a) ≡ a
unfolding step_from
step_back (Some s) = refl
step_back None = refl

pub told_walked-one : WalkedOneToOne
told_walked-one = told_one step_values step_from step_back
