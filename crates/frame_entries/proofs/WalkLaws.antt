-- A step of the walk, case by case.
-- Assumes nothing.
use Rattle.octets.proofs.Words.{◌≡◌, refl, sym, ap, subst, ◌∙◌, Bool, true, false, List, [], ◌∷◌, ℕ, ◌+◌, ◌≤◌, ◌<◌, arith, lt-ltb, le-ltb, ltb-true, ltb-false, eqb-true, eqb-false, eqb, ltb, get_or}
use Rattle.std.specs.Prelude.{Some}
use Rattle.octets.specs.Answers.{Said, accepted, refused}
use Rattle.octets.proofs.AnswerLaws.{unless-none, unless-some}
use Rattle.frame_kinds.specs.Shape.{part_in}
use Rattle.frame_kinds.specs.Reading.{refusal_as}
use Rattle.frame_traffic.proofs.UpdateLaws.{updating}
use Rattle.frame_traffic.specs.declared.entry.Entry.{Entry}
use Rattle.frame_traffic.specs.Traffic.{update, entry_at, entry_values}
use Rattle.frame_entries.specs.declared.walking.Step.{Step}
use Rattle.frame_entries.specs.Walks.{count_in, walk_of, step_values}

module _ (s : List ℕ) (position : ℕ) where
  pub step-refused : (n : ℕ) → n ≡ refusal_as update s → (n ≡ 0 → ⊥) → refused n ≡ walk_of s position
  unfolding walk_of
  step-refused n e z = rw (← e) (sym (unless-some n _ z))

  module _ (z : refusal_as update s ≡ 0) where
    pub step_end : count_in s ≤ position → accepted (0 ∷ []) ≡ walk_of s position
    unfolding walk_of
    step_end h = sym (unless-none _ _ z ∙ rw (le-ltb position (count_in s) h))

    pub step-one : position < count_in s → (entry : Entry) → entry ≡ entry_at (part_in update s) position
        → accepted ((position + 1) ∷ entry_values entry) ≡ walk_of s position
    unfolding walk_of
    step-one h entry e = rw e (sym (unless-none _ _ z ∙ rw (lt-ltb position (count_in s) h)))

-- what holds of a refusal with a number, of the end, and of the entry at the position, holds of the step
module _ (s : List ℕ) (position : ℕ) (P : Said → Type 0) where
  by-step : ((n : ℕ) → (n ≡ 0 → ⊥) → P (refused n)) → (refusal_as update s ≡ 0 → P (accepted (0 ∷ [])))
      → (refusal_as update s ≡ 0 → position < count_in s → P (accepted ((position + 1) ∷ entry_values (entry_at (part_in update s) position))))
      → P (walk_of s position)
  by-step none end one = go (eqb (refusal_as update s) 0) refl (ltb position (count_in s)) refl
    where
      go : (b : Bool) → eqb (refusal_as update s) 0 ≡ b → (m : Bool) → ltb position (count_in s) ≡ m → P (walk_of s position)
      go true q true r =
          let z = eqb-true (refusal_as update s) 0 q in
          let h = ltb-true position (count_in s) r in
          subst P (step-one s position z h _ refl) (one z h)
      go true q false r = let z = eqb-true (refusal_as update s) 0 q in subst P (step_end s position z (ltb-false position (count_in s) r)) (end z)
      go false q m r = let n = eqb-false (refusal_as update s) 0 q in subst P (step-refused s position _ refl n) (none _ n)

-- an update has at most 24 entries, so the position behind one is at most 24
pub next-few : (s : List ℕ) (position : ℕ) (step : Step) → accepted (step_values (Some step)) ≡ walk_of s position → step.next ≤ 24
next-few s position step =
    by-step s position (λ said. accepted (step_values (Some step)) ≡ said → step.next ≤ 24)
    (λ n z e. let next : step.next ≡ 0 = first e in omega (arith, next))
    (λ z e. let next : step.next ≡ 0 = first e in omega (arith, next))
    (λ z h e. let next : step.next ≡ position + 1 = first e in omega (arith, next, (updating s z).few, h))
  where
    first : {said : Said} → accepted (step_values (Some step)) ≡ said → step.next ≡ get_or said.values 0 0
    first e = ap (λ (said : Said). get_or said.values 0 0) e
