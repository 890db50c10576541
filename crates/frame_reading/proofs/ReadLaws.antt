-- An arm of a match on the type: what is said of the kind is what its type says.
-- Assumes nothing.
use Rattle.octets.proofs.Words.{◌≡◌, sym, ap, ◌∙◌, List, ◌∷◌, ℕ}
use Rattle.octets.specs.Answers.{accepted, unless}
use Rattle.octets.specs.Numbers.{num}
use Rattle.frame_kinds.specs.Reading.{refusal_as, read_as}
use Rattle.frame_kinds.specs.Shape.{Kind, values_in}
use Rattle.frames.specs.Frames.{refusal_typed, read_typed, read_frame}
use Rattle.frames.proofs.KindLaws.{of_type}

-- the kind is the one that has the type: `same` and `read` are `refl` of each
module _ (k : Kind) (t : ℕ) (s : List ℕ) (typed : t ≡ k.code) (n : ℕ) (same : refusal_typed k.code s ≡ refusal_as k s) where
  pub wanted_as : n ≡ refusal_as k s → n ≡ refusal_typed t s
  wanted_as e = e ∙ sym (ap (λ (c : ℕ). refusal_typed c s) typed ∙ same)

  pub frame_as : (vs : List ℕ) → read_typed k.code s ≡ read_as k s → t ≡ num 1 s 0 → n ≡ refusal_typed k.code s → vs ≡ values_in k s
      → unless n (accepted (k.code ∷ vs)) ≡ read_frame s
  frame_as vs read e r v = rw (r ∙ same, v) (sym (of_type s k.code (sym e ∙ typed) ∙ read))
