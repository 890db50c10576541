-- Reasons that never give 14, whatever is asked: those of reading.
-- Assumes nothing.
use Rattle.octets.proofs.Words.{◌≡◌, refl, Bool, true, false, not, List, ℕ, arith, ne_eqb, eqb}
use Rattle.octets.specs.Answers.{refusing}
use Rattle.octets.proofs.AnswerLaws.{Where}
use Rattle.frame_kinds.specs.Reading.{refusal_as}
use Rattle.frame_kinds.specs.Shape.{Kind, length_of, values_in, part_in}
use Rattle.frame_kinds.proofs.ReadingLaws.{few-numbers}

pub some_number : ◌≡◌ {A = ℕ} 14 0 → ⊥
some_number e = omega arith

-- a frame is refused with 1 to 4
pub read_never : (k : Kind) (s : List ℕ) → Where (eqb (refusal_as k s) 14) ((refusing (refusal_as k s)).holds ≡ false)
read_never k s =
    rw (ne_eqb (refusal_as k s) 14 (λ e. omega (arith, e, few-numbers k.code (length_of k (k.extent (values_in k s))) (k.rule (values_in k s) (part_in k s)) s))) tt

-- a test that can only fail so
pub only_so : (test : Bool) → (test ≡ true → ⊥) → not test ≡ true
only_so true h = absurd (h refl)
only_so false h = refl
