-- What is known of bytes that are not refused, and of the number that refuses the others.
-- Assumes nothing.
use Rattle.octets.proofs.Words.{◌≡◌, refl, ◌∙◌, Bool, true, false, not, ◌||◌, cond, List, ℕ, ◌≤◌, arith, eqb-true, ltb-false, eqb, ltb, length, drop, length-take, length-drop}
use Rattle.octets.specs.Numbers.{num}
use Rattle.frame_kinds.specs.Reading.{is_sealed, read_refusal, refusal_as}
use Rattle.frame_kinds.specs.Shape.{Kind, place_of, values_in, part_in}

-- what is known of bytes that are not refused
pub record Passed (code size : ℕ) (good : Bool) (s : List ℕ) : Type 0 where
  pub short : length s ≤ 255
  pub typed : num 1 s 0 ≡ code
  pub sized : length s ≡ size
  pub summed : is_sealed s ≡ true
  pub kept : good ≡ true

pub passed : (code size : ℕ) (good : Bool) (s : List ℕ) → read_refusal code size good s ≡ 0 → Passed code size good s
unfolding read_refusal
passed code size good s e = go (eqb (length s) 0) (ltb 255 (length s)) (eqb (num 1 s 0) code) (eqb (length s) size) (is_sealed s) good refl refl refl refl refl e
  where
    go : (a b t l x g : Bool) → ltb 255 (length s) ≡ b → eqb (num 1 s 0) code ≡ t → eqb (length s) size ≡ l → is_sealed s ≡ x → good ≡ g
        → ◌≡◌ {A = ℕ} (cond (a || b) 1 (cond (not t) 2 (cond (not l) 1 (cond (not x) 3 (cond (not g) 4 0))))) 0 → Passed code size good s
    go true b t l x g o p q r u z = absurd (omega arith)
    go false true t l x g o p q r u z = absurd (omega arith)
    go false false false l x g o p q r u z = absurd (omega arith)
    go false false true false x g o p q r u z = absurd (omega arith)
    go false false true true false g o p q r u z = absurd (omega arith)
    go false false true true true false o p q r u z = absurd (omega arith)
    go false false true true true true o p q r u z =
        record { short = ltb-false 255 (length s) o; typed = eqb-true _ _ p; sized = eqb-true _ _ q; summed = r; kept = u }

-- their part is as long as their values say, and is not cut
pub part_length : (k : Kind) (s : List ℕ) → refusal_as k s ≡ 0 → length (part_in k s) ≡ k.extent (values_in k s)
part_length k s e =
    length-take (k.extent (values_in k s)) (drop (place_of k) s) ∙ omega (arith, length-drop (place_of k) s, (passed _ _ _ s e).sized)

-- what is read is refused with 1 to 4, if at all
pub few-numbers : (code size : ℕ) (good : Bool) (s : List ℕ) → read_refusal code size good s ≤ 4
unfolding read_refusal
few-numbers code size good s = go (eqb (length s) 0 || ltb 255 (length s)) (eqb (num 1 s 0) code) (eqb (length s) size) (is_sealed s) good
  where
    go : (m t l x g : Bool) → cond m 1 (cond (not t) 2 (cond (not l) 1 (cond (not x) 3 (cond (not g) 4 0)))) ≤ 4
    go true t l x g = omega arith
    go false false l x g = omega arith
    go false true false x g = omega arith
    go false true true false g = omega arith
    go false true true true false = omega arith
    go false true true true true = omega arith
