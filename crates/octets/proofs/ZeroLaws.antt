-- Zeros: the numbers of a layout are all 0 exactly if its bytes are; and the loops that look at zeros and store them.
-- Assumes nothing.
use Rattle.octets.proofs.Words.{◌≡◌, sym, ap, ◌∙◌, Bool, ◌&&◌, and-true, and_assoc, List, [], ◌∷◌, ℕ, zero, suc, ◌+◌, ◌*◌, ◌≤◌, ◌<◌, ℕ_discrete, add-zero, add_assoc, add-one, arith, eq-eqb, ne_eqb, eqb, length, get_or, drop_of_length-le, drop-cons}
use Rattle.octets.specs.Layouts.{total, fields}
use Rattle.octets.specs.Lists.{every}
use Rattle.octets.specs.Numbers.{num}
use Rattle.octets.specs.Zeros.{is_zero, zeros_from}

pub zero-byte : (s : List ℕ) (at : ℕ) → at < length s → zeros_from at s ≡ (is_zero (get_or s at 0) && zeros_from (at + 1) s)
unfolding every
zero-byte s at h = rw (drop-cons s at 0 h, add-one)

sum-zero : (x y : ℕ) → is_zero (x + 256 * y) ≡ (is_zero x && is_zero y)
sum-zero x y = go (ℕ_discrete x 0) (ℕ_discrete y 0)
  where
    go : Dec (x ≡ 0) → Dec (y ≡ 0) → is_zero (x + 256 * y) ≡ (is_zero x && is_zero y)
    go (yes p) (yes q) = rw (eq-eqb x 0 p, eq-eqb y 0 q, eq-eqb (x + 256 * y) 0 (omega (arith, p, q)))
    go (yes p) (no q) = rw (eq-eqb x 0 p, ne_eqb y 0 q, ne_eqb (x + 256 * y) 0 (λ z. q (omega (arith, z))))
    go (no p) d = rw (ne_eqb x 0 p, ne_eqb (x + 256 * y) 0 (λ z. p (omega (arith, z))))

number-zero : (w : ℕ) (s : List ℕ) (at : ℕ) → at + w ≤ length s → zeros_from at s ≡ (is_zero (num w s at) && zeros_from (at + w) s)
unfolding num
number-zero zero s at h = rw (add-zero at)
number-zero (suc w) s at h =
    let e : at + suc w ≡ at + 1 + w = omega arith in
    zero-byte s at (omega arith) ∙
    rw (number-zero w s (at + 1) (omega arith), sum-zero (get_or s at 0) (num w s (at + 1)), e)
    (sym (and_assoc (is_zero (get_or s at 0)) (is_zero (num w s (at + 1))) (zeros_from (at + 1 + w) s)))

pub fields-zero : (ws s : List ℕ) (at : ℕ) → at + total ws ≤ length s → zeros_from at s ≡ (every is_zero (fields ws s at) && zeros_from (at + total ws) s)
unfolding every
fields-zero [] s at h = rw (add-zero at)
fields-zero (w ∷ ws) s at h =
    number-zero w s at (omega arith) ∙
    rw (fields-zero ws s (at + w) (omega arith), add_assoc at w (total ws))
    (sym (and_assoc (is_zero (num w s at)) (every is_zero (fields ws s (at + w))) (zeros_from (at + (w + total ws)) s)))

-- ---- the loop that looks at the bytes
module _ (s : List ℕ) (place : ℕ) (ok all : Bool) (e : (ok && zeros_from place s) ≡ all) where
  pub zeros-turn : place < length s → (ok && eqb (get_or s place 0) 0 && zeros_from (place + 1) s) ≡ all
  zeros-turn h = and_assoc ok (is_zero (get_or s place 0)) (zeros_from (place + 1) s) ∙ (sym (ap (λ (b : Bool). ok && b) (zero-byte s place h)) ∙ e)

  pub zeros_end : length s ≤ place → ok ≡ all
  unfolding every
  zeros_end h = sym (and-true ok) ∙ (rw (drop_of_length-le s h) at e)
