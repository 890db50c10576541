-- The binary digits of numbers as sets, for any number of digits: what the operations on numbers do to them.
-- Assumes nothing.
use mathlib.Core.Path.{◌≡◌, refl, sym, ap, ◌∙◌}
use mathlib.Core.Bool.{Bool, true, false, not, ◌&&◌, ◌||◌}
use Prim.Native.Nat.{ℕ, zero, suc, ◌+◌, ◌-◌, ◌*◌, ◌/◌, ◌%◌, ◌^◌, ◌<◌, min, max}
use native.Mathlib.Nat.{mod-lt, zero-lt-suc, div-one}
use native.Mathlib.Numerals.{one-add}
use native.Mathlib.Omega.{arith}
use lib.Arith.{digits_div, digits_mod}
use lib.Dec.{eqb}
use lib.Pow.{pow_pos, shr-shr}
use lib.Bits.{bit_and, bit_or, and_step, or_step, and_self}
use lib.Count.{ones, ones_step}
use Rattle.slot_sets.specs.Sets.{Slots, [], ◌∷◌, has, count, fill, slotwise, no_slots, union, meet, minus, lowest, bits, mask_of}
use Rattle.slot_sets.specs.Laws.{BitsOneToOne, SetOfMask, MaskOfSet}
use Rattle.slot_sets.proofs.SetLaws.{cons}
use Rattle.slot_sets.proofs.DropLaws.{without_lowest}

two : zero < 2
two = zero-lt-suc 1

-- what holds of 0 and of 1 holds of a binary digit
digit : (P : ℕ → Type 0) → P 0 → P 1 → (x : ℕ) → x < 2 → P x
digit P a b zero h = a
digit P a b (suc zero) h = b
digit P a b (suc (suc x)) h = absurd (omega arith)

digits : (P : ℕ → ℕ → Type 0) → P 0 0 → P 0 1 → P 1 0 → P 1 1 → (x y : ℕ) → x < 2 → y < 2 → P x y
digits P a b c d x y p q = digit (λ z. P x z) (digit (λ z. P z 0) a c x p) (digit (λ z. P z 1) b d x p) y q

-- ---- and, or, and not
-- an operation that works digit by digit works slot by slot
module _ (op low : ℕ → ℕ → ℕ) (f : Bool → Bool → Bool)
    (step : (a b : ℕ) → op a b ≡ op (a / 2) (b / 2) * 2 + low (a % 2) (b % 2))
    (fits : (x y : ℕ) → x < 2 → y < 2 → low x y < 2)
    (same : (x y : ℕ) → x < 2 → y < 2 → eqb (low x y) 1 ≡ f (eqb x 1) (eqb y 1)) where
  bits_op : (n a b : ℕ) → bits n (op a b) ≡ slotwise f (bits n a) (bits n b)
  unfolding bits slotwise
  bits_op zero a b = refl
  bits_op (suc n) a b =
      let p = mod-lt a two in
      let q = mod-lt b two in
      let l = fits (a % 2) (b % 2) p q in
      let rest = op (a / 2) (b / 2) in
      cons
      (ap (λ (x : ℕ). eqb x 1) (ap (λ (x : ℕ). x % 2) (step a b) ∙ digits_mod rest l) ∙ same (a % 2) (b % 2) p q)
      (ap (bits n) (ap (λ (x : ℕ). x / 2) (step a b) ∙ digits_div rest l) ∙ bits_op n (a / 2) (b / 2))

pub bits_and : (n a b : ℕ) → bits n (bit_and a b) ≡ meet (bits n a) (bits n b)
unfolding meet
bits_and =
    bits_op bit_and min ◌&&◌ and_step (λ x y p q. omega arith)
    (digits (λ x y. eqb (min x y) 1 ≡ (eqb x 1 && eqb y 1)) refl refl refl refl)

pub bits-or : (n a b : ℕ) → bits n (bit_or a b) ≡ union (bits n a) (bits n b)
unfolding union
bits-or =
    bits_op bit_or max ◌||◌ or_step (λ x y p q. omega arith)
    (digits (λ x y. eqb (max x y) 1 ≡ (eqb x 1 || eqb y 1)) refl refl refl refl)

-- to meet what is not in a set is to lose it
meet-not : (n b : ℕ) (s : Slots n) → b < 2 ^ n → meet s (bits n (2 ^ n - 1 - b)) ≡ minus s (bits n b)
unfolding bits meet minus slotwise
meet-not zero b [] h = refl
meet-not (suc n) b (a ∷ s) h =
    let p = pow_pos n in
    let low : (2 ^ suc n - 1 - b) % 2 ≡ 1 - b % 2 = omega arith in
    let high : (2 ^ suc n - 1 - b) / 2 ≡ 2 ^ n - 1 - b / 2 = omega arith in
    let other : eqb (1 - b % 2) 1 ≡ not (eqb (b % 2) 1) = digit (λ x. eqb (1 - x) 1 ≡ not (eqb x 1)) refl refl (b % 2) (mod-lt b two) in
    cons
    (ap (λ (x : Bool). a && x) (ap (λ (x : ℕ). eqb x 1) low ∙ other))
    (ap (λ (x : ℕ). meet s (bits n x)) high ∙ meet-not n (b / 2) s (omega arith))

pub bits_and_not : (n a b : ℕ) → b < 2 ^ n → bits n (bit_and a (2 ^ n - 1 - b)) ≡ minus (bits n a) (bits n b)
bits_and_not n a b h = bits_and n a (2 ^ n - 1 - b) ∙ meet-not n b (bits n a) h

-- ---- how many, and which
count-digit : {n : ℕ} (s : Slots n) (d : ℕ) → d < 2 → count (eqb d 1 ∷ s) ≡ d + count s
unfolding count
count-digit s = digit (λ d. count (eqb d 1 ∷ s) ≡ d + count s) (omega arith) (omega arith)

pub bits-count : (n m : ℕ) → m < 2 ^ n → count (bits n m) ≡ ones m
unfolding bits count ones
bits-count zero m h = let e : m ≡ 0 = omega arith in rw e
bits-count (suc n) m h =
    count-digit (bits n (m / 2)) (m % 2) (mod-lt m two) ∙ ap (λ (x : ℕ). m % 2 + x) (bits-count n (m / 2) (omega arith)) ∙ sym (ones_step m)

pub bits-has : (n m i : ℕ) → i < n → has (bits n m) i ≡ eqb (m / 2 ^ i % 2) 1
unfolding bits has
bits-has zero m i h = absurd (omega arith)
bits-has (suc n) m zero h = ap (λ (x : ℕ). eqb (x % 2) 1) (sym (div-one m))
bits-has (suc n) m (suc i) h =
    bits-has n (m / 2) i (omega arith)
    ∙ ap (λ (x : ℕ). eqb (x % 2) 1) (shr-shr m 1 i ∙ ap (λ (e : ℕ). m / 2 ^ e) (one-add i))

-- ---- one number for each set
odd : (k : ℕ) → (1 + 2 * k) % 2 ≡ 1
odd k = omega arith

half_odd : (k : ℕ) → (1 + 2 * k) / 2 ≡ k
half_odd k = omega arith

even : (k : ℕ) → (0 + 2 * k) % 2 ≡ 0
even k = omega arith

half_even : (k : ℕ) → (0 + 2 * k) / 2 ≡ k
half_even k = omega arith

mask-digit : {n : ℕ} (s : Slots n) (d : ℕ) → d < 2 → mask_of (eqb d 1 ∷ s) ≡ d + 2 * mask_of s
unfolding mask_of
mask-digit s = digit (λ d. mask_of (eqb d 1 ∷ s) ≡ d + 2 * mask_of s) refl refl

pub mask_of-set : MaskOfSet
unfolding bits mask_of
mask_of-set zero m h = omega arith
mask_of-set (suc n) m h =
    omega (arith, mask-digit (bits n (m / 2)) (m % 2) (mod-lt m two), mask_of-set n (m / 2) (omega arith))

pub set_of_mask : SetOfMask
unfolding bits mask_of
set_of_mask zero [] = (refl, omega arith)
set_of_mask (suc n) (true ∷ s) =
    let (same, below) = set_of_mask n s in
    (cons (ap (λ (x : ℕ). eqb x 1) (odd (mask_of s))) (ap (bits n) (half_odd (mask_of s)) ∙ same), omega arith)
set_of_mask (suc n) (false ∷ s) =
    let (same, below) = set_of_mask n s in
    (cons (ap (λ (x : ℕ). eqb x 1) (even (mask_of s))) (ap (bits n) (half_even (mask_of s)) ∙ same), omega arith)

pub bits_one_to_one : BitsOneToOne
bits_one_to_one n a b p q e = sym (mask_of-set n a p) ∙ ap mask_of e ∙ mask_of-set n b q

-- ---- certain numbers
pub bits-nothing : (n : ℕ) → bits n 0 ≡ no_slots
unfolding bits no_slots fill
bits-nothing zero = refl
bits-nothing (suc n) = cons refl (bits-nothing n)

none_lowest_bits : (n : ℕ) → bits n 0 ≡ lowest zero (fill n true)
unfolding bits lowest fill
none_lowest_bits zero = refl
none_lowest_bits (suc n) = cons refl (none_lowest_bits n)

-- one less than a power of two
pub bits_below : (n d : ℕ) → bits n (2 ^ d - 1) ≡ lowest d (fill n true)
unfolding bits lowest fill
bits_below zero d = refl
bits_below (suc n) zero = none_lowest_bits (suc n)
bits_below (suc n) (suc d) =
    let p = pow_pos d in
    let odd : (2 ^ suc d - 1) % 2 ≡ 1 = omega arith in
    let half : (2 ^ suc d - 1) / 2 ≡ 2 ^ d - 1 = omega arith in
    cons (ap (λ (x : ℕ). eqb x 1) odd) (ap (bits n) half ∙ bits_below n d)

-- a number that is not 0, and one less: the lowest slot goes
pub bits-drop : (n m : ℕ) → 0 < m → bits n (bit_and m (m - 1)) ≡ without_lowest 1 (bits n m)
unfolding bits without_lowest
bits-drop zero m h = refl
bits-drop (suc n) m h =
    let rest = bit_and (m / 2) ((m - 1) / 2) in
    let l : min (m % 2) ((m - 1) % 2) < 2 = omega arith in
    let high : bit_and m (m - 1) / 2 ≡ rest = ap (λ (x : ℕ). x / 2) (and_step m (m - 1)) ∙ digits_div rest l in
    let low : bit_and m (m - 1) % 2 ≡ min (m % 2) ((m - 1) % 2) = ap (λ (x : ℕ). x % 2) (and_step m (m - 1)) ∙ digits_mod rest l in
    let even : bit_and m (m - 1) % 2 ≡ 0 = omega (arith, low) in
    cons (ap (λ (x : ℕ). eqb x 1) even) (ap (bits n) high) ∙ go (bits-drop n (m / 2)) (m % 2) refl
  where
    go : (0 < m / 2 → bits n (bit_and (m / 2) (m / 2 - 1)) ≡ without_lowest 1 (bits n (m / 2)))
        → (d : ℕ) → m % 2 ≡ d → false ∷ bits n (bit_and (m / 2) ((m - 1) / 2)) ≡ without_lowest 1 (eqb (m % 2) 1 ∷ bits n (m / 2))
    go ih zero e =
        let half : (m - 1) / 2 ≡ m / 2 - 1 = omega arith in
        rw e (cons refl (ap (λ (x : ℕ). bits n (bit_and (m / 2) x)) half ∙ ih (omega arith)))
    go ih (suc zero) e =
        let half : (m - 1) / 2 ≡ m / 2 = omega arith in
        rw e (cons refl (ap (bits n) (ap (bit_and (m / 2)) half ∙ and_self (m / 2))))
    go ih (suc (suc d)) e = absurd (omega (arith, mod-lt m two))
