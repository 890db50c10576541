-- What the operations on masks do to the sets that they stand for: the laws of digits, at 64 of them.
-- Assumes nothing.
use mathlib.Core.Path.{◌≡◌, refl, sym, ap, ◌∙◌}
use mathlib.Core.Bool.{Bool, true, false, false≢true}
use Prim.Native.Nat.{ℕ, zero, suc, ◌-◌, ◌*◌, ◌/◌, ◌%◌, ◌^◌, ◌<◌, ◌≤◌}
use native.Mathlib.Nat.{lt_of_le_of_lt, one-mul, mod-eq_of_lt}
use native.Mathlib.Omega.{arith}
use borrow.Author.Tests.{eq-eqb, ne_eqb}
use lib.Dec.{eqb, lit<}
use lib.Pow.{pow-lt}
use lib.Bits.{bit_and, bit_or, and_le_l, and_mask}
use lib.Count.{ones}
use Rattle.slot_sets.specs.Sets.{Slots, [], ◌∷◌, has, count, is_empty, fill, no_slots, all_slots, union, minus, disjoint, slots_of, mask_of, firsts}
use Rattle.slot_sets.specs.Laws.{MasksOneToOne}
use Rattle.slot_sets.proofs.SetLaws.{empty_is-nothing}
use Rattle.slot_sets.proofs.LowestLaws.{lowest-all, count-all}
use Rattle.slot_sets.proofs.DropLaws.{without_lowest}
use Rattle.slot_sets.proofs.BitLaws.{bits_and, bits-or, bits_and_not, bits-count, bits-has, bits_one_to_one, bits-nothing, bits_below, bits-drop, mask_of-set, set_of_mask}

pub masks_one_to_one : MasksOneToOne
unfolding slots_of
masks_one_to_one a b p q e = bits_one_to_one 64 a b p q e

-- a mask has one set, and a set one mask
pub mask_back : (m : ℕ) → m < 2 ^ 64 → mask_of (slots_of m) ≡ m
unfolding slots_of
mask_back m h = mask_of-set 64 m h

pub set_back : (s : Slots 64) → slots_of (mask_of s) ≡ s
unfolding slots_of
set_back s = (set_of_mask 64 s).0

-- ---- questions
pub mask_size : (m : ℕ) → m < 2 ^ 64 → ones m ≡ count (slots_of m)
unfolding slots_of
mask_size m h = sym (bits-count 64 m h)

pub mask-nothing : slots_of 0 ≡ no_slots
unfolding slots_of
mask-nothing = bits-nothing 64

pub mask_empty : (m : ℕ) → m < 2 ^ 64 → eqb m 0 ≡ is_empty (slots_of m)
mask_empty m h = go (is_empty (slots_of m)) refl
  where
    go : (b : Bool) → is_empty (slots_of m) ≡ b → eqb m 0 ≡ b
    go true e = eq-eqb m 0 (masks_one_to_one m 0 h (lit< tt) ((empty_is-nothing 64 (slots_of m)).0 e ∙ sym mask-nothing))
    go false e = ne_eqb m 0 (λ z. false≢true (sym e ∙ (empty_is-nothing 64 (slots_of m)).1 (ap slots_of z ∙ mask-nothing)))

pub mask-apart : (a b : ℕ) → a < 2 ^ 64 → eqb (bit_and a b) 0 ≡ disjoint (slots_of a) (slots_of b)
unfolding slots_of
mask-apart a b h = mask_empty (bit_and a b) (lt_of_le_of_lt (and_le_l a b) h) ∙ ap is_empty (bits_and 64 a b)

pub mask-has : (m i : ℕ) → i < 64 → eqb (bit_and (m / 2 ^ i) 1) 1 ≡ has (slots_of m) i
unfolding slots_of
mask-has m i h = ap (λ (x : ℕ). eqb x 1) (and_mask (m / 2 ^ i) 1) ∙ sym (bits-has 64 m i h)

pub has-past : {n : ℕ} (s : Slots n) (i : ℕ) → n ≤ i → has s i ≡ false
unfolding has
has-past [] i h = refl
has-past (b ∷ s) zero h = absurd (omega arith)
has-past (b ∷ s) (suc i) h = has-past s i (omega arith)

-- ---- masks made of masks
pub mask-or : (a b : ℕ) → slots_of (bit_or a b) ≡ union (slots_of a) (slots_of b)
unfolding slots_of
mask-or a b = bits-or 64 a b

pub mask_and_not : (a b : ℕ) → b < 2 ^ 64 → slots_of (bit_and a (2 ^ 64 - 1 - b)) ≡ minus (slots_of a) (slots_of b)
unfolding slots_of
mask_and_not a b h = bits_and_not 64 a b h

pub mask-drop : (m : ℕ) → 0 < m → slots_of (bit_and m (m - 1)) ≡ without_lowest 1 (slots_of m)
unfolding slots_of
mask-drop m h = bits-drop 64 m h

-- ---- the first slots
pub mask_below : (d : ℕ) → slots_of (2 ^ d - 1) ≡ firsts d
unfolding slots_of firsts all_slots
mask_below d = bits_below 64 d

-- 64 are all, and no more are taken after them
pub firsts-past : (d : ℕ) → 64 ≤ d → firsts 64 ≡ firsts d
unfolding firsts all_slots
firsts-past d h =
    let many = count-all 64 in
    lowest-all 64 (fill 64 true) (omega (arith, many)) ∙ sym (lowest-all d (fill 64 true) (omega (arith, many)))

-- one bit set, where it is within the mask
pub mask_one : (d : ℕ) → d < 64 → (1 * 2 ^ d) % 2 ^ 64 ≡ 2 ^ d
mask_one d h = ap (λ (x : ℕ). x % 2 ^ 64) (one-mul (2 ^ d)) ∙ mod-eq_of_lt (pow-lt h)
