-- One to four slots: what is left when four have been dropped.
-- Assumes nothing.
use mathlib.Core.Path.{◌≡◌, sym, ap, ap₂, ◌∙◌}
use mathlib.Core.Bool.{Bool, true, false, not, ◌&&◌}
use Prim.Native.Nat.{ℕ, ◌-◌, ◌≤◌}
use native.Mathlib.Decide.{dec_le}
use native.Mathlib.Omega.{arith}
use borrow.Author.Tests.{eq-eqb, ne_eqb, le-leb, lt-leb, eqb-true}
use lib.Dec.{eqb, leb}
use Rattle.slot_sets.specs.Sets.{Slots, [], ◌∷◌, count, is_empty, slots_of}
use Rattle.slot_sets.proofs.DropLaws.{without_lowest}
use Rattle.slot_sets.proofs.CountLaws.{empty_by_count}
use Rattle.slot_sets.proofs.MaskLaws.{mask_empty}

pub none_dropped : (m : ℕ) → m ≡ 0 → count (slots_of 0) ≡ count (slots_of m) - 1
none_dropped m e =
    let z : count (slots_of 0) ≡ 0 = eqb-true (count (slots_of 0)) 0 (sym (empty_by_count 64 (slots_of 0)) ∙ sym (mask_empty 0 (omega arith))) in
    rw e (omega (arith, z))

one_fewer : {n : ℕ} (s : Slots n) → count (without_lowest 1 s) ≡ count s - 1
unfolding without_lowest count
one_fewer [] = omega arith
one_fewer (true ∷ s) = omega arith
one_fewer (false ∷ s) = one_fewer s

pub one-dropped : (m r : ℕ) → slots_of r ≡ without_lowest 1 (slots_of m) → count (slots_of r) ≡ count (slots_of m) - 1
one-dropped m r e = ap count e ∙ one_fewer (slots_of m)

-- a set has some slots, and none is left of it
pub some_and_few : (s left : Slots 64) (some none : Bool) (a b c : ℕ) → some ≡ is_empty s → none ≡ is_empty left
    → a ≡ count s - 1 → b ≡ a - 1 → c ≡ b - 1 → count left ≡ c - 1 → (not some && none) ≡ (leb 1 (count s) && leb (count s) 4)
some_and_few s left some none a b c p q d e f g =
    ap₂ ◌&&◌
    (ap not (p ∙ empty_by_count 64 s) ∙ least (dec_le 1 (count s)))
    (q ∙ (empty_by_count 64 left ∙ most (dec_le (count s) 4)))
  where
    least : Dec (1 ≤ count s) → not (eqb (count s) 0) ≡ leb 1 (count s)
    least (yes h) = rw (ne_eqb (count s) 0 (λ z. omega (arith, z, h)), le-leb 1 (count s) h)
    least (no n) = rw (eq-eqb (count s) 0 (omega (arith, n)), lt-leb 1 (count s) (omega (arith, n)))

    most : Dec (count s ≤ 4) → eqb (count left) 0 ≡ leb (count s) 4
    most (yes h) = rw (eq-eqb (count left) 0 (omega (arith, h, d, e, f, g)), le-leb (count s) 4 h)
    most (no n) = rw (ne_eqb (count left) 0 (λ z. omega (arith, z, n, d, e, f, g)), lt-leb (count s) 4 (omega (arith, n)))
