-- The lowest slots of a set, and a set without its highest: the statements of specs/Laws on them, proved.
-- Assumes nothing.
use mathlib.Core.Path.{◌≡◌, refl, sym, ap, ◌∙◌}
use mathlib.Core.Bool.{Bool, true, false, false≢true}
use Prim.Native.Nat.{ℕ, zero, suc, ◌-◌, ◌≤◌, min}
use native.Mathlib.Omega.{arith}
use borrow.Author.Tests.{leb-true, leb-false}
use lib.Dec.{leb}
use Rattle.slot_sets.specs.Sets.{Slots, [], ◌∷◌, has, count, Subset, fill, no_slots, all_slots, lowest, without_highest, firsts}
use Rattle.slot_sets.specs.Laws.{CountOfFirsts, Lowest, LowestIs, LowestIsOne, ReleasingKeeps, WithoutHighestInside, CountOfWithoutHighest}
use Rattle.slot_sets.proofs.SetLaws.{cons, same-slots, nothing-has, none-lowest}

-- ---- the lowest
lowest-inside : {n : ℕ} (k : ℕ) (s : Slots n) → Subset (lowest k s) s
unfolding has lowest
lowest-inside k [] i h = h
lowest-inside zero (b ∷ s) zero h = absurd (false≢true h)
lowest-inside zero (b ∷ s) (suc i) h = lowest-inside zero s i h
lowest-inside (suc k) (true ∷ s) zero h = refl
lowest-inside (suc k) (true ∷ s) (suc i) h = lowest-inside k s i h
lowest-inside (suc k) (false ∷ s) zero h = h
lowest-inside (suc k) (false ∷ s) (suc i) h = lowest-inside (suc k) s i h

count-lowest : {n : ℕ} (k : ℕ) (s : Slots n) → count (lowest k s) ≡ min k (count s)
unfolding count lowest
count-lowest k [] = omega arith
count-lowest zero (true ∷ s) = omega (arith, count-lowest zero s)
count-lowest zero (false ∷ s) = count-lowest zero s
count-lowest (suc k) (true ∷ s) = omega (arith, count-lowest k s)
count-lowest (suc k) (false ∷ s) = count-lowest (suc k) s

lowest-lower : {n : ℕ} (k : ℕ) (s : Slots n) (i j : ℕ) → j ≤ i → has (lowest k s) i ≡ true → has s j ≡ true → has (lowest k s) j ≡ true
unfolding has lowest
lowest-lower k [] i j l h g = g
lowest-lower zero (b ∷ s) i j l h g = absurd (false≢true (sym (none-lowest (b ∷ s) i) ∙ h))
lowest-lower (suc k) (true ∷ s) i zero l h g = refl
lowest-lower (suc k) (true ∷ s) zero (suc j) l h g = absurd (omega arith)
lowest-lower (suc k) (true ∷ s) (suc i) (suc j) l h g = lowest-lower k s i j (omega arith) h g
lowest-lower (suc k) (false ∷ s) i zero l h g = g
lowest-lower (suc k) (false ∷ s) zero (suc j) l h g = absurd (omega arith)
lowest-lower (suc k) (false ∷ s) (suc i) (suc j) l h g = lowest-lower (suc k) s i j (omega arith) h g

pub lowest_is : LowestIs
lowest_is n k s = record { inside = lowest-inside k s; lower = lowest-lower k s; many = count-lowest k s }

-- a slot that is not in is passed over
lowest-past : {n : ℕ} (k : ℕ) (s : Slots n) → lowest k (false ∷ s) ≡ false ∷ lowest k s
unfolding lowest
lowest-past zero s = refl
lowest-past (suc k) s = refl

pub lowest-all : {n : ℕ} (k : ℕ) (s : Slots n) → count s ≤ k → lowest k s ≡ s
unfolding count lowest
lowest-all k [] l = refl
lowest-all zero (true ∷ s) l = absurd (omega arith)
lowest-all zero (false ∷ s) l = cons refl (lowest-all zero s l)
lowest-all (suc k) (true ∷ s) l = cons refl (lowest-all k s (omega arith))
lowest-all (suc k) (false ∷ s) l = cons refl (lowest-all (suc k) s l)

-- ---- no other set is like that
no_slot_none : {n : ℕ} (s : Slots n) → ((i : ℕ) → has s i ≡ true → ⊥) → count s ≡ 0
unfolding has count
no_slot_none [] h = refl
no_slot_none (true ∷ s) h = absurd (h zero refl)
no_slot_none (false ∷ s) h = no_slot_none s (λ i. h (suc i))

-- the slots but the first, where the numbers fit
later : {n : ℕ} {a b : Bool} {s t : Slots n} (k j : ℕ) → Lowest k (a ∷ s) (b ∷ t) → count t ≡ min j (count s) → Lowest j s t
unfolding has
later k j l e = record {
  inside = λ i. l.inside (suc i);
  lower = λ i j p. l.lower (suc i) (suc j) (omega arith);
  many = e;
}

pub lowest_is_one : LowestIsOne
unfolding has count lowest
lowest_is_one zero k [] [] l = refl
lowest_is_one (suc n) k (false ∷ s) (true ∷ t) l = absurd (false≢true (l.inside zero refl))
lowest_is_one (suc n) k (false ∷ s) (false ∷ t) l = cons refl (lowest_is_one n k s t (later k k l l.many)) ∙ sym (lowest-past k s)
lowest_is_one (suc n) zero (true ∷ s) (true ∷ t) l = absurd (omega (arith, l.many))
lowest_is_one (suc n) (suc k) (true ∷ s) (true ∷ t) l = cons refl (lowest_is_one n k s t (later (suc k) k l (omega (arith, l.many))))
lowest_is_one (suc n) zero (true ∷ s) (false ∷ t) l = cons refl (lowest_is_one n zero s t (later zero zero l (omega (arith, l.many))))
lowest_is_one (suc n) (suc k) (true ∷ s) (false ∷ t) l =
    absurd (omega (arith, l.many, no_slot_none t (λ i h. false≢true (l.lower (suc i) zero (omega arith) h refl))))

-- ---- without the highest
-- a slot below c others is kept exactly if no more than c go
lowest-kept : {n : ℕ} (k c : ℕ) (s : Slots n) → leb k c ∷ lowest (c - k) s ≡ lowest (suc c - k) (true ∷ s)
unfolding lowest
lowest-kept {n} k c s = go (leb k c) refl
  where
    go : (b : Bool) → leb k c ≡ b → leb k c ∷ lowest (c - k) s ≡ lowest (suc c - k) (true ∷ s)
    go true e =
        let more : suc c - k ≡ suc (c - k) = omega (arith, leb-true k c e) in
        cons e refl ∙ ap (λ (d : ℕ). lowest d (true ∷ s)) (sym more)
    go false e =
        let none : suc c - k ≡ 0 = omega (arith, leb-false k c e) in
        let before : c - k ≡ 0 = omega (arith, leb-false k c e) in
        cons e (ap (λ (d : ℕ). lowest d s) before) ∙ ap (λ (d : ℕ). lowest d (true ∷ s)) (sym none)

pub releasing_keeps : ReleasingKeeps
unfolding count lowest without_highest
releasing_keeps zero k [] = refl
releasing_keeps (suc n) k (true ∷ s) = cons refl (releasing_keeps n k s) ∙ lowest-kept k (count s) s
releasing_keeps (suc n) k (false ∷ s) = cons refl (releasing_keeps n k s) ∙ sym (lowest-past (count s - k) s)

pub without_highest-inside : WithoutHighestInside
without_highest-inside n k s i h =
    lowest-inside (count s - k) s i (ap (λ (t : Slots n). has t i) (sym (releasing_keeps n k s)) ∙ h)

pub count_of_without_highest : CountOfWithoutHighest
count_of_without_highest n k s =
    let many = count-lowest (count s - k) s in
    let fewer : min (count s - k) (count s) ≡ count s - k = omega arith in
    ap count (releasing_keeps n k s) ∙ many ∙ fewer

-- where no more than k are there, none are kept
pub none_kept : {n : ℕ} (k : ℕ) (s : Slots n) → count s ≤ k → no_slots ≡ without_highest k s
none_kept {n} k s l =
    let none : 0 ≡ count s - k = omega arith in
    same-slots n no_slots (lowest zero s) (λ i. nothing-has n i ∙ sym (none-lowest s i))
    ∙ ap (λ (d : ℕ). lowest d s) none
    ∙ sym (releasing_keeps n k s)

-- ---- the first slots of all
pub count-all : (n : ℕ) → count (fill n true) ≡ n
unfolding count fill
count-all zero = refl
count-all (suc n) = ap suc (count-all n)

pub count_of_firsts : CountOfFirsts
unfolding firsts all_slots
count_of_firsts d = count-lowest d (fill 64 true) ∙ ap (min d) (count-all 64)
