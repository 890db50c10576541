-- How many slots: the statements of specs/Laws on counts, proved.
-- Assumes nothing.
use mathlib.Core.Path.{refl}
use mathlib.Core.Bool.{true, false, false≢true}
use Prim.Native.Nat.{zero, suc}
use native.Mathlib.Omega.{arith}
use lib.Dec.{eqb-suc-zero}
use Rattle.slot_sets.specs.Sets.{[], ◌∷◌, has, count, is_empty, slotwise, union, meet, minus}
use Rattle.slot_sets.specs.Laws.{EmptyByCount, CountFits, CountOfUnion, CountOfMinus, CountOfSubset}

pub count_fits : CountFits
unfolding count
count_fits zero [] = omega arith
count_fits (suc n) (true ∷ s) = omega (arith, count_fits n s)
count_fits (suc n) (false ∷ s) = omega (arith, count_fits n s)

pub empty_by_count : EmptyByCount
unfolding count is_empty
empty_by_count zero [] = refl
empty_by_count (suc n) (true ∷ s) = rw (eqb-suc-zero (count s))
empty_by_count (suc n) (false ∷ s) = empty_by_count n s

pub count_of_union : CountOfUnion
unfolding count is_empty union meet slotwise
count_of_union zero [] [] h = refl
count_of_union (suc n) (true ∷ s) (true ∷ t) h = absurd (false≢true h)
count_of_union (suc n) (true ∷ s) (false ∷ t) h = omega (arith, count_of_union n s t h)
count_of_union (suc n) (false ∷ s) (true ∷ t) h = omega (arith, count_of_union n s t h)
count_of_union (suc n) (false ∷ s) (false ∷ t) h = count_of_union n s t h

pub count_of_minus : CountOfMinus
unfolding count minus meet slotwise
count_of_minus zero [] [] = refl
count_of_minus (suc n) (true ∷ s) (true ∷ t) = omega (arith, count_of_minus n s t)
count_of_minus (suc n) (true ∷ s) (false ∷ t) = omega (arith, count_of_minus n s t)
count_of_minus (suc n) (false ∷ s) (b ∷ t) = count_of_minus n s t

pub count_of_subset : CountOfSubset
unfolding count has
count_of_subset zero [] [] h = omega arith
count_of_subset (suc n) (true ∷ s) (true ∷ t) h = omega (arith, count_of_subset n s t (λ i. h (suc i)))
count_of_subset (suc n) (true ∷ s) (false ∷ t) h = absurd (false≢true (h zero refl))
count_of_subset (suc n) (false ∷ s) (true ∷ t) h = omega (arith, count_of_subset n s t (λ i. h (suc i)))
count_of_subset (suc n) (false ∷ s) (false ∷ t) h = count_of_subset n s t (λ i. h (suc i))
