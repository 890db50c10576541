-- A set without its lowest slots: what is left as they are dropped one by one.
-- Assumes nothing.
use mathlib.Core.Path.{◌≡◌, refl}
use mathlib.Core.Bool.{true, false, false≢true}
use Prim.Native.Nat.{ℕ, zero, suc, ◌≤◌}
use native.Mathlib.Omega.{arith}
use Rattle.slot_sets.specs.Sets.{Slots, [], ◌∷◌, is_empty, slotwise, minus, lowest}
use Rattle.slot_sets.proofs.SetLaws.{cons}

-- s without its k lowest slots, which is what k turns leave
unfoldable pub without_lowest : {n : ℕ} → ℕ → Slots n → Slots n
without_lowest zero s = s
without_lowest (suc k) [] = []
without_lowest (suc k) (true ∷ s) = false ∷ without_lowest k s
without_lowest {n = suc n} (suc k) (false ∷ s) = false ∷ without_lowest {n = n} (suc k) s

pub one_more : {n : ℕ} (k : ℕ) (s : Slots n) → without_lowest 1 (without_lowest k s) ≡ without_lowest (suc k) s
unfolding without_lowest
one_more zero s = refl
one_more (suc k) [] = refl
one_more (suc k) (true ∷ s) = cons refl (one_more k s)
one_more {n = suc n} (suc k) (false ∷ s) = cons refl (one_more {n = n} (suc k) s)

-- where none are left, none are left later
pub none_left : {n : ℕ} (j k : ℕ) (s : Slots n) → j ≤ k → is_empty (without_lowest j s) ≡ true → without_lowest j s ≡ without_lowest k s
unfolding without_lowest is_empty
none_left zero zero s l e = refl
none_left zero (suc k) [] l e = refl
none_left zero (suc k) (true ∷ s) l e = absurd (false≢true e)
none_left zero (suc k) (false ∷ s) l e = cons refl (none_left zero (suc k) s l e)
none_left (suc j) zero s l e = absurd (omega arith)
none_left (suc j) (suc k) [] l e = refl
none_left (suc j) (suc k) (true ∷ s) l e = cons refl (none_left j k s (omega arith) e)
none_left {n = suc n} (suc j) (suc k) (false ∷ s) l e = cons refl (none_left {n = n} (suc j) (suc k) s l e)

-- what is not left are the lowest
pub minus-left : {n : ℕ} (k : ℕ) (s : Slots n) → minus s (without_lowest k s) ≡ lowest k s
unfolding minus slotwise without_lowest lowest
minus-left zero [] = refl
minus-left (suc k) [] = refl
minus-left zero (true ∷ s) = cons refl (minus-left zero s)
minus-left zero (false ∷ s) = cons refl (minus-left zero s)
minus-left (suc k) (true ∷ s) = cons refl (minus-left k s)
minus-left {n = suc n} (suc k) (false ∷ s) = cons refl (minus-left {n = n} (suc k) s)
