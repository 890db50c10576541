-- Sets of slots, of any width; a mask of 64 bits is only how the code keeps one.
-- Assumes nothing.
use Rattle.std.specs.Prelude.{◌≡◌, Bool, true, false, not, ◌&&◌, ◌||◌, cond, ℕ, zero, suc, ◌+◌, ◌*◌, ◌/◌, ◌%◌, eqb, leb}

-- ---- sets
-- a set of slots below n: for each slot, lowest first, whether it is in the set
pub data Slots : ℕ → Type 0 where
  [] : Slots zero
  ◌∷◌ : {n : ℕ} → Bool → Slots n → Slots (suc n)

infixr 40 ◌∷◌
-- whether slot i is in the set: none is past the end
unfoldable pub has : {n : ℕ} → Slots n → ℕ → Bool
has [] i = false
has (b ∷ s) zero = b
has (b ∷ s) (suc i) = has s i

-- how many slots there are in it
unfoldable pub count : {n : ℕ} → Slots n → ℕ
count [] = zero
count (true ∷ s) = suc (count s)
count (false ∷ s) = count s

unfoldable pub is_empty : {n : ℕ} → Slots n → Bool
is_empty [] = true
is_empty (b ∷ s) = not b && is_empty s

-- each slot of the first is in the second
abbrev pub Subset : {n : ℕ} → Slots n → Slots n → Type 0
Subset s t = (i : ℕ) → has s i ≡ true → has t i ≡ true

-- no slot is in both
abbrev pub Apart : {n : ℕ} → Slots n → Slots n → Type 0
Apart s t = (i : ℕ) → has s i ≡ true → has t i ≡ true → ⊥

-- ---- slot by slot
unfoldable pub fill : (n : ℕ) → Bool → Slots n
fill zero b = []
fill (suc n) b = b ∷ fill n b

unfoldable pub slotwise : {n : ℕ} → (Bool → Bool → Bool) → Slots n → Slots n → Slots n
slotwise f [] [] = []
slotwise f (a ∷ s) (b ∷ t) = f a b ∷ slotwise f s t

unfoldable pub no_slots : {n : ℕ} → Slots n
no_slots {n} = fill n false

unfoldable pub all_slots : {n : ℕ} → Slots n
all_slots {n} = fill n true

unfoldable pub union : {n : ℕ} → Slots n → Slots n → Slots n
union s t = slotwise ◌||◌ s t

unfoldable pub meet : {n : ℕ} → Slots n → Slots n → Slots n
meet s t = slotwise ◌&&◌ s t

-- what is in the first and not in the second
unfoldable pub minus : {n : ℕ} → Slots n → Slots n → Slots n
minus s t = slotwise (λ a b. a && not b) s t

abbrev pub disjoint : {n : ℕ} → Slots n → Slots n → Bool
disjoint s t = is_empty (meet s t)

-- ---- by their order
-- the k lowest slots of s, all of s where it has fewer
unfoldable pub lowest : {n : ℕ} → ℕ → Slots n → Slots n
lowest k [] = []
lowest zero (b ∷ s) = false ∷ lowest zero s
lowest (suc k) (true ∷ s) = true ∷ lowest k s
lowest (suc k) (false ∷ s) = false ∷ lowest (suc k) s

-- s without its k highest slots, nothing where it has fewer: a slot stays where k others are above it
unfoldable pub without_highest : {n : ℕ} → ℕ → Slots n → Slots n
without_highest k [] = []
without_highest k (b ∷ s) = (b && leb k (count s)) ∷ without_highest k s

-- ---- masks
-- the n lowest binary digits of a number, lowest first: slot i is in where digit i is 1
unfoldable pub bits : (n : ℕ) → ℕ → Slots n
bits zero m = []
bits (suc n) m = eqb (m % 2) 1 ∷ bits n (m / 2)

-- what a mask of 64 bits stands for
unfoldable pub slots_of : ℕ → Slots 64
slots_of m = bits 64 m

-- the number whose binary digits say a set
unfoldable pub mask_of : {n : ℕ} → Slots n → ℕ
mask_of [] = 0
mask_of (b ∷ s) = cond b 1 0 + 2 * mask_of s

-- the d lowest slots of 64, all of them where d is more
unfoldable pub firsts : ℕ → Slots 64
firsts d = lowest d all_slots
