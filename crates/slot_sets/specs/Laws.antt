-- What holds of sets of slots, as statements, for any width.
-- Assumes nothing.
use Rattle.std.specs.Prelude.{◌≡◌, true, false, not, ◌&&◌, ◌||◌, ℕ, ◌+◌, ◌-◌, ◌^◌, ◌<◌, ◌≤◌, min, eqb, ltb}
use Rattle.slot_sets.specs.Sets.{Slots, has, count, is_empty, Subset, Apart, no_slots, union, meet, minus, disjoint, lowest, without_highest, bits, slots_of, mask_of, firsts}

-- ---- which slots are in
-- a set is what it has
abbrev pub SameSlots : Type 0
SameSlots = (n : ℕ) (s t : Slots n) → ((i : ℕ) → has s i ≡ has t i) → s ≡ t

abbrev pub NothingHas : Type 0
NothingHas = (n : ℕ) (i : ℕ) → has (no_slots {n = n}) i ≡ false

abbrev pub UnionHas : Type 0
UnionHas = (n : ℕ) (s t : Slots n) (i : ℕ) → has (union s t) i ≡ (has s i || has t i)

abbrev pub MeetHas : Type 0
MeetHas = (n : ℕ) (s t : Slots n) (i : ℕ) → has (meet s t) i ≡ (has s i && has t i)

abbrev pub MinusHas : Type 0
MinusHas = (n : ℕ) (s t : Slots n) (i : ℕ) → has (minus s t) i ≡ (has s i && not (has t i))

-- the d lowest of 64 slots are those below d
abbrev pub FirstsHas : Type 0
FirstsHas = (d i : ℕ) → has (firsts d) i ≡ (ltb i d && ltb i 64)

-- ---- the tests
-- only the set with no slots is empty
abbrev pub EmptyIsNothing : Type 0
EmptyIsNothing = (n : ℕ) (s : Slots n) → (is_empty s ≡ true → s ≡ no_slots) × (s ≡ no_slots → is_empty s ≡ true)

abbrev pub EmptyByCount : Type 0
EmptyByCount = (n : ℕ) (s : Slots n) → is_empty s ≡ eqb (count s) 0

abbrev pub DisjointIsApart : Type 0
DisjointIsApart = (n : ℕ) (s t : Slots n) → (disjoint s t ≡ true → Apart s t) × (Apart s t → disjoint s t ≡ true)

abbrev pub SubsetByMinus : Type 0
SubsetByMinus = (n : ℕ) (s t : Slots n) → (is_empty (minus s t) ≡ true → Subset s t) × (Subset s t → is_empty (minus s t) ≡ true)

-- ---- how many
abbrev pub CountFits : Type 0
CountFits = (n : ℕ) (s : Slots n) → count s ≤ n

abbrev pub CountOfUnion : Type 0
CountOfUnion = (n : ℕ) (s t : Slots n) → disjoint s t ≡ true → count (union s t) ≡ count s + count t

abbrev pub CountOfMinus : Type 0
CountOfMinus = (n : ℕ) (s t : Slots n) → count (minus s t) + count (meet s t) ≡ count s

abbrev pub CountOfSubset : Type 0
CountOfSubset = (n : ℕ) (s t : Slots n) → Subset s t → count s ≤ count t

abbrev pub CountOfFirsts : Type 0
CountOfFirsts = (d : ℕ) → count (firsts d) ≡ min d 64

-- ---- the lowest and the highest
-- the k lowest are slots of the set, with each the lower ones of it, and so many: no other set is like that
pub record Lowest {n : ℕ} (k : ℕ) (s t : Slots n) : Type 0 where
  pub inside : Subset t s
  pub lower : (i j : ℕ) → j ≤ i → has t i ≡ true → has s j ≡ true → has t j ≡ true
  pub many : count t ≡ min k (count s)

abbrev pub LowestIs : Type 0
LowestIs = (n : ℕ) (k : ℕ) (s : Slots n) → Lowest k s (lowest k s)

abbrev pub LowestIsOne : Type 0
LowestIsOne = (n : ℕ) (k : ℕ) (s t : Slots n) → Lowest k s t → t ≡ lowest k s

-- to release the highest is to keep the lowest
abbrev pub ReleasingKeeps : Type 0
ReleasingKeeps = (n : ℕ) (k : ℕ) (s : Slots n) → without_highest k s ≡ lowest (count s - k) s

abbrev pub WithoutHighestInside : Type 0
WithoutHighestInside = (n : ℕ) (k : ℕ) (s : Slots n) → Subset (without_highest k s) s

abbrev pub CountOfWithoutHighest : Type 0
CountOfWithoutHighest = (n : ℕ) (k : ℕ) (s : Slots n) → count (without_highest k s) ≡ count s - k

-- ---- masks
-- no two numbers of n binary digits are one set; so a contract that says of which set an answer is the mask has one answer
abbrev pub BitsOneToOne : Type 0
BitsOneToOne = (n a b : ℕ) → a < 2 ^ n → b < 2 ^ n → bits n a ≡ bits n b → a ≡ b

abbrev pub MasksOneToOne : Type 0
MasksOneToOne = (a b : ℕ) → a < 2 ^ 64 → b < 2 ^ 64 → slots_of a ≡ slots_of b → a ≡ b

-- a set is that of its number, and a number of n binary digits that of its set
abbrev pub SetOfMask : Type 0
SetOfMask = (n : ℕ) (s : Slots n) → (bits n (mask_of s) ≡ s) × (mask_of s < 2 ^ n)

abbrev pub MaskOfSet : Type 0
MaskOfSet = (n m : ℕ) → m < 2 ^ n → mask_of (bits n m) ≡ m
