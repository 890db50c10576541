-- Which slots a set has: the statements of specs/Laws on that and on the tests, proved, and sets within sets.
-- Assumes nothing.
use mathlib.Core.Path.{◌≡◌, refl, sym, ap, ap₂, ◌∙◌}
use mathlib.Core.Bool.{Bool, true, false, not, ◌&&◌, ◌||◌, false≢true, and-false, or-true, and-eq-true_iff}
use Prim.Native.Nat.{ℕ, zero, suc}
use borrow.Author.Tests.{not-true}
use lib.Dec.{ltb, leb-zero, leb-suc-zero, leb-suc-suc}
use Rattle.slot_sets.specs.Sets.{Slots, [], ◌∷◌, has, is_empty, Subset, fill, slotwise, no_slots, all_slots, union, meet, minus, lowest, firsts}
use Rattle.slot_sets.specs.Laws.{SameSlots, NothingHas, UnionHas, MeetHas, MinusHas, FirstsHas, EmptyIsNothing, DisjointIsApart, SubsetByMinus}

pub cons : {n : ℕ} {a b : Bool} {s t : Slots n} → a ≡ b → s ≡ t → a ∷ s ≡ b ∷ t
cons p q = ap₂ ◌∷◌ p q

pub same-slots : SameSlots
unfolding has
same-slots zero [] [] h = refl
same-slots (suc n) (a ∷ s) (b ∷ t) h = cons (h zero) (same-slots n s t (λ i. h (suc i)))

-- ---- slot by slot
has-slotwise : {n : ℕ} (f : Bool → Bool → Bool) → f false false ≡ false → (s t : Slots n) (i : ℕ) → has (slotwise f s t) i ≡ f (has s i) (has t i)
unfolding has slotwise
has-slotwise f e [] [] i = sym e
has-slotwise f e (a ∷ s) (b ∷ t) zero = refl
has-slotwise f e (a ∷ s) (b ∷ t) (suc i) = has-slotwise f e s t i

pub union-has : UnionHas
unfolding union
union-has n s t i = has-slotwise ◌||◌ refl s t i

pub meet-has : MeetHas
unfolding meet
meet-has n s t i = has-slotwise ◌&&◌ refl s t i

pub minus-has : MinusHas
unfolding minus
minus-has n s t i = has-slotwise (λ a b. a && not b) refl s t i

pub nothing-has : NothingHas
unfolding has no_slots fill
nothing-has zero i = refl
nothing-has (suc n) zero = refl
nothing-has (suc n) (suc i) = nothing-has n i

-- ---- those below a slot
pub none-lowest : {n : ℕ} (s : Slots n) (i : ℕ) → has (lowest zero s) i ≡ false
unfolding has lowest
none-lowest [] i = refl
none-lowest (b ∷ s) zero = refl
none-lowest (b ∷ s) (suc i) = none-lowest s i

below-has : (n d i : ℕ) → has (lowest d (fill n true)) i ≡ (ltb i d && ltb i n)
unfolding has lowest fill
below-has zero d i = sym (ap (λ (b : Bool). ltb i d && b) (leb-suc-zero i) ∙ and-false (ltb i d))
below-has (suc n) zero i = none-lowest (fill (suc n) true) i ∙ sym (ap (λ (b : Bool). b && ltb i (suc n)) (leb-suc-zero i))
below-has (suc n) (suc d) zero = sym (ap₂ ◌&&◌ (leb-suc-suc zero d ∙ leb-zero d) (leb-suc-suc zero n ∙ leb-zero n))
below-has (suc n) (suc d) (suc i) = below-has n d i ∙ sym (ap₂ ◌&&◌ (leb-suc-suc (suc i) d) (leb-suc-suc (suc i) n))

pub firsts-has : FirstsHas
unfolding firsts all_slots
firsts-has d i = below-has 64 d i

-- ---- the tests
empty_nothing : {n : ℕ} (s : Slots n) → is_empty s ≡ true → s ≡ fill n false
unfolding is_empty fill
empty_nothing [] h = refl
empty_nothing (true ∷ s) h = absurd (false≢true h)
empty_nothing (false ∷ s) h = cons refl (empty_nothing s h)

nothing_empty : (n : ℕ) → is_empty (fill n false) ≡ true
unfolding is_empty fill
nothing_empty zero = refl
nothing_empty (suc n) = nothing_empty n

pub empty_is-nothing : EmptyIsNothing
unfolding no_slots
empty_is-nothing n s = (empty_nothing s, λ e. ap is_empty e ∙ nothing_empty n)

-- a set is empty exactly if it has no slot
empty_has : {n : ℕ} (s : Slots n) → is_empty s ≡ true → (i : ℕ) → has s i ≡ false
unfolding no_slots
empty_has {n} s h i = ap (λ (t : Slots n). has t i) (empty_nothing s h) ∙ nothing-has n i

has_empty : {n : ℕ} (s : Slots n) → ((i : ℕ) → has s i ≡ false) → is_empty s ≡ true
has_empty {n} s h = (empty_is-nothing n s).1 (same-slots n s no_slots (λ i. h i ∙ sym (nothing-has n i)))

not-both : (a b : Bool) → (a && b) ≡ false → a ≡ true → b ≡ true → ⊥
not-both true b e p q = false≢true (sym e ∙ q)
not-both false b e p q = false≢true p

pub never_both : (a b : Bool) → (a ≡ true → b ≡ true → ⊥) → (a && b) ≡ false
never_both true true h = absurd (h refl refl)
never_both true false h = refl
never_both false b h = refl

pub disjoint_is_apart : DisjointIsApart
disjoint_is_apart n s t = (
  λ e i. not-both (has s i) (has t i) (sym (meet-has n s t i) ∙ empty_has (meet s t) e i),
  λ h. has_empty (meet s t) (λ i. meet-has n s t i ∙ never_both (has s i) (has t i) (h i)),
)

only_with : (a b : Bool) → (a && not b) ≡ false → a ≡ true → b ≡ true
only_with true true e p = refl
only_with true false e p = sym e
only_with false b e p = absurd (false≢true p)

never_without : (a b : Bool) → (a ≡ true → b ≡ true) → (a && not b) ≡ false
never_without true b h = ap not (h refl)
never_without false b h = refl

pub subset_by_minus : SubsetByMinus
subset_by_minus n s t = (
  λ e i. only_with (has s i) (has t i) (sym (minus-has n s t i) ∙ empty_has (minus s t) e i),
  λ h. has_empty (minus s t) (λ i. minus-has n s t i ∙ never_without (has s i) (has t i) (h i)),
)

-- ---- what a slot of a union or a difference is in, and sets within sets
module _ {n : ℕ} (s t : Slots n) where
  pub union-either : {P : Type 0} (i : ℕ) → has (union s t) i ≡ true → (has s i ≡ true → P) → (has t i ≡ true → P) → P
  union-either {P} i h f g = go (has s i) refl (sym (union-has n s t i) ∙ h)
    where
      go : (b : Bool) → has s i ≡ b → (b || has t i) ≡ true → P
      go true q e = f q
      go false q e = g e

  pub in_union : (u : Slots n) → Subset s u → Subset t u → Subset (union s t) u
  in_union u f g i h = union-either i h (f i) (g i)

  pub in_left : Subset s (union s t)
  in_left i h = union-has n s t i ∙ ap (λ (b : Bool). b || has t i) h

  pub in_right : Subset t (union s t)
  in_right i h = union-has n s t i ∙ (ap (λ (b : Bool). has s i || b) h ∙ or-true (has s i))

  pub minus-both : (i : ℕ) → has (minus s t) i ≡ true → (has s i ≡ true) × (has t i ≡ false)
  minus-both i h =
      let (there, missing) = (and-eq-true_iff (has s i) (not (has t i))).0 (sym (minus-has n s t i) ∙ h) in
      (there, not-true (has t i) missing)

  -- a set that lies in another is what both have
  pub meet_subset : Subset t s → meet s t ≡ t
  meet_subset h = same-slots n (meet s t) t (λ i. meet-has n s t i ∙ go (has s i) (has t i) (h i))
    where
      go : (a b : Bool) → (b ≡ true → a ≡ true) → (a && b) ≡ b
      go true b f = refl
      go false true f = f refl
      go false false f = refl
