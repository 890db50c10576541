-- The loops that go over the rows of a book from the last down: what the rows from a place on hold, how many are free, whether they are within rule, and
-- where a unit is among them.
-- Assumes nothing.
use Rattle.octets.proofs.Words.{◌≡◌, sym, ap, ◌∙◌, Bool, true, false, ◌&&◌, cond, List, [], ◌∷◌, ℕ, suc, ◌+◌, ◌-◌, ◌≤◌, ◌<◌, add-zero, one-add, arith, lt-ltb, leb-suc-suc, eqb, ltb, length, get_or, drop}
use Rattle.std.specs.Prelude.{Option, Some, None}
use mir.Val.{bool_byte}
use Rattle.slot_sets.specs.Sets.{slots_of, union, disjoint}
use Rattle.slot_sets.proofs.MaskLaws.{mask-nothing}
use Rattle.book_members.specs.declared.member.Member.{Member}
use Rattle.book_members.specs.Members.{Row, row_of, rows_of, place_for, held_slots, vacant}
use Rattle.book_members.specs.Rules.{row_rule, past_time}
use Rattle.book_members.specs.Judging.{judged}
use Rattle.book_members.proofs.RowLoopLaws.{nobody, none_left, row_below}

-- the rows from a place on
abbrev pub from : List Member → ℕ → List Row
from ms i = drop i (rows_of ms)

pub record Counted (ms : List Member) (i all found : ℕ) : Type 0 where
  pub place : i ≤ length ms
  pub holds : slots_of all ≡ held_slots (from ms i)
  pub free : found ≡ vacant (from ms i)
  pub few : found + i ≤ length ms

-- where the first row of a unit is, of those from a place on
abbrev pub placed_from : ℕ → List Member → ℕ → Option ℕ
placed_from unit ms i = cond (ltb (place_for unit (from ms i)) (length (from ms i))) (Some (i + place_for unit (from ms i))) None

module _ (ms : List Member) where
  none : from ms (length ms) ≡ []
  none = none_left ms (length ms) (omega arith)

  pub counted_start : Counted ms (length ms) 0 0
  unfolding held_slots vacant
  counted_start =
      record { place = omega arith; holds = mask-nothing ∙ sym (ap held_slots none); free = sym (ap vacant none); few = omega arith }

  pub judged-start : (manager dataSlots last : ℕ) → true ≡ judged manager dataSlots last (from ms (length ms))
  judged-start manager dataSlots last = sym (ap (judged manager dataSlots last) none)

  pub placed-start : (unit : ℕ) → None ≡ placed_from unit ms (length ms)
  unfolding place_for
  placed-start unit = rw none

module _ {ms : List Member} {i all found : ℕ} (k : Counted ms i all found) (h : 0 < i) where
  abbrev member : Member
  member = get_or ms (i - 1) nobody

  below : from ms (i - 1) ≡ row_of member ∷ from ms i
  below = row_below ms i h k.place

  pub counted-turn : (all' : ℕ) → slots_of all' ≡ union (slots_of member.slots) (slots_of all) → Counted ms (i - 1) all' (found + bool_byte (eqb member.unit 0))
  unfolding held_slots vacant
  counted-turn all' e =
      record {
        place = omega (arith, k.place);
        holds = e ∙ (rw k.holds (sym (ap held_slots below)));
        free = more (eqb member.unit 0) ∙ sym (ap vacant below);
        few = few (eqb member.unit 0);
      }
    where
      more : (b : Bool) → found + bool_byte b ≡ cond b 1 0 + vacant (from ms i)
      more true = omega (arith, k.free)
      more false = omega (arith, k.free)

      few : (b : Bool) → found + bool_byte b + (i - 1) ≤ length ms
      few true = omega (arith, k.few, h)
      few false = omega (arith, k.few, h)

  pub judged-turn : (manager dataSlots last : ℕ) (good ruled apart : Bool) → good ≡ judged manager dataSlots last (from ms i)
      → ruled ≡ (row_rule dataSlots (row_of member) && past_time manager last (row_of member)) → apart ≡ disjoint (slots_of member.slots) (slots_of all)
      → (ruled && apart && good) ≡ judged manager dataSlots last (from ms (i - 1))
  judged-turn manager dataSlots last good ruled apart g r a = rw (r, a, g, k.holds) (sym (ap (judged manager dataSlots last) below))

  pub placed_turn : (unit : ℕ) (at at' : Option ℕ) → at ≡ placed_from unit ms i → at' ≡ cond (eqb member.unit unit) (Some (i - 1)) at → at' ≡ placed_from unit ms (i - 1)
  unfolding place_for
  placed_turn unit at at' e q = q ∙ rw (e, below) (go (eqb member.unit unit) (place_for unit (from ms i)) (length (from ms i)))
    where
      go : (b : Bool) (far n : ℕ) → cond b (Some (i - 1)) (cond (ltb far n) (Some (i + far)) None) ≡ cond (ltb (cond b 0 (1 + far)) (suc n)) (Some (i - 1 + cond b 0 (1 + far))) None
      go true far n = rw (lt-ltb 0 (suc n) (omega arith), add-zero)
      go false far n = let there : i - 1 + (1 + far) ≡ i + far = omega arith in rw (there, one-add, leb-suc-suc (suc far) n)
