-- When the rows of a book are within rule.
-- Assumes nothing.
use Rattle.std.specs.Prelude.{◌≡◌, ℕ, ◌≤◌, Bool, true, not, ◌&&◌, ◌||◌, cond, List, [], ◌∷◌, eqb, leb}
use Rattle.octets.specs.Lists.{every}
use Rattle.moments.specs.Moments.{in_order}
use Rattle.octets.specs.Addresses.{address}
use Rattle.slot_sets.specs.Sets.{minus, count, is_empty, Subset, disjoint, firsts}
use Rattle.book_members.specs.Members.{Row, vacant_row, fewest_slots, most_slots, held_slots, free, vacant}

-- a row is zeros
abbrev pub empty_is : Row → Bool
empty_is r = vacant_row r && is_empty r.slots && eqb r.time 0

-- a row by itself: zeros, or an address with 1 to 4 of the data slots
abbrev pub row_rule : ℕ → Row → Bool
row_rule dataSlots r =
    cond (vacant_row r) (empty_is r)
    (address r.unit && (leb fewest_slots (count r.slots) && leb (count r.slots) most_slots) && is_empty (minus r.slots (firsts dataSlots)))

-- the same of a row that is in use
pub record Used (dataSlots : ℕ) (r : Row) : Type 0 where
  pub unit : address r.unit ≡ true
  pub least : fewest_slots ≤ count r.slots
  pub most : count r.slots ≤ most_slots
  pub inside : Subset r.slots (firsts dataSlots)

-- its time is in order with the last accepted one; that of the manager may be any
abbrev pub past_time : ℕ → ℕ → Row → Bool
past_time manager last r = vacant_row r || (eqb r.unit manager || in_order r.time last)

-- a unit has no other row among these
abbrev pub unknown_in : ℕ → List Row → Bool
unknown_in unit [] = true
unknown_in unit (r ∷ rs) = not (eqb r.unit unit) && unknown_in unit rs

-- units are distinct
abbrev pub distinct : List Row → Bool
distinct [] = true
distinct (r ∷ rs) = (vacant_row r || unknown_in r.unit rs) && distinct rs

-- sets are disjoint
abbrev pub apart : List Row → Bool
apart [] = true
apart (r ∷ rs) = disjoint r.slots (held_slots rs) && apart rs

-- the first row is the manager's
abbrev pub led_by : ℕ → List Row → Bool
led_by manager [] = Bool.false
led_by manager (r ∷ rs) = eqb r.unit manager

-- all rows together, of a site with so many data slots and this manager
unfoldable pub rows_rule : ℕ → ℕ → ℕ → List Row → Bool
rows_rule manager dataSlots last rs =
    led_by manager rs && every (row_rule dataSlots) rs && every (past_time manager last) rs && distinct rs && apart rs && leb (vacant rs) (count (free dataSlots rs))
