-- The rows of a member book, with sets for masks: who is live, which slots are free, how many are spare.
-- Assumes nothing.
use Rattle.std.specs.Prelude.{ℕ, ◌+◌, ◌-◌, Bool, cond, List, [], ◌∷◌, map, length, take, Option, Some, None, eqb, leb, ltb}
use Rattle.std.specs.Borrow.{Bor}
use Rattle.moments.specs.Moments.{age_at}
use Rattle.slot_sets.specs.Sets.{Slots, slots_of, no_slots, union, minus, count, firsts}
use Rattle.book_members.specs.declared.member.Member.{Member}

-- a member: its unit, the data slots that it holds, and when its last accepted call was
pub record Row : Type 0 where
  pub unit : ℕ
  pub slots : Slots 64
  pub time : ℕ

-- the row of a unit that holds these slots, with its last accepted call at a time
abbrev pub member_with : ℕ → Slots 64 → ℕ → Row
member_with unit slots time = record { unit = unit; slots = slots; time = time }

-- what a row of the code stands for
abbrev pub row_of : Member → Row
row_of m = member_with m.unit (slots_of m.slots) m.time

-- the rows that the code's places stand for
unfoldable pub rows_of : List Member → List Row
rows_of ms = map row_of ms

-- rows that are lent: the block of memory that they lie in, the byte of it that they start at, and what they are
pub record LentRows : Type 0 where
  pub block : ℕ
  pub start : ℕ
  pub rows : List Row

abbrev pub lent_rows : Bor (List Member) → LentRows
lent_rows s = record { block = s.ref_ptr.0; start = s.ref_ptr.1; rows = rows_of s.now }

-- the first so many of them
abbrev pub first_rows : LentRows → ℕ → LentRows
first_rows l n = record { block = l.block; start = l.start; rows = take n l.rows }

-- a row that is not in use is zeros
abbrev pub empty_row : Row
empty_row = member_with 0 no_slots 0

abbrev pub vacant_row : Row → Bool
vacant_row r = eqb r.unit 0

-- the same row, heard now; ..
abbrev pub heard_at : ℕ → Row → Row
heard_at time r = member_with r.unit r.slots time

-- .. or restored now: one that is not in use has no time
abbrev pub restored_at : ℕ → Row → Row
restored_at time r = member_with r.unit r.slots (cond (vacant_row r) 0 time)

-- how many slots a member holds: 1 to 4
abbrev pub fewest_slots : ℕ
fewest_slots = 1

abbrev pub most_slots : ℕ
most_slots = 4

-- ---- who is live
-- a member is live up to 300,000 ms after its last accepted call; a silent one counts as free, slots and row
abbrev pub kept : ℕ → Row → Row
kept time r = cond (leb (age_at time r.time) 300000) r empty_row

-- the rows at a time; the first is the manager's, who is always live
unfoldable pub current : ℕ → List Row → List Row
current time [] = []
current time (r ∷ rs) = r ∷ map (kept time) rs

-- the first row of a unit, or how many rows there are; of unit 0 the lowest free row
unfoldable pub place_for : ℕ → List Row → ℕ
place_for unit [] = 0
place_for unit (r ∷ rs) = cond (eqb r.unit unit) 0 (1 + place_for unit rs)

-- that place, if there is such a row
abbrev pub placed : ℕ → List Row → Option ℕ
placed unit rs = cond (ltb (place_for unit rs) (length rs)) (Some (place_for unit rs)) None

-- ---- slots
-- those that some row holds
unfoldable pub held_slots : List Row → Slots 64
held_slots [] = no_slots
held_slots (r ∷ rs) = union r.slots (held_slots rs)

-- the data slots, of so many, that none holds
abbrev pub free : ℕ → List Row → Slots 64
free dataSlots rs = minus (firsts dataSlots) (held_slots rs)

-- how many rows are free
unfoldable pub vacant : List Row → ℕ
vacant [] = 0
vacant (r ∷ rs) = cond (vacant_row r) 1 0 + vacant rs

-- free data slots that no free row needs
abbrev pub spare : ℕ → List Row → ℕ
spare dataSlots rs = count (free dataSlots rs) - vacant rs
