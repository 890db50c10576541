-- Needs no belief, laws carry it to the rule of the rows: what one loop over the rows sees of each by itself and of its slots against those behind it.
-- Assumes nothing.
use Rattle.std.specs.Prelude.{ℕ, Bool, true, ◌&&◌, List, [], ◌∷◌}
use Rattle.slot_sets.specs.Sets.{disjoint}
use Rattle.book_members.specs.Members.{Row, held_slots}
use Rattle.book_members.specs.Rules.{row_rule, past_time}

abbrev pub judged : ℕ → ℕ → ℕ → List Row → Bool
judged manager dataSlots last [] = true
judged manager dataSlots last (r ∷ rs) =
    (row_rule dataSlots r && past_time manager last r) && disjoint r.slots (held_slots rs) && judged manager dataSlots last rs
