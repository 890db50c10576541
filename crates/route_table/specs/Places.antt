-- Needs no belief, laws carry it to the list of rows: what the code sees of a table's 48 places, with no order required.
-- Assumes nothing.
use Rattle.std.specs.Prelude.{ℕ, Bool, not, ◌&&◌, List, eqb, leb}
use Rattle.octets.specs.Addresses.{address}
use Rattle.moments.specs.Moments.{in_order}
use Rattle.route_table.specs.declared.row.Row.{Row}
use Rattle.octets.specs.Places.{ok_before, ok_places_by}
use Rattle.route_table.specs.Rows.{row_rule, is_none, leading_to}

-- a row keeps the rules but for its destination being an address, which is told by the order of the rows
abbrev pub carries_rule : ℕ → ℕ → Row → Bool
carries_rule own last r =
    not (eqb r.destination own)
    && (address r.next_hop && not (eqb r.next_hop own))
    && (leb 1 r.hops && leb r.hops 16)
    && leb 40 r.quality
    && in_order r.time last

-- a place may stand before one with the destination `after`, 0 for none
abbrev pub ok_row : ℕ → ℕ → Row → ℕ → Bool
ok_row own last r after = ok_before leading_to is_none (row_rule own last) r after

-- each place may stand before the next
abbrev pub ok_places : ℕ → ℕ → List Row → Bool
ok_places own last rs = ok_places_by leading_to is_none (row_rule own last) rs
