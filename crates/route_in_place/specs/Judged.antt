-- Needs no belief, laws carry it to the table that the bytes hold: what the code sees of them while it judges them, rows in front and zeros behind them.
-- Assumes nothing.
use Rattle.std.specs.Prelude.{ℕ, ◌-◌, Bool, false, ◌&&◌, cond, List, leb, ltb, Option, Some, None}
use Rattle.octets.specs.Lists.{tab}
use Rattle.octets.specs.Layouts.{fields}
use Rattle.octets.specs.Zeros.{zeros_from}
use Rattle.route_table.specs.declared.row.Row.{Row}
use Rattle.route_table.specs.Rows.{none}
use Rattle.route_table.specs.Places.{ok_places}
use Rattle.route_bytes.specs.TableBytes.{row_widths, row_from, row_at, flags_ok}
use Rattle.route_in_place.specs.declared.judging.Front.{Front}

-- the rows of a table's bytes: each flag is 0 or 1, and each place may stand before the next
abbrev pub rows_ok : ℕ → ℕ → List ℕ → Bool
rows_ok own last s = flags_ok 48 s && ok_places own last (tab 48 (row_at s))

-- the rows in front, none for rows that are not right: the last of them is to an address, and zeros stand behind them
abbrev pub front_ok : Option Front → List ℕ → Bool
front_ok None s = false
front_ok (Some front) s = leb front.highest 0xFFFE && zeros_from front.end s

-- the row that ends before a byte, none where there is no room for one
abbrev pub row_ending : ℕ → List ℕ → Row
row_ending past s = cond (ltb past 11) none (row_from (fields row_widths s (past - 11)))
