-- A table within rule, and what fresh table, lookup and forget answer.
-- Assumes nothing.
use Rattle.std.specs.Prelude.{ℕ, Bool, false, not, ◌&&◌, cond, List, [], ◌∷◌, map, eqb, leb, length, drop, replicate}
use Rattle.octets.specs.Answers.{Reason, reason, first}
use Rattle.octets.specs.Calls.{after}
use Rattle.octets.specs.Lists.{every}
use Rattle.moments.specs.Moments.{in_order}
use Rattle.octets.specs.Addresses.{address}
use Rattle.route_table.specs.declared.row.Row.{Row}
use Rattle.route_table.specs.declared.table.Table.{Table}
use Rattle.route_table.specs.Outcomes.{Changed, Found}
use Rattle.route_table.specs.declared.table.Head.{Head}
use Rattle.route_table.specs.Rows.{none, left_at, leads, row_rule, is_none, forgotten, ascending, in_use, pad, standing, row_for}

-- the rows of a table, in order
abbrev pub rows_of : Table → List Row
rows_of t = in_use t.rows

-- a table without its rows
abbrev pub head_of : Table → Head
head_of t = record { own = t.own; time = t.time; forwarded = t.forwarded; origin = t.origin; sequence = t.sequence }

-- the table with this head and these places
abbrev pub placed : Head → List Row → Table
placed h places = record { own = h.own; time = h.time; forwarded = h.forwarded; origin = h.origin; sequence = h.sequence; rows = places }

-- the table with this head and these rows
abbrev pub table_of : Head → List Row → Table
table_of h rs = record { own = h.own; time = h.time; forwarded = h.forwarded; origin = h.origin; sequence = h.sequence; rows = pad rs }

-- the last pair forwarded: its original source is an address; where there is none, its fields are zero
abbrev pub pair_ok : Bool → ℕ → ℕ → Bool
pair_ok forwarded origin sequence = cond forwarded (address origin) (eqb origin 0 && eqb sequence 0)

-- a table is within rule: its unit is an address, it has at most 48 rows, which ascend and keep their rules, and every place behind them is zeros
unfoldable pub within_rule : Table → Bool
within_rule t =
    address t.own && pair_ok t.forwarded t.origin t.sequence && leb (length (rows_of t)) 48 && ascending (rows_of t)
    && every (row_rule t.own t.time) (rows_of t) && every is_none (drop (length (rows_of t)) t.rows)

-- the table with these rows at this time
abbrev pub with_rows : Table → ℕ → List Row → Table
with_rows t time rs = record { own = t.own; time = time; forwarded = t.forwarded; origin = t.origin; sequence = t.sequence; rows = pad rs }

-- the same table without the rows that are gone at this time
abbrev pub dropped : ℕ → Table → Table
dropped time t = with_rows t t.time (standing time (rows_of t))

-- a changing call: the number that refuses it with the table as it was, or the new table
abbrev pub settled : ℕ → Table → Table → Changed
settled number t new = record { refused = number; table = after number t new }

-- the row for a destination, if there is one, may carry traffic there at this time
abbrev pub leads_to : Table → ℕ → ℕ → Bool
leads_to t d time = leads d time (row_for d (rows_of t))

-- ---- the calls

-- a table with no rows
abbrev pub empty_table : ℕ → ℕ → Table
empty_table own time = record { own = own; time = time; forwarded = false; origin = 0; sequence = 0; rows = replicate 48 none }

-- fresh table: 4, and then a table of zeros, else the empty table of this unit with the time as last accepted
unfoldable pub fresh_of : ℕ → ℕ → Changed
fresh_of own time = settled (first (reason (not (address own)) 4 ∷ [])) (empty_table 0 0) (empty_table own time)

-- what is found by a row that is usable for so many ms more, unless a number refuses it: its next hop, its hops and these; where it is refused, zeros
abbrev pub found_or : ℕ → Row → ℕ → Found
found_or number r left =
    let by = cond (eqb number 0) r none in
    record { refused = number; next_hop = by.next_hop; hops = by.hops; left = cond (eqb number 0) left 0 }

-- why a table within rule does not answer the lookup of a destination, with this last accepted time and this row for it: 4 8 11, ..
abbrev pub found_reasons : ℕ → Row → ℕ → ℕ → List Reason
found_reasons last r d time =
    reason (not (address d)) 4 ∷
    reason (not (in_order last time)) 8 ∷
    reason (not (leads d time r)) 11 ∷
    []

-- .. else what the row says
unfoldable pub found_by : ℕ → Row → ℕ → ℕ → Found
found_by last r d time = found_or (first (found_reasons last r d time)) r (left_at time r)

-- lookup: 14, then these, of the table's own row, ..
abbrev pub lookup_reasons : Table → ℕ → ℕ → List Reason
lookup_reasons t d time = reason (not (within_rule t)) 14 ∷ found_reasons t.time (row_for d (rows_of t)) d time

abbrev pub lookup_refusal : Table → ℕ → ℕ → ℕ
lookup_refusal t d time = first (lookup_reasons t d time)

-- .. else what that row says
unfoldable pub lookup_of : Table → ℕ → ℕ → Found
lookup_of t d time =
    let row = row_for d (rows_of t) in found_or (lookup_refusal t d time) row (left_at time row)

-- why a table within rule, of this unit and with this last accepted time, does not forget another: 4 6 8
abbrev pub unforgotten_reasons : ℕ → ℕ → ℕ → ℕ → List Reason
unforgotten_reasons own last unit time =
    reason (not (address unit)) 4 ∷
    reason (eqb unit own) 6 ∷
    reason (not (in_order last time)) 8 ∷
    []

-- forget: 14, then these
abbrev pub forget_reasons : Table → ℕ → ℕ → List Reason
forget_reasons t unit time = reason (not (within_rule t)) 14 ∷ unforgotten_reasons t.own t.time unit time

unfoldable pub forget_of : Table → ℕ → ℕ → Changed
forget_of t unit time = settled (first (forget_reasons t unit time)) t (with_rows t time (map (forgotten unit time) (standing time (rows_of t))))
