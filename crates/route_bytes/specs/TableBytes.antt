-- A table as 539 bytes, the lowest byte of a number first: own 2, time 4, forwarded 1, origin 2, sequence 2, then 48 rows: destination 2, next hop 2, hops 1,
-- quality 1, time 4, withdrawn 1. A name of the code that has a `_` stands in « ».
-- Assumes nothing.
use Rattle.std.specs.Prelude.{ℕ, ◌+◌, ◌*◌, Bool, ◌&&◌, cond, List, [], ◌∷◌, ◌++◌, eqb, leb, ltb, length, get_or}
use Rattle.octets.specs.Layouts.{fields, bytes, in_turn}
use Rattle.octets.specs.Lists.{tab, every}
use Rattle.octets.specs.Numbers.{num}
use Rattle.route_table.specs.declared.row.Row.{Row}
use Rattle.route_table.specs.declared.table.Head.{Head}
use Rattle.route_table.specs.declared.table.Table.{Table}
use Rattle.route_table.specs.Rows.{none, in_use}
use Rattle.route_table.specs.Tables.{head_of, within_rule}

-- a flag is a byte, 0 or 1
abbrev pub flag : Bool → ℕ
flag b = cond b 1 0

-- ---- a row
abbrev pub row_widths : List ℕ
row_widths = 2 ∷ 2 ∷ 1 ∷ 1 ∷ 4 ∷ 1 ∷ []

abbrev pub row_values : Row → List ℕ
row_values r = r.destination ∷ r.next_hop ∷ r.hops ∷ r.quality ∷ r.time ∷ flag r.withdrawn ∷ []

abbrev pub row_from : List ℕ → Row
row_from vs =
    record {
      destination = get_or vs 0 0;
      next_hop = get_or vs 1 0;
      hops = get_or vs 2 0;
      quality = get_or vs 3 0;
      time = get_or vs 4 0;
      withdrawn = eqb (get_or vs 5 0) 1;
    }

-- the row at a place, counted from 0, of a table's bytes
unfoldable pub row_at : List ℕ → ℕ → Row
row_at s i = row_from (fields row_widths s (11 + 11 * i))

-- the bytes of rows, one behind the other
abbrev pub rows_bytes : List Row → List ℕ
rows_bytes rs = in_turn row_widths row_values rs

-- ---- a table
abbrev pub head_widths : List ℕ
head_widths = 2 ∷ 4 ∷ 1 ∷ 2 ∷ 2 ∷ []

abbrev pub head_values : Head → List ℕ
head_values h = h.own ∷ h.time ∷ flag h.forwarded ∷ h.origin ∷ h.sequence ∷ []

-- the table with the values vs in its head, and these rows
abbrev pub table_from : List ℕ → List Row → Table
table_from vs rs =
    record {
      own = get_or vs 0 0;
      time = get_or vs 1 0;
      forwarded = eqb (get_or vs 2 0) 1;
      origin = get_or vs 3 0;
      sequence = get_or vs 4 0;
      rows = rs;
    }

-- the table that bytes hold; a byte past the end is 0, and a flag that is not 1 is off
unfoldable pub table_in : List ℕ → Table
table_in s = table_from (fields head_widths s 0) (tab 48 (row_at s))

unfoldable pub table_bytes : Table → List ℕ
table_bytes t = bytes head_widths (head_values (head_of t)) ++ rows_bytes t.rows

-- a buffer that has as many bytes as a table, with those of one; any other as it was
unfoldable pub table_over : List ℕ → Table → List ℕ
table_over s t = cond (eqb (length s) 539) (table_bytes t) s

-- ---- the rows that bytes hold, looked at place by place: none in bytes of another number than a table has
unfoldable pub place_of : List ℕ → ℕ → Row
place_of s i = cond (eqb (length s) 539 && ltb i 48) (row_at s i) none

abbrev pub rows_in : List ℕ → List Row
rows_in s = in_use (tab 48 (place_of s))

-- ---- bytes that are a table: 539, and each flag is 0 or 1
-- the flags of the first n rows
abbrev pub flags_ok : ℕ → List ℕ → Bool
flags_ok n s = every (λ v. leb v 1) (tab n (λ i. num 1 s (21 + 11 * i)))

unfoldable pub is_table : List ℕ → Bool
is_table s = eqb (length s) 539 && leb (num 1 s 6) 1 && flags_ok 48 s

-- bytes that hold a table within rule
unfoldable pub holds_table : List ℕ → Bool
holds_table s = is_table s && within_rule (table_in s)
