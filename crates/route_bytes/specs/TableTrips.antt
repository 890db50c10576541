-- What holds of a table and its bytes, there and back.
-- Assumes nothing.
use Rattle.std.specs.Prelude.{◌≡◌, true, List, ℕ, length}
use Rattle.octets.specs.Layouts.{Fit, Bytes}
use Rattle.octets.specs.Lists.{Each}
use Rattle.route_table.specs.declared.row.Row.{Row}
use Rattle.route_table.specs.declared.table.Table.{Table}
use Rattle.route_table.specs.Tables.{head_of}
use Rattle.route_bytes.specs.TableBytes.{row_widths, row_values, head_widths, head_values, table_in, table_bytes, is_table}

-- the numbers of a row fit their bytes
abbrev pub RowFits : Row → Type 0
RowFits r = Fit row_widths (row_values r)

-- a table as the code can have it: 48 places, and every number fits its bytes
pub record Sized (t : Table) : Type 0 where
  pub places : length t.rows ≡ 48
  pub head : Fit head_widths (head_values (head_of t))
  pub fit : Each RowFits t.rows

-- reading what was written gives the table
abbrev pub ReadsBack : Type 0
ReadsBack = (t : Table) → Sized t → table_in (table_bytes t) ≡ t

-- what was written are the bytes of a table
abbrev pub WritesTables : Type 0
WritesTables = (t : Table) → Sized t → is_table (table_bytes t) ≡ true

-- writing what was read gives the same bytes
abbrev pub WritesBack : Type 0
WritesBack = (s : List ℕ) → Bytes s → is_table s ≡ true → table_bytes (table_in s) ≡ s
