-- A table that lies in bytes: judged, with its row for a destination, and looked up in.
-- Assumes nothing.
use Rattle.std.specs.Prelude.{ℕ, cond, List}
use Rattle.route_table.specs.Outcomes.{Found}
use Rattle.route_table.specs.Rows.{none, row_for}
use Rattle.route_table.specs.Tables.{found_or, lookup_of}
use Rattle.route_bytes.specs.StoredTables.{on_table}
use Rattle.route_bytes.specs.TableBytes.{rows_in, holds_table}
use Rattle.route_in_place.specs.Outcomes.{Judged}

-- whether bytes hold a table within rule, and its row for a destination
abbrev pub judged_for : ℕ → List ℕ → Judged
judged_for d s = record { holds = holds_table s; row = cond (holds_table s) (row_for d (rows_in s)) none }

-- what a lookup in the table that they hold answers, 14 where they hold none
unfoldable pub lookup_in : List ℕ → ℕ → ℕ → Found
lookup_in s destination time = on_table s (λ t. lookup_of t destination time) (found_or 14 none 0)
