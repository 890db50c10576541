-- What judging bytes tells: whether they hold a table within rule, and its row for a destination; none where it has none, or they hold none.
-- Assumes nothing.
use Rattle.std.specs.Prelude.{Bool, true, false, Option, Some, None}
use Rattle.route_table.specs.declared.row.Row.{Row}
use Rattle.route_table.specs.Rows.{none}

pub record Judged : Type 0 where
  pub holds : Bool
  pub row : Row

abbrev pub judged : Option Row → Judged
judged None = record { holds = false; row = none }
judged (Some r) = record { holds = true; row = r }
