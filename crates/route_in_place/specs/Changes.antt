-- Needs no belief, laws carry it to the calls: what a changing call keeps of the rows of a table, those that stand, those to a unit or through it withdrawn.
-- Assumes nothing.
use Rattle.std.specs.Prelude.{ℕ, List, map}
use Rattle.route_table.specs.declared.row.Row.{Row}
use Rattle.route_table.specs.Rows.{forgotten, standing}

abbrev pub kept : ℕ → ℕ → List Row → List Row
kept unit time rs = map (forgotten unit time) (standing time rs)
