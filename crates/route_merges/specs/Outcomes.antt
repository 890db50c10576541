-- What a merge answers, as values: the number that refuses it, 0 where nothing does, and what it gives.
-- Assumes nothing.
use Rattle.std.specs.Prelude.{ℕ, Result, Ok, Err}
use Rattle.octets.specs.declared.refusals.Refusal.{Refusal}
use Rattle.octets.specs.Refusals.{number_of}
use Rattle.route_table.specs.declared.table.Table.{Table}
use Rattle.route_merges.specs.declared.learning.Tally.{Tally}
use Rattle.route_merges.specs.declared.merging.Merging.{Merging}

-- how many candidates found no room, how many rows were compared, and the table that then stands
pub record Merged : Type 0 where
  pub refused : ℕ
  pub skipped : ℕ
  pub compared : ℕ
  pub table : Table

abbrev pub merged : Table → Result Merging Refusal → Merged
merged old (Ok m) = record { refused = 0; skipped = m.tally.skipped; compared = m.tally.compared; table = m.table }
merged old (Err r) = record { refused = number_of r; skipped = 0; compared = 0; table = old }

-- the counts of a merge, none where it is refused
abbrev pub skipped_in : Result Tally Refusal → ℕ
skipped_in (Ok t) = t.skipped
skipped_in (Err r) = 0

abbrev pub compared_in : Result Tally Refusal → ℕ
compared_in (Ok t) = t.compared
compared_in (Err r) = 0
