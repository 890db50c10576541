-- Merging an update into a stored table.
-- Assumes nothing.
use Rattle.std.specs.Prelude.{ℕ, List, Result}
use Rattle.octets.specs.Calls.{after}
use Rattle.octets.specs.declared.refusals.Refusal.{Refusal}
use Rattle.octets.specs.Refusals.{status_of}
use Rattle.route_bytes.specs.StoredTables.{stored_table}
use Rattle.route_bytes.specs.TableBytes.{table_in, table_bytes}
use Rattle.route_merges.specs.declared.learning.Tally.{Tally}
use Rattle.route_merges.specs.Merges.{merge_of}
use Rattle.route_merges.specs.Outcomes.{skipped_in, compared_in}

-- the status, the table's bytes, how many candidates were skipped, and how many rows were compared
pub record MergeLeft : Type 0 where
  pub status : ℕ
  pub table : List ℕ
  pub skipped : ℕ
  pub compared : ℕ

abbrev pub merge_left : ℕ → List ℕ → ℕ → ℕ → MergeLeft
merge_left status table skipped compared = record { status = status; table = table; skipped = skipped; compared = compared }

-- what a merge answers and leaves of the table's bytes
abbrev pub merged_in : Result Tally Refusal → List ℕ → MergeLeft
merged_in answer table = merge_left (status_of answer) table (skipped_in answer) (compared_in answer)

-- what a merge into the table that the bytes s hold leaves of them, of a number of skipped candidates and of one of compared rows
unfoldable pub merge_call : List ℕ → List ℕ → ℕ → ℕ → ℕ → ℕ → MergeLeft
merge_call s frame quality time skipped compared =
    let merged = merge_of (table_in s) frame quality time in
    let status = stored_table s merged.refused in
    merge_left status (after status s (table_bytes merged.table)) (after status skipped merged.skipped) (after status compared merged.compared)
