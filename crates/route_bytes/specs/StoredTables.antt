-- A call on a stored table: what it says of the table that the bytes hold, and what it leaves of them.
-- Assumes nothing.
use Rattle.std.specs.Prelude.{ℕ, cond, List}
use Rattle.octets.specs.Calls.{after}
use Rattle.route_table.specs.Outcomes.{Changed}
use Rattle.route_table.specs.declared.table.Table.{Table}
use Rattle.route_bytes.specs.TableBytes.{table_in, table_bytes, is_table}

-- the status of a call over a stored table: 14 where the bytes are none, else what the call says of the table
abbrev pub stored_table : List ℕ → ℕ → ℕ
stored_table s said = cond (is_table s) said 14

-- what a call answers of the table that bytes hold; `none` where they are no table
abbrev pub on_table : {A : Type 0} → List ℕ → (Table → A) → A → A
on_table s call none = cond (is_table s) (call (table_in s)) none

-- ---- a changing call: the status, and the table's bytes
pub record TableLeft : Type 0 where
  pub status : ℕ
  pub table : List ℕ

abbrev pub table_left : ℕ → List ℕ → TableLeft
table_left status table = record { status = status; table = table }

-- what is left of the bytes s by a call of this status that gives this table
abbrev pub changed_to : List ℕ → ℕ → Changed → TableLeft
changed_to s status changed = table_left status (after status s (table_bytes changed.table))

-- what a changing call on the table that they hold leaves of the bytes s
unfoldable pub changed_by : List ℕ → (Table → Changed) → TableLeft
changed_by s call =
    let changed = call (table_in s) in
    changed_to s (stored_table s changed.refused) changed
