-- What the calls on a stored table return and leave.
-- Assumes nothing.
use Rattle.std.specs.Prelude.{ℕ, List}
use Rattle.octets.specs.Calls.{after, stored}
use Rattle.route_table.specs.Tables.{fresh_of, lookup_of, forget_of}
use Rattle.route_bytes.specs.StoredTables.{stored_table, TableLeft, changed_to, changed_by}
use Rattle.route_bytes.specs.TableBytes.{table_in}

-- a fresh table: only the number of bytes matters, not what they were
unfoldable pub fresh_call : List ℕ → ℕ → ℕ → TableLeft
fresh_call s own time =
    let fresh = fresh_of own time in
    changed_to s (stored 539 s fresh.refused) fresh

unfoldable pub forget_call : List ℕ → ℕ → ℕ → TableLeft
forget_call s unit time = changed_by s (λ t. forget_of t unit time)

-- ---- looking up: the status, the next hop, the hops, and the ms for which the row is usable
pub record LookupLeft : Type 0 where
  pub status : ℕ
  pub next_hop : ℕ
  pub hops : ℕ
  pub left : ℕ

abbrev pub lookup_left : ℕ → ℕ → ℕ → ℕ → LookupLeft
lookup_left status next_hop hops left = record { status = status; next_hop = next_hop; hops = hops; left = left }

unfoldable pub lookup_call : List ℕ → ℕ → ℕ → ℕ → ℕ → ℕ → LookupLeft
lookup_call s destination time next_hop hops left =
    let found = lookup_of (table_in s) destination time in
    let status = stored_table s found.refused in
    lookup_left status (after status next_hop found.next_hop) (after status hops found.hops) (after status left found.left)
