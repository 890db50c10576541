-- What forwarding answers, as values: the number that refuses it, 0 where nothing does, and what it gives.
-- Assumes nothing.
use Rattle.std.specs.Prelude.{ℕ, Result, Ok, Err}
use Rattle.octets.specs.declared.refusals.Refusal.{Refusal}
use Rattle.octets.specs.Refusals.{number_of}
use Rattle.route_table.specs.declared.table.Table.{Table}
use Rattle.route_forwards.specs.declared.forwarding.Forwarded as gives

-- how many bytes were written, and the table that then stands
pub record Forwarded : Type 0 where
  pub refused : ℕ
  pub written : ℕ
  pub table : Table

abbrev pub forwarded : Table → Result gives.Forwarded Refusal → Forwarded
forwarded old (Ok f) = record { refused = 0; written = f.written; table = f.table }
forwarded old (Err r) = record { refused = number_of r; written = 0; table = old }

-- how many bytes were written by a table in bytes, none where it is refused
abbrev pub written_by : Result ℕ Refusal → ℕ
written_by (Ok n) = n
written_by (Err r) = 0
