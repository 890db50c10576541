-- What the calls on a table give: the number that refuses one, 0 where it is accepted, and with it the table that then stands, or the route that was found.
-- Assumes nothing.
use Rattle.std.specs.Prelude.{ℕ, Result, Ok, Err}
use Rattle.octets.specs.Refusals.{number_of, status_of, held_after}
use Rattle.octets.specs.declared.refusals.Refusal.{Refusal}
use Rattle.route_table.specs.declared.table.Route.{Route}
use Rattle.route_table.specs.declared.table.Table.{Table}

-- a changing call
pub record Changed : Type 0 where
  pub refused : ℕ
  pub table : Table

-- where it is refused the table is as it was
abbrev pub changed : Table → Result Table Refusal → Changed
changed old answer = record { refused = status_of answer; table = held_after old answer }

-- a lookup
pub record Found : Type 0 where
  pub refused : ℕ
  pub next_hop : ℕ
  pub hops : ℕ
  pub left : ℕ

-- where it is refused there is no route, and the others are 0
abbrev pub found : Result Route Refusal → Found
found (Ok r) = record { refused = 0; next_hop = r.next_hop; hops = r.hops; left = r.left }
found (Err r) = record { refused = number_of r; next_hop = 0; hops = 0; left = 0 }
