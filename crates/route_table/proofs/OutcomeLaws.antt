-- What a call on a table gives, from its status.
-- Assumes nothing.
use Rattle.std.specs.Prelude.{Result, Ok, Err}
use Rattle.octets.proofs.Words.{◌≡◌, sym, ℕ, ne_eqb}
use Rattle.octets.specs.Refusals.{number_of, status_of, held_after}
use Rattle.octets.specs.declared.refusals.Refusal.{Refusal}
use Rattle.octets.proofs.RefusalLaws.{refusal_some}
use Rattle.route_table.specs.Outcomes.{changed}
use Rattle.route_table.specs.declared.table.Table.{Table}
use Rattle.route_table.specs.Tables.{settled}

-- the number that refuses a changing call, and where it is accepted the new table, are all that it gives
pub changed_settled : (answer : Result Table Refusal) (t new : Table) (n : ℕ) → status_of answer ≡ n → (n ≡ 0 → held_after t answer ≡ new) → changed t answer ≡ settled n t new
changed_settled (Ok a) t new n e h = rw (← e, h (sym e))
changed_settled (Err r) t new n e h = rw (← e, ne_eqb (number_of r) 0 (refusal_some r))
