-- Needs no belief, laws carry it to what relaying leaves: which way a frame goes that is not refused.
-- Assumes nothing.
use Rattle.std.specs.Prelude.{◌≡◌, true, false, ℕ, List, Option, Some, None, Result, Ok}
use Rattle.octets.specs.declared.refusals.Refusal.{Refusal}
use Rattle.route_table.specs.declared.table.Route.{Route}
use Rattle.route_relays.specs.Relays.{is_for}

-- to the unit `own` itself, or on by the route that was found
abbrev pub LeadsOn : ℕ → Result Route Refusal → List ℕ → Option Route → Type 0
LeadsOn own route s None = is_for own s ≡ true
LeadsOn own route s (Some r) = (is_for own s ≡ false) × (route ≡ Ok r)
