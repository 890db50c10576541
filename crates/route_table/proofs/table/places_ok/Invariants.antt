-- `places_ok`'s loop: the places from i on are right exactly if all are.
-- Assumes nothing.
use Rattle.octets.proofs.Words.{◌≡◌, ◌≤◌, ◌-◌, drop}
use Rattle.route_table.specs.Places.{ok_places}
use Rattle.route_table.proofs.table.places_ok.Given as goal

abbrev pub invariant-loop-i : goal.invariant-loop-i
invariant-loop-i l = (l.i ≤ 47) × (ok_places l.own l.last (drop l.i l.rows) ≡ ok_places l.own l.last l.rows)

abbrev pub decreases-loop-i : goal.decreases-loop-i
decreases-loop-i l = 47 - l.i
