-- `places_ok`'s loop goes down from the last place: whether the places from an index on are right, and the unit of the first of them.
-- Assumes nothing.
use Rattle.octets.proofs.Words.{◌≡◌, drop}
use Rattle.octets.specs.Places.{first_key}
use Rattle.unit_poll.specs.Places.{ok_places}
use Rattle.unit_poll.specs.PollBytes.{places_in}
use Rattle.unit_poll.specs.Voters.{unit_of}
use Rattle.unit_poll.proofs.poll.places_ok.Given as goal

abbrev pub invariant-loop-place : goal.invariant-loop-place
invariant-loop-place l =
    (l.good ≡ ok_places l.own (drop l.place (places_in l.s))) × (l.after ≡ first_key unit_of (drop l.place (places_in l.s)))
