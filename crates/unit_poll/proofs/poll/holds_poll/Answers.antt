-- `holds_poll`: the length, the unit, and the places.
-- Assumes nothing.
use Rattle.octets.proofs.Words.{◌∙◌}
use Rattle.unit_poll.proofs.PlaceLaws.{no_length, judged}
use Rattle.unit_poll.proofs.poll.holds_poll.Goals as goal

pub returns-then-s-ne-POLL_SIZE : goal.returns-then-s-ne-POLL_SIZE
returns-then-s-ne-POLL_SIZE c = no_length _ c.if-s-ne-POLL_SIZE.true

pub returns : goal.returns
returns c =
    judged _ c.if-s-ne-POLL_SIZE.false _ _ (c.is_address.ensures ∙ rw c.read-own.ensures) (c.places_ok.ensures ∙ rw c.read-own.ensures)
