-- `EitherBeacon::of`: what the kind that the type says has at its places.
-- Assumes nothing.
use Rattle.octets.proofs.Words.{sym, ◌∙◌}
use Rattle.frame_beacons.proofs.EitherLaws.{short_read, beacon-read}
use Rattle.frame_beacons.proofs.either.EitherBeacon.of.Goals as goal

pub returns-then-is_short : goal.returns-then-is_short
returns-then-is_short c = c.from.ensures ∙ short_read _ (sym c.is_short.ensures ∙ c.if-is_short.true) _ c.of.ensures

pub returns : goal.returns
returns c = c.from-2.ensures ∙ beacon-read _ (sym c.is_short.ensures ∙ c.if-is_short.false) _ c.of-2.ensures
