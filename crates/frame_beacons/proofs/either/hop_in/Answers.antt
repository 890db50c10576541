-- `hop_in`: where the kind that the type says has its hop.
-- Assumes nothing.
use Rattle.octets.proofs.Words.{sym, ◌∙◌}
use Rattle.frame_beacons.proofs.EitherLaws.{short_hop, beacon_hop}
use Rattle.frame_beacons.proofs.either.hop_in.Goals as goal

pub returns-then-is_short : goal.returns-then-is_short
returns-then-is_short c = c.read.ensures ∙ short_hop _ (sym c.is_short.ensures ∙ c.if-is_short.true)

pub returns : goal.returns
returns c = c.read-2.ensures ∙ beacon_hop _ (sym c.is_short.ensures ∙ c.if-is_short.false)
