-- `network_in`: where the kind that the type says has its network.
-- Assumes nothing.
use Rattle.octets.proofs.Words.{sym, ◌∙◌}
use Rattle.frame_beacons.proofs.EitherLaws.{short_network, beacon-network}
use Rattle.frame_beacons.proofs.either.network_in.Goals as goal

pub returns-then-is_short : goal.returns-then-is_short
returns-then-is_short c = c.read.ensures ∙ short_network _ (sym c.is_short.ensures ∙ c.if-is_short.true)

pub returns : goal.returns
returns c = c.read-2.ensures ∙ beacon-network _ (sym c.is_short.ensures ∙ c.if-is_short.false)
