-- `EitherBeacon::refusal`: what the kind that the type says is refused for.
-- Assumes nothing.
use Rattle.octets.proofs.Words.{sym, ◌∙◌}
use Rattle.frame_beacons.proofs.EitherLaws.{short_refused, beacon-refused}
use Rattle.frame_beacons.proofs.either.EitherBeacon.refusal.Goals as goal

pub returns-then-is_short : goal.returns-then-is_short
returns-then-is_short c = c.refusal.ensures ∙ short_refused _ (sym c.is_short.ensures ∙ c.if-is_short.true)

pub returns : goal.returns
returns c = c.refusal-2.ensures ∙ beacon-refused _ (sym c.is_short.ensures ∙ c.if-is_short.false)
