-- `refusal`: the number that the bytes' own type gives.
-- Assumes nothing.
use Rattle.octets.proofs.Words.{ap, ◌∙◌, ℕ}
use Rattle.frames.specs.Frames.{refusal_typed}
use Rattle.frames.proofs.TripLaws.{typed_refusal}
use Rattle.frame_reading.proofs.reading.refusal.Goals as goal

pub returns : goal.returns
returns c = c.wanted.ensures ∙ (ap (λ (t : ℕ). refusal_typed t c.args.s.now) c.read.ensures ∙ typed_refusal _)
