-- Three units that elect one, computed.
-- Assumes nothing.
use Rattle.octets.proofs.Words.{refl}
use Rattle.octets.specs.Lists.{tab, every}
use Rattle.octets.specs.Numbers.{num, digits}
use Rattle.octets.specs.Sums.{xors}
use Rattle.frame_kinds.specs.Reading.{is_sealed, read_refusal}
use Rattle.frame_kinds.specs.Shape.{sealed}
use Rattle.unit_poll.specs.PollBytes.{voter_at, poll_in, pad, poll_bytes, holds_poll, fresh_call, hear_call, winner_call}
use Rattle.unit_poll.specs.Polls.{hear_refusal}
use Rattle.poll_history.specs.Witness.{AllNameFive, BuffersNameFive}

pub all_name_five : AllNameFive
unfolding hear_refusal read_refusal is_sealed sealed xors num digits every
all_name_five = (refl, refl, refl, refl, refl, refl)

pub buffers_name_five : BuffersNameFive
unfolding fresh_call hear_call winner_call holds_poll poll_in poll_bytes pad voter_at hear_refusal read_refusal is_sealed sealed xors num digits every tab
buffers_name_five = (refl, refl, refl, refl)
