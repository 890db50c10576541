-- `sift`'s loop: what is left to store, with what is stored, is the whole.
-- Assumes nothing.
use Rattle.octets.proofs.Words.{sets, false}
use Rattle.unit_poll.specs.Places.{sifted}
use Rattle.unit_poll.specs.PollBytes.{places_in, voters_bytes}
use Rattle.unit_poll.proofs.LoopLaws.{Sifting}
use Rattle.unit_poll.proofs.poll.sift.Given as goal

abbrev pub invariant-loop-place : goal.invariant-loop-place
invariant-loop-place l = Sifting l.initial.poll (sets l.initial.poll 3 (voters_bytes (sifted false l.initial.hand (places_in l.initial.poll)))) l.poll l.done l.hand l.place
