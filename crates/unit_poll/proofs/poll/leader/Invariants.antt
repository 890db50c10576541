-- `leader`'s loop: the best so far and of the rest is the best of all.
-- Assumes nothing.
use Rattle.octets.proofs.Words.{◌≡◌, drop}
use Rattle.unit_poll.specs.PollBytes.{in_use, places_in, poll_in}
use Rattle.unit_poll.specs.Polls.{winning}
use Rattle.unit_poll.specs.Voters.{best}
use Rattle.unit_poll.proofs.poll.leader.Given as goal

abbrev pub invariant-loop-place : goal.invariant-loop-place
invariant-loop-place l = best l.leader (in_use (drop l.place (places_in l.s))) ≡ winning (poll_in l.s)
