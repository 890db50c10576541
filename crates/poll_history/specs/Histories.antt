-- A poll over any frames that its unit hears, refused ones among them; and each unit's last message among those that were accepted.
-- Assumes nothing.
use Rattle.std.specs.Prelude.{ℕ, cond, List, [], ◌∷◌, eqb}
use Rattle.unit_poll.specs.declared.voter.Voter.{Voter}
use Rattle.unit_poll.specs.Polls.{Poll, fresh_poll, voter_in, hear_refusal, heard_by}
use Rattle.unit_poll.specs.Voters.{voter, none}

-- the poll when all of some frames were heard, in their order
abbrev pub poll_after : Poll → List (List ℕ) → Poll
poll_after p [] = p
poll_after p (s ∷ ss) = poll_after (heard_by p s) ss

-- the messages of those of them that are accepted
abbrev pub taken : Poll → List (List ℕ) → List Voter
taken p [] = []
taken p (s ∷ ss) =
    let later = taken (heard_by p s) ss in
    cond (eqb (hear_refusal p s) 0) (voter_in s ∷ later) later

-- a unit's last message in a log, `held` where it sent none
abbrev pub last_since : Voter → ℕ → List Voter → Voter
last_since held u [] = held
last_since held u (v ∷ vs) = last_since (cond (eqb v.unit u) v held) u vs

abbrev pub last_of : ℕ → List Voter → Voter
last_of u log = last_since none u log

-- ---- a unit with its priority, and what it hears from its fresh poll on
pub record Course : Type 0 where
  pub own : ℕ
  pub priority : ℕ
  pub frames : List (List ℕ)

abbrev pub ending : Course → Poll
ending c = poll_after (fresh_poll c.own c.priority) c.frames

-- its own message, and then all that it accepted
abbrev pub log : Course → List Voter
log c = voter c.own c.priority ∷ taken (fresh_poll c.own c.priority) c.frames
