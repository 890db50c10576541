-- A poll, and what its calls answer: fresh, hear, winner.
-- Assumes nothing.
use Rattle.std.specs.Prelude.{ℕ, Bool, not, ◌&&◌, List, [], ◌∷◌, eqb, leb, length}
use Rattle.octets.specs.Addresses.{address}
use Rattle.octets.specs.Answers.{Reason, reason, refusing, first}
use Rattle.octets.specs.Calls.{after}
use Rattle.octets.specs.Lists.{every}
use Rattle.frame_kinds.specs.Reading.{refusal_as}
use Rattle.frame_kinds.specs.Shape.{values_in}
use Rattle.frame_requests.specs.declared.Election.{Election}
use Rattle.frame_requests.specs.Requests.{election, election_from}
use Rattle.unit_poll.specs.declared.voter.Voter.{Voter}
use Rattle.unit_poll.specs.Voters.{voter, voter_rule, ascending, known, put, best}

-- this unit, its priority, and the last message of each other unit that was heard
pub record Poll : Type 0 where
  pub own : ℕ
  pub priority : ℕ
  pub others : List Voter

-- room for so many others
abbrev pub most_others : ℕ
most_others = 24

-- within rule: its unit is an address, and the others are other units, ascending, and not too many
abbrev pub poll_rule : Poll → Bool
poll_rule p = address p.own && ascending p.others && every (voter_rule p.own) p.others && leb (length p.others) most_others

-- its own message; all messages
abbrev pub self_of : Poll → Voter
self_of p = voter p.own p.priority

abbrev pub all_of : Poll → List Voter
all_of p = self_of p ∷ p.others

-- ---- a fresh poll has heard none; 4
abbrev pub fresh_poll : ℕ → ℕ → Poll
fresh_poll own priority = record { own = own; priority = priority; others = [] }

abbrev pub fresh_refusal : ℕ → ℕ
fresh_refusal own = first (reason (not (address own)) 4 ∷ [])

-- ---- hearing a frame
-- the message in a frame
abbrev pub election_in : List ℕ → Election
election_in s = election_from (values_in election s)

abbrev pub voter_in : List ℕ → Voter
voter_in s = voter (election_in s).node (election_in s).priority

-- why a poll within rule does not hear it: 1 2 1 3 4, 6 for one from oneself, 12 where there is no room for another unit
abbrev pub unheard_reasons : Poll → List ℕ → List Reason
unheard_reasons p s =
    let unit = (voter_in s).unit in
    refusing (refusal_as election s) ∷
    reason (eqb unit p.own) 6 ∷
    reason (not (known unit p.others) && leb most_others (length p.others)) 12 ∷
    []

unfoldable pub hear_refusal : Poll → List ℕ → ℕ
hear_refusal p s = first (unheard_reasons p s)

-- the poll when it was heard: the message stands as its unit's last one
abbrev pub with_message : Poll → Voter → Poll
with_message p v = record { own = p.own; priority = p.priority; others = put v p.others }

abbrev pub heard_by : Poll → List ℕ → Poll
heard_by p s = after (hear_refusal p s) p (with_message p (voter_in s))

-- ---- the winner: the best of all that were heard, oneself included
abbrev pub winning : Poll → Voter
winning p = best (self_of p) p.others

abbrev pub winner_of : Poll → ℕ
winner_of p = (winning p).unit
