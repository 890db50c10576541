-- A poll as 75 bytes, the lowest byte of a number first: own 2, priority 1, then 24 places: unit 2, priority 1; zeros behind the others.
-- Assumes nothing.
use Rattle.std.specs.Prelude.{ℕ, ◌+◌, ◌*◌, ◌-◌, Bool, ◌&&◌, cond, List, [], ◌∷◌, ◌++◌, eqb, length, get_or, replicate}
use Rattle.octets.specs.Calls.{after, stored}
use Rattle.octets.specs.Layouts.{fields, bytes, in_turn}
use Rattle.octets.specs.Lists.{tab}
use Rattle.octets.specs.Numbers.{num}
use Rattle.octets.specs.Ordered.{in_use_by}
use Rattle.octets.specs.Zeros.{zeros_from}
use Rattle.unit_poll.specs.declared.voter.Voter.{Voter}
use Rattle.unit_poll.specs.Outcomes.{Named}
use Rattle.unit_poll.specs.Voters.{voter, none, unit_of}
use Rattle.unit_poll.specs.Polls.{Poll, most_others, poll_rule, fresh_poll, fresh_refusal, hear_refusal, heard_by, winner_of}

-- ---- a message
abbrev pub voter_widths : List ℕ
voter_widths = 2 ∷ 1 ∷ []

abbrev pub voter_values : Voter → List ℕ
voter_values v = v.unit ∷ v.priority ∷ []

abbrev pub voter_from : List ℕ → Voter
voter_from vs = voter (get_or vs 0 0) (get_or vs 1 0)

-- the one at a place, counted from 0
unfoldable pub voter_at : List ℕ → ℕ → Voter
voter_at s i = voter_from (fields voter_widths s (3 + 3 * i))

abbrev pub voters_bytes : List Voter → List ℕ
voters_bytes vs = in_turn voter_widths voter_values vs

-- ---- a poll
abbrev pub poll_size : ℕ
poll_size = 75

-- the others: up to the first place that is not in use
abbrev pub in_use : List Voter → List Voter
in_use vs = in_use_by unit_of vs

abbrev pub places_in : List ℕ → List Voter
places_in s = tab most_others (voter_at s)

unfoldable pub poll_in : List ℕ → Poll
poll_in s = record { own = num 2 s 0; priority = num 1 s 2; others = in_use (places_in s) }

-- the places of these others
unfoldable pub pad : List Voter → List Voter
pad vs = vs ++ replicate (most_others - length vs) none

unfoldable pub poll_bytes : Poll → List ℕ
poll_bytes p = bytes (2 ∷ 1 ∷ []) (p.own ∷ p.priority ∷ []) ++ voters_bytes (pad p.others)

-- the bytes hold a poll within rule: there are 75, and zeros stand behind its others
unfoldable pub holds_poll : List ℕ → Bool
holds_poll s = eqb (length s) poll_size && poll_rule (poll_in s) && zeros_from (3 + 3 * length (poll_in s).others) s

-- ---- the calls on the bytes that a C caller keeps: the status, and the bytes
pub record PollLeft : Type 0 where
  pub status : ℕ
  pub poll : List ℕ

abbrev pub poll_left : ℕ → List ℕ → PollLeft
poll_left status poll = record { status = status; poll = poll }

-- a fresh poll: only the number of bytes matters, not what they were
unfoldable pub fresh_call : List ℕ → ℕ → ℕ → PollLeft
fresh_call s own priority =
    let status = stored poll_size s (fresh_refusal own) in
    poll_left status (after status s (poll_bytes (fresh_poll own priority)))

-- 14 where the bytes hold no poll
unfoldable pub hear_call : List ℕ → List ℕ → PollLeft
hear_call s frame =
    let status : ℕ = cond (holds_poll s) (hear_refusal (poll_in s) frame) 14 in
    poll_left status (after status s (poll_bytes (heard_by (poll_in s) frame)))

-- ---- the winner: the status, and who it is
pub record WinnerLeft : Type 0 where
  pub status : ℕ
  pub winner : ℕ

abbrev pub winner_left : ℕ → ℕ → WinnerLeft
winner_left status winner = record { status = status; winner = winner }

unfoldable pub winner_call : List ℕ → ℕ → WinnerLeft
winner_call s winner =
    let status : ℕ = cond (holds_poll s) 0 14 in
    winner_left status (after status winner (winner_of (poll_in s)))

-- what is said of the winner: the number that refuses, or who it is
abbrev pub named_in : List ℕ → Named
named_in s = cond (holds_poll s) (record { refused = 0; unit = winner_of (poll_in s) }) (record { refused = 14; unit = 0 })
