-- Polls that firmware holds as 75 bytes: any frames handed to them from C, one after the other, from a fresh poll on; and what the statuses alone say was
-- accepted.
-- Assumes nothing.
use Rattle.std.specs.Prelude.{ℕ, ◌<◌, ◌≡◌, cond, List, [], ◌∷◌, eqb}
use Rattle.octets.specs.Layouts.{Bytes}
use Rattle.octets.specs.Lists.{Each}
use Rattle.unit_poll.specs.declared.voter.Voter.{Voter}
use Rattle.unit_poll.specs.Polls.{voter_in, winner_of}
use Rattle.unit_poll.specs.PollBytes.{poll_bytes, fresh_call, hear_call, winner_left, winner_call}
use Rattle.unit_poll.specs.Voters.{voter}
use Rattle.poll_history.specs.Histories.{last_of, Course, ending, log}

-- what the buffer holds when frames were handed over, in their order
abbrev pub buffer_after : List ℕ → List (List ℕ) → List ℕ
buffer_after s [] = s
buffer_after s (f ∷ fs) = buffer_after (hear_call s f).poll fs

-- the messages of those whose status was 0
abbrev pub taken_in_c : List ℕ → List (List ℕ) → List Voter
taken_in_c s [] = []
taken_in_c s (f ∷ fs) =
    let later = taken_in_c (hear_call s f).poll fs in
    cond (eqb (hear_call s f).status 0) (voter_in f ∷ later) later

-- a buffer, whatever it held, and the course of the unit that keeps its poll there
pub record Held : Type 0 where
  pub buffer : List ℕ
  pub course : Course

abbrev pub begun : Held → List ℕ
begun h = (fresh_call h.buffer h.course.own h.course.priority).poll

abbrev pub ended : Held → List ℕ
ended h = buffer_after (begun h) h.course.frames

abbrev pub log_in_c : Held → List Voter
log_in_c h = voter h.course.own h.course.priority ∷ taken_in_c (begun h) h.course.frames

-- what C can hand over: a priority of 8 bits, frames of bytes; and the fresh poll was accepted
pub record Machine (h : Held) : Type 0 where
  pub priority : h.course.priority < 0x100
  pub frames : Each Bytes h.course.frames
  pub accepted : (fresh_call h.buffer h.course.own h.course.priority).status ≡ 0

-- ---- the statements
-- a call that is refused leaves the poll, whatever the bytes hold, and the winner as they were
pub record RefusedLeaves : Type 0 where
  pub fresh : (s : List ℕ) (own priority : ℕ) → ((fresh_call s own priority).status ≡ 0 → ⊥) → (fresh_call s own priority).poll ≡ s
  pub hear : (s frame : List ℕ) → ((hear_call s frame).status ≡ 0 → ⊥) → (hear_call s frame).poll ≡ s
  pub winner : (s : List ℕ) (held : ℕ) → ((winner_call s held).status ≡ 0 → ⊥) → (winner_call s held).winner ≡ held

-- the buffer holds the bytes of the poll that the course comes to, and the statuses accept what the course accepts
abbrev pub StaysStored : Type 0
StaysStored = (h : Held) → Machine h → (ended h ≡ poll_bytes (ending h.course)) × (log_in_c h ≡ log h.course)

-- a winner is always named, the one of that poll
abbrev pub AlwaysNames : Type 0
AlwaysNames = (h : Held) → Machine h → (held : ℕ) → winner_call (ended h) held ≡ winner_left 0 (winner_of (ending h.course))

abbrev pub SameLastInC : Held → Held → Type 0
SameLastInC a b = (u : ℕ) → last_of u (log_in_c a) ≡ last_of u (log_in_c b)

-- units whose accepted messages, by the statuses, give the same last message for each unit are answered the same winner
abbrev pub SameWinnerInC : Type 0
SameWinnerInC = (a b : Held) → Machine a → Machine b → SameLastInC a b → (held other : ℕ) → winner_call (ended a) held ≡ winner_call (ended b) other

-- two units that are both answered themselves have not the same last messages
abbrev pub NeverTwoInC : Type 0
NeverTwoInC =
    (a b : Held) → Machine a → Machine b → (held other : ℕ) → (winner_call (ended a) held).winner ≡ a.course.own → (winner_call (ended b) other).winner ≡ b.course.own
    → (a.course.own ≡ b.course.own → ⊥) → SameLastInC a b → ⊥
