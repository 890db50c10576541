-- What every poll comes to name, as statements.
-- Assumes nothing.
use Rattle.std.specs.Prelude.{ℕ, ◌≡◌, true, false}
use Rattle.octets.specs.Addresses.{address}
use Rattle.unit_poll.specs.declared.voter.Voter.{Voter}
use Rattle.unit_poll.specs.Polls.{Poll, poll_rule, all_of, winning, winner_of}
use Rattle.unit_poll.specs.Voters.{beats, voter_for}
use Rattle.poll_history.specs.Histories.{last_of, Course, ending, log}

-- what two courses share: each unit's last message, their own included
abbrev pub SameLast : Course → Course → Type 0
SameLast a b = (u : ℕ) → last_of u (log a) ≡ last_of u (log b)

-- units whose accepted messages give the same last message for each unit name the same winner, whatever the order and whatever was refused
abbrev pub SameWinner : Type 0
SameWinner = (a b : Course) → address a.own ≡ true → address b.own ≡ true → SameLast a b → winner_of (ending a) ≡ winner_of (ending b)

-- one winner, never two: two units that both name themselves have not the same last messages
abbrev pub NeverTwo : Type 0
NeverTwo =
    (a b : Course) → address a.own ≡ true → address b.own ≡ true → winner_of (ending a) ≡ a.own → winner_of (ending b) ≡ b.own → (a.own ≡ b.own → ⊥)
    → SameLast a b → ⊥

-- every poll of a course is within rule, ..
abbrev pub KeepsRule : Type 0
KeepsRule = (c : Course) → address c.own ≡ true → poll_rule (ending c) ≡ true

-- .. and it holds each unit's last message, and no other
abbrev pub HoldsLast : Type 0
HoldsLast = (c : Course) → address c.own ≡ true → (u : ℕ) → voter_for u (all_of (ending c)) ≡ last_of u (log c)

-- the winner is a unit that was heard, or oneself, with its last message, and none of these goes before it
pub record Winner (p : Poll) (w : Voter) : Type 0 where
  pub heard : voter_for w.unit (all_of p) ≡ w
  pub unit : address w.unit ≡ true
  pub unbeaten : (u : ℕ) → address u ≡ true → (voter_for u (all_of p)).unit ≡ u → beats (voter_for u (all_of p)) w ≡ false

abbrev pub Wins : Type 0
Wins = (p : Poll) → poll_rule p ≡ true → Winner p (winning p)
