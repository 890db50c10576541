-- The messages that a poll holds, one of each unit, as a list; which of them goes before the others.
-- Assumes nothing.
use Rattle.std.specs.Prelude.{ℕ, Bool, false, not, ◌&&◌, ◌||◌, cond, List, [], ◌∷◌, eqb, ltb}
use Rattle.octets.specs.Addresses.{address}
use Rattle.octets.specs.Ordered.{ascending_by, put_by, find_by}
use Rattle.unit_poll.specs.declared.voter.Voter.{Voter}

-- ---- one message: a unit, and the priority with which it would be the manager
abbrev pub voter : ℕ → ℕ → Voter
voter unit priority = record { unit = unit; priority = priority }

-- a place that is not in use is all zeros
abbrev pub none : Voter
none = voter 0 0

-- one goes before another: a higher priority, or the same and a lower address
abbrev pub beats : Voter → Voter → Bool
beats v w = ltb w.priority v.priority || eqb w.priority v.priority && ltb v.unit w.unit

-- the one of two that goes before the other; the first where neither does
abbrev pub better : Voter → Voter → Voter
better v w = cond (beats w v) w v

-- within rule in the poll of the unit `own`: another unit's
abbrev pub voter_rule : ℕ → Voter → Bool
voter_rule own v = address v.unit && not (eqb v.unit own)

-- ---- all of them
abbrev pub unit_of : Voter → ℕ
unit_of v = v.unit

-- ascending by unit, no two alike
abbrev pub ascending : List Voter → Bool
ascending vs = ascending_by unit_of vs

-- a message at its place among these: in place of the unit's last one, or before the first of a higher unit
abbrev pub put : Voter → List Voter → List Voter
put w vs = put_by unit_of w vs

-- a unit has one
abbrev pub known : ℕ → List Voter → Bool
known u [] = false
known u (v ∷ vs) = eqb v.unit u || known u vs

-- the one of a unit, `none` where it has none
abbrev pub voter_for : ℕ → List Voter → Voter
voter_for u vs = find_by unit_of none u vs

-- the best of one and some others
abbrev pub best : Voter → List Voter → Voter
best v [] = v
best v (w ∷ ws) = best (better v w) ws
