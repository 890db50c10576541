-- Elapsed time: milliseconds from a start on, plain numbers that never wrap, made from calls alone. And true time, of which a time shows the lowest 32 bits:
-- under document 02's premise the two are one.
-- Assumes nothing.
use Rattle.std.specs.Prelude.{◌≡◌, ℕ, ◌+◌, ◌%◌, ◌^◌, ◌<◌, ◌≤◌, Bool, true, cond, List, [], ◌∷◌}
use Rattle.moments.specs.Moments.{age_at}

-- ---- elapsed time
-- the last accepted time, and the ms that had elapsed then
pub record Clock : Type 0 where
  pub last : ℕ
  pub elapsed : ℕ

-- at the start nothing has elapsed
abbrev pub started : ℕ → Clock
started time = record { last = time; elapsed = 0 }

-- the ms that have elapsed at a time: the step to it more
abbrev pub now_at : Clock → ℕ → ℕ
now_at k time = k.elapsed + age_at time k.last

-- a call: when it is made, and whether it is accepted and changes what it is made on
pub record Step : Type 0 where
  pub time : ℕ
  pub changes : Bool

-- such a call is the last accepted one from then on; any other leaves the clock as it was
abbrev pub moved : Clock → Step → Clock
moved k s = cond s.changes (record { last = s.time; elapsed = now_at k s.time }) k

abbrev pub clock_after : Clock → List Step → Clock
clock_after k [] = k
clock_after k (s ∷ ss) = clock_after (moved k s) ss

-- ---- true time
-- the true time, in ms from anywhere on, of the last of these calls that was accepted and changed something, where each is made at the true time beside it;
-- `last` before any
abbrev pub last_of : ℕ → List Step → List ℕ → ℕ
last_of last [] nows = last
last_of last (s ∷ ss) [] = last
last_of last (s ∷ ss) (now ∷ nows) = last_of (cond s.changes now last) ss nows

-- document 02's premise: each call's time is its true time modulo 2^32, and each that is accepted and changes something is made no earlier than the one
-- before and at most 2^31 - 1 ms after it
abbrev pub Timely : ℕ → List Step → List ℕ → Type 0
Timely last [] nows = Unit
Timely last (s ∷ ss) [] = ⊥
Timely last (s ∷ ss) (now ∷ nows) =
    (s.time ≡ now % 2 ^ 32) × ((s.changes ≡ true → (last ≤ now) × (now < last + 2 ^ 31)) × Timely (cond s.changes now last) ss nows)

-- a clock's elapsed time is true time: at any true time at most 2^31 - 1 ms after that of the last accepted call, what has elapsed is what has passed since
-- the true time at which all began
abbrev pub IsTrue : ℕ → Clock → ℕ → Type 0
IsTrue began k last = (now : ℕ) → last ≤ now → now < last + 2 ^ 31 → began + now_at k (now % 2 ^ 32) ≡ now

-- so it is under that premise
abbrev pub TrueTime : Type 0
TrueTime =
    (began time : ℕ) (ss : List Step) (nows : List ℕ) → time ≡ began % 2 ^ 32 → Timely began ss nows
    → IsTrue began (clock_after (started time) ss) (last_of began ss nows)
