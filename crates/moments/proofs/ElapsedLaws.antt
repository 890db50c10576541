-- Elapsed time is true time, where calls that are accepted and change something come less than 2^31 ms apart.
-- Assumes nothing.
use Rattle.std.proofs.Common.{◌≡◌, ℕ, ◌+◌, ◌%◌, ◌^◌, ◌<◌, ◌≤◌, Bool, true, false, cond, List, [], ◌∷◌, refl, arith}
use Rattle.moments.specs.Elapsed.{Clock, started, now_at, Step, moved, clock_after, last_of, Timely, TrueTime}
use Rattle.moments.proofs.MomentLaws.{true-age}

-- the clock's last time shows a true one, and what has elapsed is what has passed up to it
pub record Kept (began : ℕ) (k : Clock) (last : ℕ) : Type 0 where
  pub shown : k.last ≡ last % 2 ^ 32
  pub passed : began + k.elapsed ≡ last

-- so it is at the start
pub kept_at_once : (began time : ℕ) → time ≡ began % 2 ^ 32 → Kept began (started time) began
kept_at_once began time shown = record { shown = shown; passed = omega arith }

more : (began elapsed last now step : ℕ) → began + elapsed ≡ last → last + step ≡ now → began + (elapsed + step) ≡ now
more began elapsed last now step e f = omega arith

pub passed-at : (began : ℕ) (k : Clock) (last now : ℕ) → Kept began k last → last ≤ now → now < last + 2 ^ 32 → began + now_at k (now % 2 ^ 32) ≡ now
passed-at began k last now h l m = rw h.shown (more began k.elapsed last now _ h.passed (true-age last now l m))

pub kept-moved : (began : ℕ) (k : Clock) (last now : ℕ) (s : Step) → Kept began k last → s.time ≡ now % 2 ^ 32
    → (s.changes ≡ true → (last ≤ now) × (now < last + 2 ^ 31)) → Kept began (moved k s) (cond s.changes now last)
kept-moved began k last now s h shown bound = go s.changes refl
  where
    go : (changes : Bool) → s.changes ≡ changes
        → Kept began (cond changes (record { last = s.time; elapsed = now_at k s.time }) k) (cond changes now last)
    go true e = let (l, m) = bound e in record { shown = shown; passed = rw shown (passed-at began k last now h l (omega arith)) }
    go false e = h

kept-after : (began : ℕ) (k : Clock) (last : ℕ) (ss : List Step) (nows : List ℕ) → Kept began k last → Timely last ss nows
    → Kept began (clock_after k ss) (last_of last ss nows)
kept-after began k last [] nows h t = h
kept-after began k last (s ∷ ss) [] h t = absurd t
kept-after began k last (s ∷ ss) (now ∷ nows) h (shown, (bound, rest)) =
    kept-after began (moved k s) (cond s.changes now last) ss nows (kept-moved began k last now s h shown bound) rest

pub true-time : TrueTime
true-time began time ss nows shown timely now l m =
    passed-at began _ (last_of began ss nows) now (kept-after began (started time) began ss nows (kept_at_once began time shown) timely) l (omega (arith, m))
