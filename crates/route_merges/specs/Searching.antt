-- Needs no belief, laws carry it to the list of rows: what the code sees of a table's 48 places while it looks for a candidate's row, and what it stores
-- there. The search goes up from the first place and stops at the first that is not lower.
-- Assumes nothing.
use Rattle.std.specs.Prelude.{◌≡◌, true, ℕ, ◌+◌, ◌-◌, ◌≤◌, Bool, ◌||◌, cond, List, [], ◌∷◌, ◌++◌, eqb, ltb, take, drop}
use Rattle.route_table.specs.declared.row.Row.{Row}
use Rattle.route_table.specs.Rows.{ascending, in_use, pad, withdrawn_at}
use Rattle.route_merges.specs.declared.candidate.Candidate.{Candidate}
use Rattle.route_merges.specs.Candidates.{bad}
use Rattle.route_merges.specs.Comparing
use Rattle.route_merges.specs.Learning.{row_by, gives_way, taken_back, learned, learn}

-- places as a table has them: its rows in use, which ascend, and none behind them
pub record Placed (places : List Row) : Type 0 where
  pub held : places ≡ pad (in_use places)
  pub ascends : ascending (in_use places) ≡ true

-- the search for a destination ends at a place that is not in use, or whose row is no lower
abbrev pub stops : ℕ → Row → Bool
stops d r = eqb r.destination 0 || ltb (d - 1) r.destination

-- a candidate changes the row for its destination
abbrev pub alters : ℕ → ℕ → Candidate → Row → Bool
alters via time c r = cond (bad c) (taken_back via time r) (gives_way via time c r)

-- what it makes of that row, or of none
abbrev pub made : ℕ → ℕ → Candidate → Row → Row
made via time c r = cond (bad c) (withdrawn_at time r) (row_by via time c)

-- a row pushed in at the first of some places: each row moves up by one, as far as the first place that is not in use
abbrev pub pushed : Row → List Row → List Row
pushed w [] = []
pushed w (r ∷ rs) = w ∷ cond (eqb r.destination 0) rs (pushed r rs)

abbrev pub moved_in : List Row → ℕ → Row → List Row
moved_in places at w = take at places ++ pushed w (drop at places)

-- one candidate is learned, skipped or not, and so many rows are compared for it
pub record Learns (via time : ℕ) (c : Candidate) (old new : List Row) (skipped compared : ℕ) : Type 0 where
  pub rows : (so_far : ℕ) → learn via time c (learned (in_use old) so_far) ≡ learned (in_use new) (so_far + skipped)
  pub count : compared ≡ Comparing.compared c.destination (in_use old)
  pub placed : Placed new
  pub few : skipped ≤ 1
  pub most : compared ≤ 48
