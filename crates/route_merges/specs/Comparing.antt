-- How many rows a merge compares. The search for a candidate's destination goes up from the first row and stops at the first that is not lower.
-- Assumes nothing.
use Rattle.std.specs.Prelude.{ℕ, suc, ◌+◌, cond, List, [], ◌∷◌, ltb, length}
use Rattle.route_table.specs.declared.row.Row.{Row}
use Rattle.route_merges.specs.declared.candidate.Candidate.{Candidate}
use Rattle.route_merges.specs.Learning.{Learned, learn}

-- how many rows are lower than a destination
abbrev pub lower : ℕ → List Row → ℕ
lower d [] = 0
lower d (r ∷ rs) = cond (ltb r.destination d) (suc (lower d rs)) (lower d rs)

-- for one candidate: these, and one more if a row remains
abbrev pub compared : ℕ → List Row → ℕ
compared d rs = lower d rs + cond (ltb (lower d rs) (length rs)) 1 0

-- for one candidate after the other, good, bad or skipped: each among the rows that stand when it is met
abbrev pub compared_all : ℕ → ℕ → List Candidate → Learned → ℕ
compared_all via time [] l = 0
compared_all via time (c ∷ cs) l = compared c.destination l.rows + compared_all via time cs (learn via time c l)
