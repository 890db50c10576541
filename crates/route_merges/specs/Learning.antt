-- What one candidate after the other does to the rows of a table, and how many were skipped for want of room.
-- Assumes nothing.
use Rattle.std.specs.Prelude.{ℕ, ◌+◌, Bool, false, not, ◌&&◌, ◌||◌, cond, List, [], ◌∷◌, eqb, ltb, length}
use Rattle.route_table.specs.declared.row.Row.{Row}
use Rattle.octets.specs.Ordered.{put_by}
use Rattle.route_table.specs.Rows.{leading_to, usable, withdrawn_at, row_for}
use Rattle.route_merges.specs.declared.candidate.Candidate.{Candidate}
use Rattle.route_merges.specs.Candidates.{bad}

-- the row that a candidate via a neighbour gives at a time
abbrev pub row_by : ℕ → ℕ → Candidate → Row
row_by via time c =
    record { destination = c.destination; next_hop = via; hops = c.hops; quality = c.quality; time = time; withdrawn = false }

-- a row gives way to a good candidate: it is dead, or via the same neighbour (even if that is worse now), or has more hops, or equal hops
-- and lower quality
abbrev pub gives_way : ℕ → ℕ → Candidate → Row → Bool
gives_way via time c r =
    not (usable time r) || eqb r.next_hop via || ltb c.hops r.hops || eqb c.hops r.hops && ltb r.quality c.quality

-- a row that leads by this neighbour, and may carry traffic, is withdrawn by a bad candidate
abbrev pub taken_back : ℕ → ℕ → Row → Bool
taken_back via time r = usable time r && eqb r.next_hop via

-- a row at its place among ascending ones: in place of the one for its destination, or before the first that is higher
abbrev pub put : Row → List Row → List Row
put w rs = put_by leading_to w rs

pub record Learned : Type 0 where
  pub rows : List Row
  pub skipped : ℕ

abbrev pub learned : List Row → ℕ → Learned
learned rows skipped = record { rows = rows; skipped = skipped }

-- a candidate for a destination that has the row r
abbrev pub met : ℕ → ℕ → Candidate → Row → Learned → Learned
met via time c r l =
    cond (bad c)
    (cond (taken_back via time r) (learned (put (withdrawn_at time r) l.rows) l.skipped) l)
    (cond (gives_way via time c r) (learned (put (row_by via time c) l.rows) l.skipped) l)

-- a candidate for a destination that has none: added where fewer than 48 rows stand, else skipped
abbrev pub new_to : ℕ → ℕ → Candidate → Learned → Learned
new_to via time c l =
    cond (bad c) l
    (cond (ltb (length l.rows) 48) (learned (put (row_by via time c) l.rows) l.skipped) (learned l.rows (l.skipped + 1)))

unfoldable pub learn : ℕ → ℕ → Candidate → Learned → Learned
learn via time c l =
    let r = row_for c.destination l.rows in
    cond (eqb r.destination c.destination) (met via time c r l) (new_to via time c l)

abbrev pub learn_all : ℕ → ℕ → List Candidate → Learned → Learned
learn_all via time [] l = l
learn_all via time (c ∷ cs) l = learn_all via time cs (learn via time c l)
