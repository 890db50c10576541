-- Passing a beacon on: what a forwarder needs of one, whatever its layout; when it passes it on, and what it then records.
-- Assumes nothing.
use Rattle.std.specs.Prelude.{ℕ, ◌+◌, Bool, true, not, ◌&&◌, List, [], ◌∷◌, ◌++◌, eqb, ltb}
use Rattle.octets.specs.Answers.{Reason, reason, refusing, first}
use Rattle.moments.specs.Moments.{in_order}
use Rattle.route_table.specs.Outcomes.{Changed, Found}
use Rattle.route_table.specs.declared.table.Head.{Head}
use Rattle.route_table.specs.declared.table.Table.{Table}
use Rattle.route_table.specs.Rows.{standing}
use Rattle.route_table.specs.Tables.{rows_of, head_of, table_of, within_rule, settled, lookup_of}
use Rattle.route_passing.specs.declared.Passing.{Passing}

-- the pair is the last one forwarded
abbrev pub again : Head → Passing → Bool
again h p = h.forwarded && eqb h.origin p.original_source && eqb h.sequence p.sequence

-- it is this unit's to forward: its own hop, its lookup's hops to the beacon's original source, is the beacon's and one more, the beacon may go further, and
-- it is a new one
abbrev pub to_forward : Head → Found → Passing → Bool
to_forward h found p = eqb found.hops (p.hop + 1) && ltb p.hop p.max_hops && not (again h p)

-- why a beacon that was read is not passed on by a table within rule with this head, which answers `found` to a lookup of its original source: 6 15 8 11 16 4
abbrev pub passing_reasons : Head → Found → ℕ → Passing → ℕ → ℕ → List Reason
passing_reasons h found network p delay time =
    reason (eqb p.source h.own) 6 ∷
    reason (not (eqb p.network network)) 15 ∷
    reason (not (in_order h.time time)) 8 ∷
    reason (not (eqb found.refused 0)) 11 ∷
    reason (not (to_forward h found p)) 16 ∷
    reason (ltb p.longest (p.delay + delay)) 4 ∷
    []

-- these, of a table's own head and lookup
abbrev pub table_reasons : Table → ℕ → Passing → ℕ → ℕ → List Reason
table_reasons t network p delay time = passing_reasons (head_of t) (lookup_of t p.original_source time) network p delay time

-- the head when a beacon was passed on: its pair and the time are recorded
abbrev pub passed_head : Head → Passing → ℕ → Head
passed_head h p time = record { own = h.own; time = time; forwarded = true; origin = p.original_source; sequence = p.sequence }

-- the table then: gone rows are dropped
abbrev pub passed_table : Table → Passing → ℕ → Table
passed_table t p time = table_of (passed_head (head_of t) p time) (standing time (rows_of t))

-- a beacon that a number refuses before the table is asked (0: none), and another where nothing else does: 14, the first, 6 15 8 11 16 4, the last
abbrev pub pass_reasons : Table → ℕ → ℕ → Passing → ℕ → ℕ → ℕ → List Reason
pass_reasons t before network p delay time behind =
    reason (not (within_rule t)) 14 ∷ refusing before ∷ table_reasons t network p delay time ++ (refusing behind ∷ [])

unfoldable pub pass_of : Table → ℕ → ℕ → Passing → ℕ → ℕ → ℕ → Changed
pass_of t before network p delay time behind = settled (first (pass_reasons t before network p delay time behind)) t (passed_table t p time)
