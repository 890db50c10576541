-- What holds of every merge, as statements: the rows that the update does not speak of are left alone, and few rows are compared.
-- Assumes nothing.
use Rattle.std.specs.Prelude.{◌≡◌, true, not, List, ℕ, ◌*◌, ◌≤◌, ◌<◌, length, eqb}
use Rattle.octets.specs.Lists.{every, Each}
use Rattle.octets.specs.Addresses.{address}
use Rattle.frame_kinds.specs.Shape.{part_in}
use Rattle.frame_traffic.specs.Traffic.{update, entries_of}
use Rattle.route_table.specs.declared.table.Table.{Table}
use Rattle.route_table.specs.Rows.{ascending, standing, row_for}
use Rattle.route_table.specs.Tables.{rows_of}
use Rattle.route_merges.specs.declared.candidate.Candidate.{Candidate}
use Rattle.route_merges.specs.Comparing.{compared_all}
use Rattle.route_merges.specs.Learning.{Learned}
use Rattle.route_merges.specs.Merges.{update_in, merge_of}

-- an update says nothing of a destination: it is neither the update's origin nor that of one of its entries
abbrev pub Unnamed : List ℕ → ℕ → Type 0
Unnamed s d = ((update_in s).origin ≡ d → ⊥) × (every (λ e. not (eqb e.destination d)) (entries_of (update_in s).count (part_in update s)) ≡ true)

-- after an accepted merge such a destination has the row that it had, if that is not gone by then, and none where it had none
abbrev pub OthersUnchanged : Type 0
OthersUnchanged =
    (t : Table) (s : List ℕ) (quality time d : ℕ) → (merge_of t s quality time).refused ≡ 0 → address d ≡ true → Unnamed s d
    → row_for d (rows_of (merge_of t s quality time).table) ≡ row_for d (standing time (rows_of t))

-- ---- how many rows are compared
-- for candidates for units, among ascending rows as a table may have them: at most 48 a candidate
abbrev pub FewForEach : Type 0
FewForEach =
    (via time : ℕ) (cs : List Candidate) → Each (λ c. 0 < c.destination) cs → (l : Learned) → ascending l.rows ≡ true → length l.rows ≤ 48
    → compared_all via time cs l ≤ 48 * length cs

-- in a merge, of any bytes into any table: at most 1,200
abbrev pub FewInAll : Type 0
FewInAll = (t : Table) (s : List ℕ) (quality time : ℕ) → (merge_of t s quality time).compared ≤ 1200
