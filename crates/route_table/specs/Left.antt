-- What a caller can rely on of the ms that a lookup says are left, while no call changes the table; as statements.
-- Assumes nothing.
use Rattle.std.specs.Prelude.{◌≡◌, ℕ, suc, ◌-◌, ◌≤◌}
use Rattle.moments.specs.Moments.{age_at}
use Rattle.route_table.specs.Outcomes.{Found}
use Rattle.route_table.specs.declared.table.Table.{Table}
use Rattle.route_table.specs.Tables.{lookup_of}

-- the same answer so many ms later
abbrev pub later : ℕ → Found → Found
later passed found = record { refused = 0; next_hop = found.next_hop; hops = found.hops; left = found.left - passed }

-- asked again when at most as many ms have passed as were left, the table answers the same next hop and hops, and that so many are left as then remain; ..
abbrev pub LastsSoLong : Type 0
LastsSoLong =
    (t : Table) (d time again : ℕ) → let found = lookup_of t d time in
    found.refused ≡ 0 → age_at again time ≤ found.left → lookup_of t d again ≡ later (age_at again time) found

-- .. one ms after that it is 11
abbrev pub EndsThen : Type 0
EndsThen =
    (t : Table) (d time again : ℕ) → let found = lookup_of t d time in
    found.refused ≡ 0 → age_at again time ≡ suc found.left → (lookup_of t d again).refused ≡ 11

-- there are never more than 300,000
abbrev pub NeverLonger : Type 0
NeverLonger = (t : Table) (d time : ℕ) → (lookup_of t d time).left ≤ 300000
