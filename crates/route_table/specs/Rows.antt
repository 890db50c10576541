-- The rows of a routing table as a list, without padding: their ages, their rules, and one looked up.
-- Assumes nothing.
use Rattle.std.specs.Prelude.{ℕ, ◌-◌, Bool, true, false, not, ◌&&◌, ◌||◌, cond, List, [], ◌∷◌, ◌++◌, eqb, leb, length, replicate}
use Rattle.octets.specs.Lists.{every}
use Rattle.octets.specs.Ordered.{ascending_by, find_by, in_use_by}
use Rattle.moments.specs.Moments.{age_at, in_order}
use Rattle.octets.specs.Addresses.{address}
use Rattle.route_table.specs.declared.row.Row.{Row}

-- ---- one row

-- a place that is not in use is all zeros
abbrev pub none : Row
none = record { destination = 0; next_hop = 0; hops = 0; quality = 0; time = 0; withdrawn = false }

-- usable: not withdrawn, and at most 300,000 ms old
abbrev pub usable : ℕ → Row → Bool
usable time r = not r.withdrawn && leb (age_at time r.time) 300000

-- for how many ms more a row is usable: 300,000 less its age
abbrev pub left_at : ℕ → Row → ℕ
left_at time r = 300000 - age_at time r.time

-- traffic to a destination may go by a row: it is the destination's, and usable
abbrev pub leads : ℕ → ℕ → Row → Bool
leads d time r = eqb r.destination d && usable time r

-- a row stands, usable or dead, until it is gone: up to 360,000 ms, or 60,000 after its withdrawal
abbrev pub stands : ℕ → Row → Bool
stands time r = leb (age_at time r.time) (cond r.withdrawn 60000 360000)

-- a row within rule in the table of the unit `own` whose last accepted time is `last`
abbrev pub row_rule : ℕ → ℕ → Row → Bool
row_rule own last r =
    address r.destination && not (eqb r.destination own)
    && (address r.next_hop && not (eqb r.next_hop own))
    && (leb 1 r.hops && leb r.hops 16)
    && leb 40 r.quality
    && in_order r.time last

-- a place that is not in use is all zeros, and is known by it
abbrev pub is_none : Row → Bool
is_none r =
    eqb r.destination 0 && eqb r.next_hop 0 && eqb r.hops 0 && eqb r.quality 0 && eqb r.time 0 && not r.withdrawn

-- a row withdrawn at a time keeps all but its time
abbrev pub withdrawn_at : ℕ → Row → Row
withdrawn_at time r =
    record { destination = r.destination; next_hop = r.next_hop; hops = r.hops; quality = r.quality; time = time; withdrawn = true }

-- a row is lost when a unit is forgotten: it is usable, and leads to it or through it
abbrev pub lost : ℕ → ℕ → Row → Bool
lost unit time r = usable time r && (eqb r.destination unit || eqb r.next_hop unit)

-- a row when a unit is forgotten: withdrawn if it is lost
abbrev pub forgotten : ℕ → ℕ → Row → Row
forgotten unit time r = cond (lost unit time r) (withdrawn_at time r) r

-- ---- all rows

-- where a row leads
abbrev pub leading_to : Row → ℕ
leading_to r = r.destination

-- ascending by destination, no two alike
abbrev pub ascending : List Row → Bool
ascending rs = ascending_by leading_to rs

-- the rows in use: up to the first place that is not
abbrev pub in_use : List Row → List Row
in_use rs = in_use_by leading_to rs

-- the 48 places of a table that holds these rows
unfoldable pub pad : List Row → List Row
pad rs = rs ++ replicate (48 - length rs) none

-- the rows that stand, in their order
abbrev pub standing : ℕ → List Row → List Row
standing time [] = []
standing time (r ∷ rs) = cond (stands time r) (r ∷ standing time rs) (standing time rs)

-- the 48 places when the rows that are gone have been dropped: as they were where none is
unfoldable pub standing_places : ℕ → List Row → List Row
standing_places time places = cond (every (stands time) (in_use places)) places (pad (standing time (in_use places)))

-- the row for a destination, `none` where there is none
abbrev pub row_for : ℕ → List Row → Row
row_for d rs = find_by leading_to none d rs
