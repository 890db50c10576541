-- A course of updates at a site: which pages each unit hears in each round; what is asked of each of them; and what a unit's rows are to name.
-- Assumes nothing.
use Rattle.std.specs.Prelude.{ℕ, ◌-◌, ◌^◌, ◌≤◌, ◌<◌, ◌≡◌, Bool, true, not, ◌&&◌, List, eqb}
use Rattle.moments.specs.Moments.{age_at, in_order}
use Rattle.octets.specs.Addresses.{address}
use Rattle.route_table.specs.declared.row.Row.{Row}
use Rattle.route_table.specs.Rows.{usable, row_for}
use Rattle.site_converges.specs.Sites.{Site, Fewest, within}

-- ---- what goes on
-- a page that a unit hears: whose page, its number, when it was written, the quality that it is heard with, and when it is merged
pub record Heard : Type 0 where
  pub from : ℕ
  pub page : ℕ
  pub written : ℕ
  pub quality : ℕ
  pub time : ℕ

-- when each unit began with an empty table, and which pages each unit hears in each round, in this order. A unit's times are those of its own clock
pub record Course : Type 0 where
  pub began : ℕ → ℕ
  pub heard : ℕ → ℕ → List Heard

-- ---- what is asked of it
abbrev pub least_quality : ℕ
least_quality = 40

abbrev pub span : ℕ
span = 300000

-- the ms since a unit began, at a time of its clock
abbrev pub since_began : Course → ℕ → ℕ → ℕ
since_began c unit time = age_at time (c.began unit)

-- a time of 32 bits at most 300,000 ms after a unit began
pub record InTime (c : Course) (unit time : ℕ) : Type 0 where
  pub bits : time < 2 ^ 32
  pub until : since_began c unit time ≤ span

-- a page that is heard is that of a neighbour, over a link whose quality, a byte, is at least 40; and it is written and merged in time
pub record Fair (s : Site) (c : Course) (u : ℕ) (h : Heard) : Type 0 where
  pub near : s.linked u h.from ≡ true
  pub clear : least_quality ≤ h.quality
  pub byte : h.quality ≤ 255
  pub wrote : InTime c h.from h.written
  pub merged : InTime c u h.time

-- ---- what comes of it
-- a next hop and a number of hops lead from one unit to another: so many links are the fewest, and the next hop is a neighbour from which one less are
pub record Leads (s : Site) (u d hop hops : ℕ) : Type 0 where
  pub fewest : Fewest s hops u d
  pub near : s.linked u hop ≡ true
  pub on : Fewest s (hops - 1) hop d

-- a unit has to know of another: it is another one, within so many links
abbrev pub to_know : Site → ℕ → ℕ → ℕ → Bool
to_know s r u d = not (eqb d u) && within s r u d

-- rows name exactly the units that are to be known after r rounds, lead to each, and from their own time on are usable as long as the time runs
pub record Names (s : Site) (c : Course) (r u : ℕ) (rows : List Row) : Type 0 where
  pub exactly : (d : ℕ) → address d ≡ true → eqb (row_for d rows).destination d ≡ to_know s r u d
  pub leads : (d : ℕ) → address d ≡ true → (row_for d rows).destination ≡ d → Leads s u d (row_for d rows).next_hop (row_for d rows).hops
  pub lasting :
      (d time : ℕ) → address d ≡ true → (row_for d rows).destination ≡ d → InTime c u time → in_order (row_for d rows).time time ≡ true
      → usable time (row_for d rows) ≡ true
