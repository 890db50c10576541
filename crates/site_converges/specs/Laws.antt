-- How soon a new site is ready: up to 49 units with fresh tables, links of a quality of at least 40, diameter at most 16, all calls within 300,000 ms.
-- Statements on the tables that the calls on values give; `InC` says the same of the bytes that firmware holds.
-- Assumes nothing.
use Rattle.std.specs.Prelude.{ℕ, zero, suc, ◌≤◌, ◌<◌, ◌≡◌, true, false, List, [], ◌∷◌}
use Rattle.moments.specs.Elapsed.{started, now_at}
use Rattle.octets.specs.Addresses.{address}
use Rattle.route_table.specs.declared.table.Table.{Table}
use Rattle.route_table.specs.Tables.{rows_of, lookup_of}
use Rattle.route_merges.specs.Merges.{merge_of}
use Rattle.route_pages.specs.Pages.{page_of}
use Rattle.route_history.specs.TableCalls.{next, clock_of}
use Rattle.site_converges.specs.Sites.{Site, Sited, Fewest, Across, among}
use Rattle.site_converges.specs.Courses.{Heard, Course, span, since_began, Leads, to_know, Names}
use Rattle.site_converges.specs.Rounds.{page_buffer, bytes_of, taking, table_after, record_after, Played, Asked}

-- ---- the theorem
-- after r rounds each table names exactly the other units within r links, each with the fewest hops
abbrev pub Converges : Type 0
Converges = (s : Site) (c : Course) (r : ℕ) → Played s c r → (u : ℕ) → among u s.units ≡ true → Names s c r u (rows_of (table_after c r u))

-- and all is within 300,000 ms of elapsed time: what has elapsed by the clock of a unit's calls is the age of its beginning
abbrev pub ElapsesInTime : Type 0
ElapsesInTime =
    (s : Site) (c : Course) (r : ℕ) → Played s c r → (u : ℕ) → among u s.units ≡ true
    → let clock = clock_of (started (c.began u)) (record_after c r u) in
    (clock.elapsed ≤ span) × ((time : ℕ) → Asked c r u time → now_at clock time ≡ since_began c u time)

-- what a lookup is to say: for exactly the units that are to be known a next hop and hops that lead there, and 11 for every other address
pub record Told (s : Site) (r u d status hop hops : ℕ) : Type 0 where
  pub known : to_know s r u d ≡ true → (status ≡ 0) × Leads s u d hop hops
  pub unknown : to_know s r u d ≡ false → status ≡ 11

-- the same as a lookup sees it
abbrev pub LookupsConverge : Type 0
LookupsConverge =
    (s : Site) (c : Course) (r : ℕ) → Played s c r → (u d time : ℕ) → among u s.units ≡ true → address d ≡ true → Asked c r u time
    → let found = lookup_of (table_after c r u) d time in Told s r u d found.refused found.next_hop found.hops

-- ---- what installers read
-- so many rounds are as many as the diameter of the site, or more: no two units are further apart
abbrev pub Ready : Site → ℕ → Type 0
Ready s r = Across s r

-- from then on every unit can look up every other, with the distance as its hops
abbrev pub AllKnown : Type 0
AllKnown =
    (s : Site) (c : Course) (r : ℕ) → Played s c r → Ready s r
    → (u d time : ℕ) → among u s.units ≡ true → among d s.units ≡ true → (d ≡ u → ⊥) → Asked c r u time
    → let found = lookup_of (table_after c r u) d time in (found.refused ≡ 0) × Leads s u d found.next_hop found.hops

-- so many steps from a unit, each to the next hop that the unit reached names
abbrev pub steps : (ℕ → ℕ) → ℕ → ℕ → ℕ
steps hop zero u = u
steps hop (suc k) u = steps hop k (hop u)

-- to follow next hops arrives in as many steps as the fewest links, and passes no unit twice
pub record Arrives (s : Site) (hop : ℕ → ℕ) (u d : ℕ) : Type 0 where
  pub links : ℕ
  pub fewest : Fewest s links u d
  pub there : steps hop links u ≡ d
  pub once : (i j : ℕ) → i < j → j ≤ links → steps hop i u ≡ steps hop j u → ⊥

-- from then on so it is from every unit to every other, by the next hop that each unit on the way looks up, at a time of its own
abbrev pub AllArrive : Type 0
AllArrive =
    (s : Site) (c : Course) (r : ℕ) → Played s c r → Ready s r → (at : ℕ → ℕ) → ((v : ℕ) → among v s.units ≡ true → Asked c r v (at v))
    → (u d : ℕ) → among u s.units ≡ true → among d s.units ≡ true → Arrives s (λ v. (lookup_of (table_after c r v) d (at v)).next_hop) u d

-- ---- on the way
-- every page is written, every page is merged, and for none is there too little room
abbrev pub AllTaken : (ℕ → Table) → List Heard → Table → Type 0
AllTaken before [] t = Unit {0}
AllTaken before (h ∷ hs) t =
    ((page_of (before h.from) h.page h.written page_buffer).said.refusal ≡ 0)
    × ((merge_of t (bytes_of (before h.from) h.page h.written) h.quality h.time).refused ≡ 0)
    × ((merge_of t (bytes_of (before h.from) h.page h.written) h.quality h.time).skipped ≡ 0)
    × AllTaken before hs (next t (taking before h))

abbrev pub NoneRefused : Type 0
NoneRefused =
    (s : Site) (c : Course) (r : ℕ) → Played s c r
    → (k : ℕ) → suc k ≤ r → (u : ℕ) → among u s.units ≡ true → AllTaken (table_after c k) (c.heard k u) (table_after c k u)

-- at every such site there are such rounds, as many as one likes: nothing of this is said of nothing
abbrev pub RoundsAreThere : Type 0
RoundsAreThere = (s : Site) → Sited s → (r : ℕ) → (c : Course) × Played s c r
