-- The rounds on the level of rows, with no tables and no bytes: what units learn when each hears the pages of its neighbours. A step of the proof.
-- Assumes nothing.
use Rattle.std.specs.Prelude.{ℕ, zero, suc, ◌≤◌, ◌≡◌, Bool, true, List, [], ◌∷◌, map}
use Rattle.octets.specs.Lists.{Some, Each}
use Rattle.route_table.specs.declared.row.Row.{Row}
use Rattle.route_table.specs.Rows.{standing}
use Rattle.route_merges.specs.Candidates.{candidates}
use Rattle.route_merges.specs.Learning.{Learned, learned, learn_all}
use Rattle.route_pages.specs.Pages.{entry_for, on_page, page_there}
use Rattle.site_converges.specs.Sites.{Site, Sited, among}
use Rattle.site_converges.specs.Courses.{Heard, Course, since_began, Fair, Names}

-- ---- what goes on
-- what a unit's rows learn from a page of another's: by the rows that stand, of those that the other had before the round, ..
abbrev pub taught : ℕ → (ℕ → List Row) → Heard → List Row → Learned
taught own before h rows =
    let theirs = on_page (standing h.written (before h.from)) h.page in
    learn_all h.from h.time (candidates own h.from h.quality (map (entry_for h.written) theirs)) (learned (standing h.time rows) 0)

abbrev pub learns : ℕ → (ℕ → List Row) → Heard → List Row → List Row
learns own before h rows = (taught own before h rows).rows

-- .. and by all pages that it heard
abbrev pub learns_all : ℕ → (ℕ → List Row) → List Heard → List Row → List Row
learns_all own before [] rows = rows
learns_all own before (h ∷ hs) rows = learns_all own before hs (learns own before h rows)

-- the rows of each unit after so many rounds, from none on
unfoldable pub rows_after : Course → ℕ → ℕ → List Row
rows_after c zero u = []
rows_after c (suc r) u = learns_all u (rows_after c r) (c.heard r u) (rows_after c r u)

-- the ms since it began at which a unit merged the last page of so many rounds
abbrev pub merged_until : Course → ℕ → ℕ → List Heard → ℕ
merged_until c u now [] = now
merged_until c u now (h ∷ hs) = merged_until c u (since_began c u h.time) hs

unfoldable pub until_after : Course → ℕ → ℕ → ℕ
until_after c zero u = 0
until_after c (suc r) u = merged_until c u (until_after c r u) (c.heard r u)

-- ---- what is asked of it
-- the pages of a neighbour with these rows that are to be heard in a round: all that there are
abbrev pub to_hear : List Row → ℕ → Bool
to_hear rows p = page_there rows p

-- one of the pages that are heard is this one of this unit
abbrev pub Hears : List Heard → ℕ → ℕ → Type 0
Hears hs o p = Some (λ h. (h.from ≡ o) × (h.page ≡ p)) hs

-- a page is written no sooner than its unit merged its last one before the round, and merged no sooner than now
pub record InTurn (c : Course) (u : ℕ) (until : ℕ → ℕ) (now : ℕ) (h : Heard) : Type 0 where
  pub wrote : until h.from ≤ since_began c h.from h.written
  pub merged : now ≤ since_began c u h.time

-- each page behind the one before
abbrev pub AllInTurn : Course → ℕ → (ℕ → ℕ) → ℕ → List Heard → Type 0
AllInTurn c u until now [] = Unit
AllInTurn c u until now (h ∷ hs) = InTurn c u until now h × AllInTurn c u until (since_began c u h.time) hs

-- a unit hears each page of each neighbour's rows, in any order, and nothing else; to hear one again does no harm
pub record Round (s : Site) (c : Course) (u : ℕ) (before : ℕ → List Row) (until : ℕ → ℕ) (hs : List Heard) : Type 0 where
  pub fair : Each (Fair s c u) hs
  pub turn : AllInTurn c u until (until u) hs
  pub all : (o p : ℕ) → s.linked u o ≡ true → to_hear (before o) p ≡ true → Hears hs o p

-- r rounds of all units of a site
abbrev pub Rounds : Site → Course → ℕ → Type 0
Rounds s c r = (k : ℕ) → suc k ≤ r → (u : ℕ) → among u s.units ≡ true → Round s c u (rows_after c k) (until_after c k) (c.heard k u)

-- ---- what comes of it
-- after r rounds the rows of each unit name exactly the other units within r links, each with the fewest hops
abbrev pub RowsConverge : Type 0
RowsConverge = (s : Site) (c : Course) (r : ℕ) → Sited s → Rounds s c r → (u : ℕ) → among u s.units ≡ true → Names s c r u (rows_after c r u)
