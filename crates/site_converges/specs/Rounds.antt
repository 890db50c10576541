-- Rounds of updates through the calls: each page is written as bytes by its unit's table, and merged from them by each neighbour's.
-- Assumes nothing.
use Rattle.std.specs.Prelude.{ℕ, zero, suc, ◌^◌, ◌≤◌, ◌<◌, ◌≡◌, Bool, true, ◌&&◌, List, [], ◌∷◌, map, ◌++◌, take, replicate}
use Rattle.octets.specs.Lists.{Each}
use Rattle.octets.specs.Told.{written_in}
use Rattle.moments.specs.Moments.{in_order}
use Rattle.route_table.specs.declared.table.Table.{Table}
use Rattle.route_table.specs.Tables.{rows_of, fresh_of}
use Rattle.route_pages.specs.Pages.{page_of}
use Rattle.route_history.specs.TableCalls.{Call, merge, after_calls, Happened, recorded}
use Rattle.site_converges.specs.Sites.{Site, Sited, among}
use Rattle.site_converges.specs.Courses.{Heard, Course, InTime, Fair}
use Rattle.site_converges.specs.RowRounds.{to_hear, Hears}

-- ---- what goes on
-- room for every page
abbrev pub page_room : ℕ
page_room = 249

abbrev pub page_buffer : List ℕ
page_buffer = replicate page_room 0

-- the bytes of a page: what the call writes into a buffer with that room
abbrev pub bytes_of : Table → ℕ → ℕ → List ℕ
bytes_of t p time =
    let w = page_of t p time page_buffer in
    take (written_in w) w.held

-- the call by which a unit takes in a page that was written from another's table
abbrev pub taking : (ℕ → Table) → Heard → Call
taking tables h = merge (bytes_of (tables h.from) h.page h.written) h.quality h.time

-- each unit's table after so many rounds: a fresh one, and in each round a merge of each page that it hears, written from the tables as they stood before
-- the round
unfoldable pub table_after : Course → ℕ → ℕ → Table
table_after c zero u = (fresh_of u (c.began u)).table
table_after c (suc r) u = after_calls (table_after c r u) (map (taking (table_after c r)) (c.heard r u))

-- the record of its calls
unfoldable pub record_after : Course → ℕ → ℕ → List Happened
record_after c zero u = []
record_after c (suc r) u = record_after c r u ++ recorded (table_after c r u) (map (taking (table_after c r)) (c.heard r u))

-- ---- what is asked of it
-- no page is merged before the last accepted time, nor before the one that is merged before it
abbrev pub ordered : ℕ → List Heard → Bool
ordered last [] = true
ordered last (h ∷ hs) = in_order last h.time && ordered h.time hs

-- a page that is heard is one of those to be heard, and is not written before its table's last accepted time
pub record Sent (before : ℕ → Table) (h : Heard) : Type 0 where
  pub there : to_hear (rows_of (before h.from)) h.page ≡ true
  pub timely : in_order (before h.from).time h.written ≡ true

-- a unit hears each page of each neighbour, in any order, and nothing else; to hear one again does no harm
pub record Round (s : Site) (c : Course) (u : ℕ) (before : ℕ → Table) (hs : List Heard) : Type 0 where
  pub fair : Each (Fair s c u) hs
  pub sent : Each (Sent before) hs
  pub order : ordered (before u).time hs ≡ true
  pub all : (o p : ℕ) → s.linked u o ≡ true → to_hear (rows_of (before o)) p ≡ true → Hears hs o p

-- each unit begins at a time of 32 bits, which may be as near to the top as it likes
abbrev pub Clocks : Site → Course → Type 0
Clocks s c = (u : ℕ) → among u s.units ≡ true → c.began u < 2 ^ 32

-- r rounds of all units of a site
abbrev pub Rounds : Site → Course → ℕ → Type 0
Rounds s c r = (k : ℕ) → suc k ≤ r → (u : ℕ) → among u s.units ≡ true → Round s c u (table_after c k) (c.heard k u)

-- r rounds are played at a site as the request has it
pub record Played (s : Site) (c : Course) (r : ℕ) : Type 0 where
  pub site : Sited s
  pub clocks : Clocks s c
  pub rounds : Rounds s c r

-- a lookup of a unit after r rounds: not before its table's last accepted time, and in time
pub record Asked (c : Course) (r u time : ℕ) : Type 0 where
  pub order : in_order (table_after c r u).time time ≡ true
  pub within : InTime c u time
