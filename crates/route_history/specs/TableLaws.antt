-- What holds of every table that comes from a fresh one or a stored one, as statements.
-- Assumes nothing.
use Rattle.std.specs.Prelude.{◌≡◌, Bool, true, false, not, ◌&&◌, ◌||◌, List, [], ◌∷◌, map, ℕ, ◌+◌, ◌%◌, ◌^◌, ◌≤◌, leb}
use Rattle.octets.specs.Lists.{every}
use Rattle.moments.specs.Elapsed.{Clock, started, now_at, last_of, Timely, IsTrue}
use Rattle.moments.specs.Moments.{age_at}
use Rattle.route_table.specs.declared.row.Row.{Row}
use Rattle.route_table.specs.declared.table.Table.{Table}
use Rattle.route_table.specs.Rows.{standing}
use Rattle.route_table.specs.Tables.{rows_of, within_rule, dropped, fresh_of, lookup_of}
use Rattle.route_pages.specs.Pages.{page_there}
use Rattle.route_relays.specs.Relays.{relay_of}
use Rattle.route_history.specs.TableCalls.{Call, merge, forget, forward, lookup, relay, page, about, time_of, answer, next, after_calls, recorded, step_of, clock_of, heard_from}

-- ---- freshness
-- when updates from each unit were accepted, in elapsed ms, the last first
abbrev pub Times : Type 0
Times = ℕ → List ℕ

-- some were, and the last of them no later than now and at most 300,000 ms before, less those that are left
pub record Heard (times : List ℕ) (now left : ℕ) : Type 0 where
  pub last : ℕ
  pub earlier : List ℕ
  pub were : times ≡ last ∷ earlier
  pub past : last ≤ now
  pub recent : now + left ≤ last + 300000

-- where a lookup or a relay answers a next hop, that unit was heard, the longer ago the less time is left
abbrev pub AnswersHeard : Table → Clock → Times → Type 0
AnswersHeard t k times =
    (time : ℕ)
    → ((d : ℕ) → let found = lookup_of t d time in found.refused ≡ 0 → Heard (times found.next_hop) (now_at k time) found.left)
    × ((s : List ℕ) (least : ℕ) (out : List ℕ)
    → let relayed = (relay_of t s time least out).answer in relayed.refused ≡ 0 → relayed.ours ≡ false → Heard (times relayed.next_hop) (now_at k time) relayed.left)

-- a statement about a table, its clock and when units were heard, said of them after a list of calls, accepted or refused, by the record of these
abbrev pub After : (Table → Clock → Times → Type 0) → Table → Clock → Times → List Call → Type 0
After P t k earlier cs =
    let happened = recorded t cs in P (after_calls t cs) (clock_of k happened) (λ unit. heard_from unit k (earlier unit) happened)

-- from a fresh table on, when nobody was heard yet
abbrev pub FromFresh : (Table → Clock → Times → Type 0) → Type 0
FromFresh P =
    (own began : ℕ) (cs : List Call) → (fresh_of own began).refused ≡ 0 → After P (fresh_of own began).table (started began) (λ unit. []) cs

abbrev pub Freshness : Type 0
Freshness = FromFresh AnswersHeard

-- the first of some elapsed times is at most this age before now
abbrev pub since : ℕ → ℕ → List ℕ → Bool
since now age [] = false
since now age (last ∷ earlier) = leb now (last + age)

-- a row is borne, now and at this time, by when units were heard: it is withdrawn, or its next hop was heard, the last time no longer ago than the row is old
abbrev pub borne : ℕ → ℕ → Times → Row → Bool
borne now time times r = r.withdrawn || since now (age_at time r.time) (times r.next_hop)

-- some elapsed times are no later than now
abbrev pub before : ℕ → List ℕ → Bool
before now [] = true
before now (last ∷ earlier) = leb last now && before now earlier

-- a clock, and when units were heard, account for a table: the clock shows the table's last accepted time, and by then every row is borne and nobody was
-- heard later
pub record Accounts (t : Table) (k : Clock) (times : Times) : Type 0 where
  pub shown : k.last ≡ t.time
  pub rows : every (borne k.elapsed t.time times) (rows_of t) ≡ true
  pub past : (unit : ℕ) → before k.elapsed (times unit) ≡ true

-- along a history they account for its table; and from any table within rule on for which they do, as one that was stored with them, every next hop that
-- is answered was heard
abbrev pub FreshnessFrom : Type 0
FreshnessFrom =
    FromFresh Accounts
    × ((t : Table) (k : Clock) (earlier : Times) (cs : List Call) → within_rule t ≡ true → Accounts t k earlier → After AnswersHeard t k earlier cs)

-- where calls are made in time, as document 02 asks, elapsed time is true time: the next hop's last update is at most 300,000 true ms old
abbrev pub TrueTime : Type 0
TrueTime =
    (own began : ℕ) (cs : List Call) (nows : List ℕ)
    → let happened = recorded (fresh_of own (began % 2 ^ 32)).table cs in
    let ss = map step_of happened in Timely began ss nows → IsTrue began (clock_of (started (began % 2 ^ 32)) happened) (last_of began ss nows)

-- ---- the rule
-- a fresh table is within rule, and so is the table after every accepted call
abbrev pub KeepsRule : Type 0
KeepsRule =
    ((own time : ℕ) → (fresh_of own time).refused ≡ 0 → within_rule (fresh_of own time).table ≡ true)
    × ((t : Table) (c : Call) → (answer t c).refused ≡ 0 → within_rule (next t c) ≡ true)

-- a call that is refused leaves the table as it was
abbrev pub RefusedKeeps : Type 0
RefusedKeeps = (t : Table) (c : Call) → ((answer t c).refused ≡ 0 → ⊥) → next t c ≡ t

-- every table that comes from a fresh one is within rule, so that along a history no call is refused for its table
abbrev pub StaysWithinRule : Type 0
StaysWithinRule = (own began : ℕ) (cs : List Call) → (fresh_of own began).refused ≡ 0 → within_rule (after_calls (fresh_of own began).table cs) ≡ true

-- 14 is only for a page that is not there
abbrev pub wrong_page : Table → Call → Bool
wrong_page t (merge s quality time) = false
wrong_page t (forget unit time) = false
wrong_page t (forward network manager s delay time out) = false
wrong_page t (lookup d time) = false
wrong_page t (relay s time least out) = false
wrong_page t (page p time out) = not (page_there (standing time (rows_of t)) p)

abbrev pub OnlyForPages : Type 0
OnlyForPages =
    (own began : ℕ) (cs : List Call) (c : Call) → (fresh_of own began).refused ≡ 0
    → let t = after_calls (fresh_of own began).table cs in (answer t c).refused ≡ 14 → wrong_page t c ≡ true

-- ---- gone rows
-- a table and the same table without the rows that are gone answer every call alike, and an accepted call that changes them makes one table of both
abbrev pub GoneRowsDoNotMatter : Type 0
GoneRowsDoNotMatter =
    (t : Table) (c : Call) → within_rule t ≡ true
    → let without = dropped (time_of c) t in
    (answer without c ≡ answer t c) × ((answer t c).refused ≡ 0 → (about c).changes ≡ true → next without c ≡ next t c)
