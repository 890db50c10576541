-- What firmware can count on of the 539 bytes that it holds as a table, over any calls from C, as statements.
-- Assumes nothing.
use Rattle.std.specs.Prelude.{◌≡◌, true, List, [], map, ℕ, suc, ◌-◌, ◌%◌, ◌^◌, ◌<◌, ◌≤◌}
use Rattle.octets.specs.Layouts.{Bytes}
use Rattle.moments.specs.Moments.{age_at}
use Rattle.moments.specs.Elapsed.{Clock, started, now_at, last_of, Timely, IsTrue}
use Rattle.octets.specs.Addresses.{address}
use Rattle.route_table.specs.declared.table.Table.{Table}
use Rattle.route_table.specs.Rows.{standing, row_for}
use Rattle.route_table.specs.Tables.{rows_of, within_rule, fresh_of}
use Rattle.route_merges.specs.Laws.{Unnamed}
use Rattle.route_bytes.specs.TableBytes.{table_in, table_bytes, is_table}
use Rattle.route_bytes.specs.TableTrips.{Sized}
use Rattle.route_history.specs.TableCalls.{Call, merge, next, after_calls, recorded, step_of, clock_of, heard_from}
use Rattle.route_history.specs.TableLaws.{Times, Heard, Accounts, wrong_page}
use Rattle.c_routes.specs.TableCalls.{fresh_call, lookup_left, lookup_call}
use Rattle.route_merges.specs.StoredMerges.{merge_call}
use Rattle.c_routes.specs.RelayCalls.{relay_call}
use Rattle.c_history.specs.HeldTables.{InC, Machine, handed_in, returned, status, after_calls_in_c, recorded_in_c, AllMachine, calls_of}

-- ---- what is stored
-- a fresh table has 48 places and numbers that fit their bytes, and a call that is given such a table leaves such a table, accepted or refused
abbrev pub SizedKept : Type 0
SizedKept =
    ((own began : ℕ) → own < 0x10000 → began < 0x100000000 → Sized (fresh_of own began).table)
    × ((t : Table) (c : Call) → Machine c → Sized t → Sized (next t c))

-- over these calls from C the buffer s holds exactly the bytes of the table, and the record is that, which the same calls on values give from the table t on
pub record Stored (t : Table) (s : List ℕ) (cs : List InC) : Type 0 where
  pub buffer : after_calls_in_c s cs ≡ table_bytes (after_calls t (calls_of cs))
  pub happened : recorded_in_c s cs ≡ recorded t (calls_of cs)

-- so it is from an accepted `braidlark_table_fresh` on, over any list of calls, accepted or refused
abbrev pub StaysStored : Type 0
StaysStored =
    (s : List ℕ) (own began : ℕ) (cs : List InC) → own < 0x10000 → began < 0x100000000 → AllMachine cs → (fresh_call s own began).status ≡ 0
    → Stored (fresh_of own began).table (fresh_call s own began).table cs

-- and from any 539 bytes on that are a table, as from flash
abbrev pub StoredFrom : Type 0
StoredFrom = (s : List ℕ) (cs : List InC) → Bytes s → is_table s ≡ true → AllMachine cs → Stored (table_in s) s cs

-- ---- refusals
-- a call that is refused leaves all that it might have written as it was, whatever the table's buffer holds: that buffer, the buffer for a frame, and every
-- number
abbrev pub RefusedLeaves : Type 0
RefusedLeaves = (s : List ℕ) (c : Call) (filled : ℕ → ℕ) → (status s c filled ≡ 0 → ⊥) → (returned s c filled).memory ≡ handed_in s c filled

-- along calls from an accepted `braidlark_table_fresh` on the buffer is a table within rule, and 14 is only for a page that is not there
abbrev pub OnlyForPagesInC : Type 0
OnlyForPagesInC =
    (s : List ℕ) (own began : ℕ) (cs : List InC) → own < 0x10000 → began < 0x100000000 → AllMachine cs → (fresh_call s own began).status ≡ 0
    → let b = after_calls_in_c (fresh_call s own began).table cs in
    (is_table b ≡ true) × (within_rule (table_in b) ≡ true) × ((c : Call) (filled : ℕ → ℕ) → status b c filled ≡ 14 → wrong_page (table_in b) c ≡ true)

-- ---- freshness
-- where `braidlark_lookup` answers 0, and where `braidlark_relay` answers 0 and a next hop that is not 0, that next hop was heard: updates from it have
-- been accepted, the last of them at most 300,000 ms before, less those that the call says are left, in elapsed ms
abbrev pub AnswersHeardInC : List ℕ → Clock → Times → Type 0
AnswersHeardInC s k times =
    ((d time next_hop hops left : ℕ)
    → let call = lookup_call s d time next_hop hops left in call.status ≡ 0 → Heard (times call.next_hop) (now_at k time) call.left)
    × ((frame : List ℕ) (time least : ℕ) (out : List ℕ) (next_hop place extent left : ℕ)
    → let call = relay_call s frame time least out next_hop place extent left in
    call.status ≡ 0 → (call.next_hop ≡ 0 → ⊥) → Heard (times call.next_hop) (now_at k time) call.left)

-- what `braidlark_lookup` says is left of a route can be relied on while no call changes the buffer: asked again within so many ms it answers the same next
-- hop and hops, and that so many are left as then remain; one ms later it is 11
pub record LastsAsTold (s : List ℕ) (d time : ℕ) : Type 0 where
  pub lasts : (again next_hop hops left nextHop' hops' left' : ℕ)
      → let first = lookup_call s d time next_hop hops left in
      first.status ≡ 0 → age_at again time ≤ first.left
      → lookup_call s d again nextHop' hops' left' ≡ lookup_left 0 first.next_hop first.hops (first.left - age_at again time)
  pub ends : (again next_hop hops left nextHop' hops' left' : ℕ)
      → let first = lookup_call s d time next_hop hops left in
      first.status ≡ 0 → age_at again time ≡ suc first.left → lookup_call s d again nextHop' hops' left' ≡ lookup_left 11 nextHop' hops' left'

abbrev pub LastsInC : Type 0
LastsInC = (s : List ℕ) (d time : ℕ) → LastsAsTold s d time

-- a statement about a buffer, its clock and when units were heard, said of them after calls, by the record of these
abbrev pub AfterInC : (List ℕ → Clock → Times → Type 0) → List ℕ → Clock → Times → List InC → Type 0
AfterInC P s k earlier cs =
    let happened = recorded_in_c s cs in P (after_calls_in_c s cs) (clock_of k happened) (λ unit. heard_from unit k (earlier unit) happened)

-- so it is along calls from an accepted `braidlark_table_fresh` on, when nobody was heard yet
abbrev pub FreshInC : Type 0
FreshInC =
    (s : List ℕ) (own began : ℕ) (cs : List InC) → own < 0x10000 → began < 0x100000000 → AllMachine cs → (fresh_call s own began).status ≡ 0
    → AfterInC AnswersHeardInC (fresh_call s own began).table (started began) (λ unit. []) cs

-- and from any 539 bytes on that are a table within rule, if the clock and the times that go with them account for it
abbrev pub FreshFromInC : Type 0
FreshFromInC =
    (s : List ℕ) (k : Clock) (earlier : Times) (cs : List InC) → Bytes s → is_table s ≡ true → AllMachine cs → within_rule (table_in s) ≡ true
    → Accounts (table_in s) k earlier
    → AfterInC AnswersHeardInC s k earlier cs

-- where calls are made in time, as document 02 asks, that elapsed time is true time
abbrev pub TrueTimeInC : Type 0
TrueTimeInC =
    (s : List ℕ) (own began : ℕ) (cs : List InC) (nows : List ℕ)
    → let happened = recorded_in_c (fresh_call s own (began % 2 ^ 32)).table cs in
    let ss = map step_of happened in Timely began ss nows → IsTrue began (clock_of (started (began % 2 ^ 32)) happened) (last_of began ss nows)

-- ---- merging
-- after `braidlark_merge` with status 0, on any bytes, a destination of which the update says nothing has in the table that the buffer then holds the row
-- that it had, if that is not gone by then, and none where it had none
abbrev pub OthersUnchangedInC : Type 0
OthersUnchangedInC =
    (s frame : List ℕ) (quality time skipped compared d : ℕ) → Bytes s → Machine (merge frame quality time)
    → let call = merge_call s frame quality time skipped compared in call.status ≡ 0 → address d ≡ true → Unnamed frame d
    → row_for d (rows_of (table_in call.table)) ≡ row_for d (standing time (rows_of (table_in s)))

-- `braidlark_merge` never says that it compared more than 1,200 rows
abbrev pub FewComparedInC : Type 0
FewComparedInC =
    (s frame : List ℕ) (quality time skipped compared : ℕ)
    → let call = merge_call s frame quality time skipped compared in call.status ≡ 0 → call.compared ≤ 1200
