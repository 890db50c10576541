-- The buffers of 539 bytes hold the tables that the calls on values give.
-- Assumes nothing.
use Rattle.octets.proofs.Words.{◌≡◌, refl, ap, ◌∙◌, true, List, [], ◌∷◌, ◌++◌, map, ℕ, zero, suc, arith, eq-eqb, length}
use Rattle.octets.specs.Calls.{after}
use Rattle.octets.specs.Lists.{Each}
use Rattle.route_table.specs.declared.table.Table.{Table}
use Rattle.route_table.specs.Tables.{fresh_of, lookup_of}
use Rattle.route_bytes.specs.TableBytes.{table_bytes}
use Rattle.route_bytes.specs.TableTrips.{Sized}
use Rattle.route_bytes.proofs.TableTripLaws.{reads_back, writes-tables}
use Rattle.route_pages.specs.Pages.{page_of}
use Rattle.route_history.specs.TableCalls.{Call, Happened}
use Rattle.route_history.specs.TableCalls as history
use Rattle.c_routes.specs.TableCalls.{fresh_call, lookup_left, lookup_call}
use Rattle.c_routes.specs.UpdateCalls.{page_call}
use Rattle.c_history.specs.HeldTables.{InC, after_calls_in_c, recorded_in_c, AllMachine, calls_of}
use Rattle.c_history.proofs.StoredLaws.{all-stored, fresh-same}
use Rattle.site_converges.specs.Sites.{Site, Sited, among}
use Rattle.site_converges.specs.Courses.{Heard, Course, Fair}
use Rattle.site_converges.specs.RowRounds.{rows_after, until_after}
use Rattle.site_converges.specs.Rounds.{page_buffer, bytes_of, taking, table_after, record_after, Sent, Clocks, Rounds, Played}
use Rattle.site_converges.specs.InC.{sent_by, taking_in_c, buffer_after, statuses_after, HoldsTables, ConvergesInC, AllKnownInC, AllArriveInC}
use Rattle.site_converges.proofs.StepLaws.{Right}
use Rattle.site_converges.proofs.RoundLaws.{rounds_right}
use Rattle.site_converges.proofs.TableLaws.{Holds, unit-address, written, machine, fresh-taken, tables_hold}
use Rattle.site_converges.proofs.LookupLaws.{lookups_converge, all-to_know, all_arrive_by}

-- ---- one call over the bytes of a table
module _ (t : Table) (z : Sized t) where
  sent-same : (p time : ℕ) → (page_of t p time page_buffer).said.refusal ≡ 0 → sent_by (table_bytes t) p time ≡ bytes_of t p time
  unfolding page_call
  sent-same p time e = rw (reads_back t z, writes-tables t z, e)

  looked_up : (d time hop hops left : ℕ)
      → let found = lookup_of t d time in
      lookup_call (table_bytes t) d time hop hops left
      ≡ lookup_left found.refused (after found.refused hop found.next_hop) (after found.refused hops found.hops) (after found.refused left found.left)
  unfolding lookup_call
  looked_up d time hop hops left = rw (reads_back t z, writes-tables t z)

-- ---- a round
-- the call that takes a page in, as one from C
abbrev in_c : (ℕ → Table) → Heard → InC
in_c before h = record { call = taking before h; filled = λ number. 0 }

calls_are : (before : ℕ → Table) (hs : List Heard) → calls_of (map (in_c before) hs) ≡ map (taking before) hs
calls_are before [] = refl
calls_are before (h ∷ hs) = ap (λ (l : List Call). taking before h ∷ l) (calls_are before hs)

module _ (s : Site) (c : Course) (z : Sited s) (w : Clocks s c) (r : ℕ) (a : Rounds s c r) (buffers : ℕ → List ℕ)
    (held : (o : ℕ) → among o s.units ≡ true → buffers o ≡ table_bytes (table_after c r o)) (u : ℕ) (m : among u s.units ≡ true) where
  abbrev before : ℕ → Table
  before = table_after c r

  same : (o : ℕ) → among o s.units ≡ true → Holds c o (until_after c r o) (before o) (rows_after c r o)
  same o i = ((tables_hold s c z w r a).1 o i).held

  right : (o : ℕ) → among o s.units ≡ true → Right s c o (until_after c r o) r r (rows_after c r o)
  right = rounds_right s c z r (tables_hold s c z w r a).0

  -- what a neighbour's buffer sends is what its table sends
  one-call : (h : Heard) → Fair s c u h → Sent before h → taking_in_c buffers h ≡ in_c before h
  one-call h f g =
      let o = h.from in
      let unit = z.inside u o f.near in
      let sent : sent_by (buffers o) h.page h.written ≡ bytes_of (before o) h.page h.written =
      ap (λ (b : List ℕ). sent_by b h.page h.written) (held o unit)
      ∙ sent-same (before o) (same o unit).sized h.page h.written (written s c z r before (rows_after c r) (until_after c r) same right u m h f g) in
      λ i. record { call = history.merge (sent i) h.quality h.time; filled = λ number. 0 }

  all-calls : (hs : List Heard) → Each (Fair s c u) hs → Each (Sent before) hs → map (taking_in_c buffers) hs ≡ map (in_c before) hs
  all-calls [] f g = refl
  all-calls (h ∷ hs) f g =
      let here = one-call h f.0 g.0 in
      let later = all-calls hs f.1 g.1 in
      λ i. here i ∷ later i

  all_machine : (hs : List Heard) → Each (Fair s c u) hs → Each (Sent before) hs → AllMachine (map (in_c before) hs)
  all_machine [] f g = tt
  all_machine (h ∷ hs) f g = (machine s c z r before (rows_after c r) (until_after c r) same right u m h f.0 g.0, all_machine hs f.1 g.1)

  round_held : (hs : List Heard) → Each (Fair s c u) hs → Each (Sent before) hs
      → let calls = map (taking before) hs in
      (after_calls_in_c (table_bytes (before u)) (map (taking_in_c buffers) hs) ≡ table_bytes (history.after_calls (before u) calls))
      × (recorded_in_c (table_bytes (before u)) (map (taking_in_c buffers) hs) ≡ history.recorded (before u) calls)
  round_held hs f g =
      let stored = all-stored (before u) (map (in_c before) hs) (all_machine hs f g) (same u m).sized in
      rw (all-calls hs f g, ← calls_are before hs) (stored.buffer, stored.happened)

-- ---- rounds
pub holds-tables : HoldsTables
unfolding buffer_after statuses_after table_after record_after fresh_call
holds-tables s c zero p anything l u m =
    let e : (fresh_of u (c.began u)).refused ≡ 0 = fresh-taken s c p.site p.clocks u m in
    (fresh-same (anything u) u (c.began u) (rw (eq-eqb (length (anything u)) 539 (l u), e)), refl)
holds-tables s c (suc r) p anything l u m =
    let sooner : Played s c r = record { site = p.site; clocks = p.clocks; rounds = λ k h. p.rounds k (omega arith) } in
    let held = holds-tables s c r sooner anything l in
    let now = p.rounds r (omega arith) u m in
    let calls = map (taking_in_c (buffer_after anything c r)) (c.heard r u) in
    let (buffer, happened) =
    round_held s c p.site p.clocks r sooner.rounds (buffer_after anything c r) (λ o i. (held o i).0) u m (c.heard r u) now.fair now.sent in
    let here = held u m in (
      ap (λ (b : List ℕ). after_calls_in_c b calls) here.0 ∙ buffer,
      (λ i. here.1 i ++ recorded_in_c (here.0 i) calls) ∙ ap (λ (hs : List Happened). record_after c r u ++ hs) happened,
    )

pub converges_in_c : ConvergesInC
converges_in_c s c r p anything l u d time hop hops left m a q =
    let t = table_after c r u in
    let size = ((tables_hold s c p.site p.clocks r p.rounds).1 u m).held.sized in
    let call = ap (λ (b : List ℕ). lookup_call b d time hop hops left) (holds-tables s c r p anything l u m).0 ∙ looked_up t size d time hop hops left in
    let told = lookups_converge s c r p u d time m a q in
    rw call
    (record {
      known =
          λ e.
          let (ok, leads) = told.known e in
          (ok, rw ok leads);
      unknown = told.unknown;
    })

pub all_known_in_c : AllKnownInC
all_known_in_c s c r p a anything l u d time hop hops left m k e q =
    (converges_in_c s c r p anything l u d time hop hops left m (unit-address s p.site d k) q).known (all-to_know s r u d a m k e)

pub all_arrive_in_c : AllArriveInC
all_arrive_in_c s c r p a anything l at asked hop hops left u d m k =
    all_arrive_by s p.site d (λ v. (lookup_call (buffer_after anything c r v) d (at v) hop hops left).next_hop) (λ v. (lookup_call (buffer_after anything c r v) d (at v) hop hops left).hops)
    (λ v i e. (all_known_in_c s c r p a anything l v d (at v) hop hops left i k e (asked v i)).1) u m
