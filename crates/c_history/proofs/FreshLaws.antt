-- A next hop that a call from C answers was heard.
-- Assumes nothing.
use Rattle.octets.proofs.Words.{◌≡◌, refl, sym, subst, ◌∙◌, Bool, true, false, List, [], ◌∷◌, ℕ, get_or}
use Rattle.moments.specs.Elapsed.{Clock, started, now_at}
use Rattle.route_table.specs.declared.table.Table.{Table}
use Rattle.route_table.specs.Tables.{fresh_of}
use Rattle.route_relays.specs.Relays.{relay_of}
use Rattle.route_relays.proofs.RelayLaws.{relay_no_hop}
use Rattle.route_bytes.specs.TableBytes.{table_in, table_bytes}
use Rattle.route_bytes.specs.TableTrips.{Sized}
use Rattle.route_bytes.proofs.SizeLaws.{sized-read}
use Rattle.route_bytes.proofs.TableTripLaws.{reads_back, writes-tables}
use Rattle.route_history.specs.TableCalls.{lookup, relay, after_calls, Happened, recorded, clock_of, heard_from}
use Rattle.route_history.specs.TableLaws.{Times, Heard, AnswersHeard, After}
use Rattle.route_history.proofs.TableHistoryLaws.{freshness, freshness_from}
use Rattle.c_routes.specs.TableCalls.{lookup_call}
use Rattle.c_routes.specs.RelayCalls.{relay_call}
use Rattle.c_history.specs.HeldTables.{InC, after_calls_in_c, AllMachine, calls_of}
use Rattle.c_history.specs.TableLaws.{Stored, AnswersHeardInC, AfterInC, FreshInC, FreshFromInC}
use Rattle.c_history.proofs.KeptLaws.{sized-kept}
use Rattle.c_history.proofs.StoredLaws.{status-same, sized-after, fresh-accepted, stays_stored, stored-from}

-- what the bytes of a table answer is what it answers as a value
module _ (t : Table) (z : Sized t) (k : Clock) (times : Times) (answers : AnswersHeard t k times) where
  by-lookup : (d time next_hop hops left : ℕ)
      → let call = lookup_call (table_bytes t) d time next_hop hops left in call.status ≡ 0 → Heard (times call.next_hop) (now_at k time) call.left
  unfolding lookup_call
  by-lookup d time next_hop hops left q =
      let n = sym (status-same t z (lookup d time) (λ i. get_or (next_hop ∷ hops ∷ left ∷ []) i 0)) ∙ q in
      rw (reads_back t z, writes-tables t z, n) ((answers time).0 d n)

  by-relay : (frame : List ℕ) (time least : ℕ) (out : List ℕ) (next_hop place extent left : ℕ)
      → let call = relay_call (table_bytes t) frame time least out next_hop place extent left in
      call.status ≡ 0 → (call.next_hop ≡ 0 → ⊥) → Heard (times call.next_hop) (now_at k time) call.left
  unfolding relay_call
  by-relay frame time least out next_hop place extent left q some =
      let n = sym (status-same t z (relay frame time least out) (λ i. get_or (next_hop ∷ place ∷ extent ∷ left ∷ []) i 0)) ∙ q in
      let call = relay_call (table_bytes t) frame time least out next_hop place extent left in
      let hop : call.next_hop ≡ (relay_of t frame time least out).answer.next_hop = rw (reads_back t z, writes-tables t z, n) in
      let lasts : call.left ≡ (relay_of t frame time least out).answer.left = rw (reads_back t z, writes-tables t z, n) in
      rw (hop, lasts) (go (relay_of t frame time least out).answer.ours refl n (λ y. some (hop ∙ y)))
    where
      go : (ours : Bool) → (relay_of t frame time least out).answer.ours ≡ ours → (relay_of t frame time least out).answer.refused ≡ 0
          → ((relay_of t frame time least out).answer.next_hop ≡ 0 → ⊥)
          → Heard (times (relay_of t frame time least out).answer.next_hop) (now_at k time) (relay_of t frame time least out).answer.left
      go true o n h = absurd (h (relay_no_hop t frame time least out o))
      go false o n h = (answers time).1 frame least out n o

  answers_in_c : AnswersHeardInC (table_bytes t) k times
  answers_in_c = (by-lookup, by-relay)

-- so it is after calls from C, which leave what the same calls leave on values
after-in_c : (t : Table) (s : List ℕ) (k : Clock) (earlier : Times) (cs : List InC) → AllMachine cs → Sized t → Stored t s cs
    → After AnswersHeard t k earlier (calls_of cs) → AfterInC AnswersHeardInC s k earlier cs
after-in_c t s k earlier cs m z stored a =
    subst (λ (hs : List Happened). AnswersHeardInC (after_calls_in_c s cs) (clock_of k hs) (λ unit. heard_from unit k (earlier unit) hs)) (sym stored.happened)
    (let hs = recorded t (calls_of cs) in
    subst (λ (b : List ℕ). AnswersHeardInC b (clock_of k hs) (λ unit. heard_from unit k (earlier unit) hs)) (sym stored.buffer)
    (answers_in_c (after_calls t (calls_of cs)) (sized-after t cs m z) (clock_of k hs) (λ unit. heard_from unit k (earlier unit) hs) a))

pub fresh-in_c : FreshInC
fresh-in_c s own began cs a b m e =
    after-in_c (fresh_of own began).table _ (started began) (λ unit. []) cs m (sized-kept.0 own began a b) (stays_stored s own began cs a b m e)
    (freshness own began (calls_of cs) (fresh-accepted s own began e))

pub fresh_from_in_c : FreshFromInC
fresh_from_in_c s k earlier cs b e m w account =
    after-in_c (table_in s) s k earlier cs m (sized-read s b) (stored-from s cs b e m) (freshness_from.1 (table_in s) k earlier (calls_of cs) w account)
