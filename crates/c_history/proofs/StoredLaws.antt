-- Along calls from C the buffer holds the bytes of the table that the same calls give on values.
-- Assumes nothing.
use Rattle.octets.proofs.Words.{◌≡◌, refl, sym, ap, subst, ◌∙◌, List, [], ◌∷◌, map, ℕ, ◌%◌, ◌^◌, eq-eqb, ne_eqb, eqb, length}
use Rattle.octets.specs.Calls as calls
use Rattle.octets.specs.Calls.{stored}
use Rattle.octets.proofs.CallLaws.{left_as, stored-none}
use Rattle.moments.proofs.ElapsedLaws.{true-time}
use Rattle.route_table.specs.declared.table.Table.{Table}
use Rattle.route_table.specs.Tables.{fresh_of, forget_of}
use Rattle.route_merges.specs.Merges.{merge_of}
use Rattle.route_forwards.specs.Forwards.{forward_of, forward_call}
use Rattle.route_bytes.specs.TableBytes.{table_in, table_bytes}
use Rattle.route_bytes.specs.TableTrips.{Sized}
use Rattle.route_bytes.proofs.SizeLaws.{sized-read}
use Rattle.route_bytes.proofs.TableTripLaws.{reads_back, writes-tables, writes_back}
use Rattle.route_history.specs.TableCalls.{Call, merge, forget, forward, lookup, relay, page, next, answer, after_calls, Happened, step_of}
use Rattle.route_history.proofs.StepLaws.{merge-kept, forget-kept, forward-kept}
use Rattle.route_history.proofs.TableHistoryLaws.{stays_within_rule}
use Rattle.route_history.proofs.TableRuleLaws.{only_for_pages}
use Rattle.route_bytes.specs.StoredTables.{stored_table, changed_by}
use Rattle.c_routes.specs.TableCalls.{fresh_call, forget_call, lookup_call}
use Rattle.route_merges.specs.StoredMerges.{merge_call}
use Rattle.c_routes.specs.UpdateCalls.{page_call}
use Rattle.c_routes.specs.RelayCalls.{relay_call}
use Rattle.c_history.specs.HeldTables.{InC, returned, status, after_calls_in_c, recorded_in_c, AllMachine, calls_of}
use Rattle.c_history.specs.TableLaws.{Stored, StaysStored, StoredFrom, TrueTimeInC, RefusedLeaves, OnlyForPagesInC}
use Rattle.c_history.proofs.KeptLaws.{sized-kept, sized-next}

-- ---- one call
module _ (t : Table) (z : Sized t) where
  -- a call that is refused leaves the table, and so do its bytes
  changed : (n : ℕ) (new : Table) → ((n ≡ 0 → ⊥) → new ≡ t) → calls.after (stored_table (table_bytes t) n) (table_bytes t) (table_bytes new) ≡ table_bytes new
  changed n new kept = rw (writes-tables t z) (left_as table_bytes n t new kept)

  table_same : (c : Call) (filled : ℕ → ℕ) → (returned (table_bytes t) c filled).memory.table ≡ table_bytes (next t c)
  unfolding merge_call forget_call changed_by forward_call
  table_same (merge s quality time) filled = rw (reads_back t z) (changed (merge_of t s quality time).refused (merge_of t s quality time).table (merge-kept t s quality time))
  table_same (forget unit time) filled = rw (reads_back t z) (changed (forget_of t unit time).refused (forget_of t unit time).table (forget-kept t unit time))
  table_same (forward network manager s delay time out) filled =
      let passed = (forward_of t network manager s delay time out).answer in
      rw (reads_back t z) (changed passed.refused passed.table (forward-kept t network manager s delay time out))
  table_same (lookup d time) filled = refl
  table_same (relay s time least out) filled = refl
  table_same (page p time out) filled = refl

  -- and its status is what the call on the table says
  pub status-same : (c : Call) (filled : ℕ → ℕ) → status (table_bytes t) c filled ≡ (answer t c).refused
  unfolding merge_call forget_call changed_by forward_call lookup_call relay_call page_call
  status-same (merge s quality time) filled = rw (reads_back t z, writes-tables t z)
  status-same (forget unit time) filled = rw (reads_back t z, writes-tables t z)
  status-same (forward network manager s delay time out) filled = rw (reads_back t z, writes-tables t z)
  status-same (lookup d time) filled = rw (reads_back t z, writes-tables t z)
  status-same (relay s time least out) filled = rw (reads_back t z, writes-tables t z)
  status-same (page p time out) filled = rw (reads_back t z, writes-tables t z)

-- ---- calls one after the other
pub sized-after : (t : Table) (cs : List InC) → AllMachine cs → Sized t → Sized (after_calls t (calls_of cs))
sized-after t [] m z = z
sized-after t (c ∷ cs) m z = sized-after (next t c.call) cs m.1 (sized-next t c.call m.0 z)

pub all-stored : (t : Table) (cs : List InC) → AllMachine cs → Sized t → Stored t (table_bytes t) cs
all-stored t [] m z = record { buffer = refl; happened = refl }
all-stored t (c ∷ cs) m z =
    let left = table_same t z c.call c.filled in
    let status = status-same t z c.call c.filled in
    let later = all-stored (next t c.call) cs m.1 (sized-next t c.call m.0 z) in
    record {
      buffer = ap (λ (s : List ℕ). after_calls_in_c s cs) left ∙ later.buffer;
      happened =
          (λ i. record { call = c.call; refused = status i } ∷ recorded_in_c (left i) cs)
          ∙ ap (λ (hs : List Happened). record { call = c.call; refused = (answer t c.call).refused } ∷ hs) later.happened;
    }

-- ---- the start
pub fresh-accepted : (s : List ℕ) (own began : ℕ) → (fresh_call s own began).status ≡ 0 → (fresh_of own began).refused ≡ 0
unfolding fresh_call
fresh-accepted s own began e = (stored-none (eqb (length s) 539) (fresh_of own began).refused e).1

pub fresh-same : (s : List ℕ) (own began : ℕ) → (fresh_call s own began).status ≡ 0 → (fresh_call s own began).table ≡ table_bytes (fresh_of own began).table
unfolding fresh_call
fresh-same s own began e = rw (eq-eqb (stored 539 s (fresh_of own began).refused) 0 e)

pub stays_stored : StaysStored
stays_stored s own began cs a h m e =
    let t = (fresh_of own began).table in
    subst (λ (b : List ℕ). Stored t b cs) (sym (fresh-same s own began e)) (all-stored t cs m (sized-kept.0 own began a h))

pub stored-from : StoredFrom
stored-from s cs b e m = subst (λ (x : List ℕ). Stored (table_in s) x cs) (writes_back s b e) (all-stored (table_in s) cs m (sized-read s b))

-- ---- true time
pub true_time_in_c : TrueTimeInC
true_time_in_c s own began cs nows timely =
    true-time began (began % 2 ^ 32) (map step_of (recorded_in_c (fresh_call s own (began % 2 ^ 32)).table cs)) nows refl timely

-- ---- refusals
pub refused-leaves : RefusedLeaves
unfolding merge_call forget_call changed_by forward_call lookup_call relay_call page_call
refused-leaves s (merge frame quality time) filled z = rw (ne_eqb _ 0 z)
refused-leaves s (forget unit time) filled z = rw (ne_eqb _ 0 z)
refused-leaves s (forward network manager frame delay time out) filled z = rw (ne_eqb _ 0 z)
refused-leaves s (lookup d time) filled z = rw (ne_eqb _ 0 z)
refused-leaves s (relay frame time least out) filled z = rw (ne_eqb _ 0 z)
refused-leaves s (page p time out) filled z = rw (ne_eqb _ 0 z)

pub only_for_pages_in_c : OnlyForPagesInC
only_for_pages_in_c s own began cs a b m e =
    let t = after_calls (fresh_of own began).table (calls_of cs) in
    let z = sized-after (fresh_of own began).table cs m (sized-kept.0 own began a b) in
    let right = fresh-accepted s own began e in
    rw ((stays_stored s own began cs a b m e).buffer, reads_back t z) (
      writes-tables t z,
      stays_within_rule own began (calls_of cs) right,
      λ c filled q. only_for_pages own began (calls_of cs) c right (sym (status-same t z c filled) ∙ q),
    )
