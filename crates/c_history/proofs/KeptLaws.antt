-- A call on a table whose numbers fit their bytes leaves such a table.
-- Assumes nothing.
use Rattle.octets.proofs.Words.{◌≡◌, refl, true, false, not, List, [], ◌∷◌, map, ℕ, ◌≤◌, ◌<◌, arith, eq-eqb, eqb, length, length-map}
use Rattle.octets.specs.Answers.{reason, first}
use Rattle.octets.specs.Layouts.{Bytes}
use Rattle.octets.specs.Lists.{every}
use Rattle.octets.specs.Addresses.{address}
use Rattle.octets.proofs.ListLaws.{every_map}
use Rattle.octets.proofs.TestLaws.{of_choice}
use Rattle.frame_kinds.specs.Shape.{part_in}
use Rattle.frame_traffic.specs.Traffic.{update, entries_of}
use Rattle.frame_beacons.specs.EitherBeacons.{either_in}
use Rattle.frame_beacons.proofs.EitherLaws.{either-fits}
use Rattle.route_table.specs.declared.row.Row.{Row}
use Rattle.route_table.specs.declared.table.Table.{Table}
use Rattle.route_table.specs.Rows.{forgotten, standing}
use Rattle.route_table.specs.Tables.{rows_of, empty_table, fresh_of, forget_of}
use Rattle.route_table.proofs.KeepLaws.{standing-rules, forgotten-rules}
use Rattle.route_table.proofs.StandingLaws.{standing-every}
use Rattle.route_table.proofs.TableLaws.{within, few_stand, forgettable}
use Rattle.route_merges.specs.Candidates.{candidates}
use Rattle.route_merges.specs.Learning.{learned}
use Rattle.route_merges.specs.Merges.{update_in, merged_rows, merge_of}
use Rattle.route_merges.proofs.KeepLaws.{merged_able, merge-rules, merge-few, merge-gives}
use Rattle.route_merges.proofs.LearnLaws.{learn_all-every}
use Rattle.route_merges.proofs.MergeLaws.{some-origin}
use Rattle.route_forwards.specs.Forwards.{forward_refusal, forward_of}
use Rattle.route_forwards.proofs.ForwardLaws.{onward}
use Rattle.route_bytes.specs.TableTrips.{Sized}
use Rattle.route_bytes.proofs.SizeLaws.{none-fit, flag-fits, modest, rows_modest, sized-pad}
use Rattle.route_history.specs.TableCalls.{Call, merge, forget, forward, lookup, relay, page, next}
use Rattle.route_history.proofs.StepLaws.{merge-kept, forget-kept, forward-kept, by_call}
use Rattle.c_history.specs.HeldTables.{Machine}
use Rattle.c_history.specs.TableLaws.{SizedKept}
use Rattle.c_history.proofs.LearnSizes.{candidates_modest}

-- ---- fresh
empty_sized : (own time : ℕ) → own < 0x10000 → time < 0x100000000 → Sized (empty_table own time)
empty_sized own time a t = record { places = refl; head = (a, (t, (flag-fits false, (omega arith, (omega arith, tt))))); fit = none-fit 48 }

fresh-sized : (own began : ℕ) → own < 0x10000 → began < 0x100000000 → Sized (fresh_of own began).table
unfolding fresh_of
fresh-sized own began a t =
    of_choice Sized (eqb (first (reason (not (address own)) 4 ∷ [])) 0) (empty_sized own began a t) (empty_sized 0 0 (omega arith) (omega arith))

modest_forgotten : (unit time : ℕ) → time < 0x100000000 → (r : Row) → modest r ≡ true → modest (forgotten unit time r) ≡ true
modest_forgotten unit time h r m = grind (arith, h, m)

-- ---- the calls that change a table, where they are accepted
module _ (t : Table) (z : Sized t) where
  still_modest : (time : ℕ) → every modest (standing time (rows_of t)) ≡ true
  still_modest time = standing-every modest time (rows_of t) (rows_modest t.rows z.fit)

  merged-sized : (s : List ℕ) (quality time : ℕ) → Bytes s → quality ≤ 255 → time < 0x100000000 → (merge_of t s quality time).refused ≡ 0
      → Sized (merge_of t s quality time).table
  unfolding merged_rows
  merged-sized s quality time b q h e =
      let m = merged_able t s quality time e in
      let o = (update_in s).origin in
      let es = entries_of (update_in s).count (part_in update s) in
      rw (merge-gives t s quality time e)
      (sized-pad t.own time t.forwarded t.origin t.sequence (merged_rows t s quality time).rows z.head.0 h z.head.1.1.1.0 z.head.1.1.1.1.0
      (merge-few t s quality time e).1
      (merge-rules t s quality time e)
      (learn_all-every modest o time (some-origin t s quality time m) (candidates t.own o quality es)
      (candidates_modest t.own o quality time q h s b (update_in s).count) (learned (standing time (rows_of t)) 0) (still_modest time)))

  forgotten-sized : (unit time : ℕ) → time < 0x100000000 → (forget_of t unit time).refused ≡ 0 → Sized (forget_of t unit time).table
  unfolding forget_of
  forgotten-sized unit time h e =
      let f = forgettable t unit time e in
      let rs = standing time (rows_of t) in
      rw (eq-eqb (forget_of t unit time).refused 0 e)
      (sized-pad t.own time t.forwarded t.origin t.sequence (map (forgotten unit time) rs) z.head.0 h z.head.1.1.1.0 z.head.1.1.1.1.0
      (omega (arith, few_stand t f.right time, length-map rs (forgotten unit time)))
      (forgotten-rules t.own t.time time unit (rows_of t) (within t f.right).rules)
      (every_map modest modest (forgotten unit time) (modest_forgotten unit time h) rs (still_modest time)))

  forwarded_sized : (network manager : ℕ) (s : List ℕ) (delay time : ℕ) (out : List ℕ) → manager < 0x10000 → Bytes s → time < 0x100000000 → (forward_of t network manager s delay time out).answer.refused ≡ 0
      → Sized (forward_of t network manager s delay time out).answer.table
  unfolding forward_of
  forwarded_sized network manager s delay time out m b h e =
      let o = onward t network manager s delay time (length out) e in
      let (origin, sequence) = either-fits s b in
      rw (eq-eqb (forward_refusal t network manager s delay time (length out)) 0 e)
      (sized-pad t.own time true _ _ (standing time (rows_of t)) z.head.0 h (of_choice (λ n. n < 0x10000) (either_in s).short m origin) sequence
      (few_stand t o.right time)
      (standing-rules t.own t.time time (rows_of t) (within t o.right).rules)
      (still_modest time))

-- ---- any call, accepted or refused
pub sized-next : (t : Table) (c : Call) → Machine c → Sized t → Sized (next t c)
sized-next t (merge s quality time) (b, q, h) z =
    by_call Sized (merge_of t s quality time).refused t _ (merge-kept t s quality time) z (merged-sized t z s quality time b (omega (arith, q)) h)
sized-next t (forget unit time) (u, h) z = by_call Sized (forget_of t unit time).refused t _ (forget-kept t unit time) z (forgotten-sized t z unit time h)
sized-next t (forward network manager s delay time out) (n, m, b, d, h, o) z =
    by_call Sized (forward_of t network manager s delay time out).answer.refused t _ (forward-kept t network manager s delay time out) z (forwarded_sized t z network manager s delay time out m b h)
sized-next t (lookup d time) m z = z
sized-next t (relay s time least out) m z = z
sized-next t (page p time out) m z = z

pub sized-kept : SizedKept
sized-kept = (fresh-sized, sized-next)
