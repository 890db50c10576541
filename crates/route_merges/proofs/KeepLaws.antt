-- A merge that is accepted gives a table within rule, and it does so whether or not the rows that are gone were there.
-- Assumes nothing.
use Rattle.octets.proofs.Words.{◌≡◌, refl, sym, ap, ◌∙◌, Bool, true, false, not, ◌||◌, false≢true, List, [], ◌∷◌, ℕ, suc, ◌≤◌, ◌<◌, arith, eq-eqb, eqb-true, le-leb, eqb, length}
use Rattle.octets.specs.Lists.{every, Each}
use Rattle.octets.proofs.ListLaws.{length-tab}
use Rattle.octets.proofs.TestLaws.{of-cond, of_choice}
use Rattle.moments.proofs.MomentLaws.{in_order_self}
use Rattle.octets.specs.Addresses.{address}
use Rattle.frame_kinds.specs.Shape.{part_in}
use Rattle.frame_traffic.specs.declared.entry.Entry.{Entry}
use Rattle.frame_traffic.specs.Traffic.{entry_rule, entry_at, update, entries_of}
use Rattle.route_table.specs.declared.table.Table.{Table}
use Rattle.route_table.specs.Rows.{row_rule, standing}
use Rattle.route_table.specs.Tables.{rows_of, within_rule, with_rows, dropped}
use Rattle.route_table.proofs.DroppedLaws.{dropped-within, dropped-standing}
use Rattle.route_table.proofs.KeepLaws.{standing-rules}
use Rattle.route_table.proofs.RuleLaws.{rule_withdrawn, within-pad}
use Rattle.route_table.proofs.StandingLaws.{standing-ascending}
use Rattle.route_table.proofs.TableLaws.{within, few_stand}
use Rattle.route_merges.specs.declared.candidate.Candidate.{Candidate}
use Rattle.route_merges.specs.Candidates.{neighbour, offered, passed_over_of, offers, candidates}
use Rattle.route_merges.specs.Laws.{FewInAll}
use Rattle.route_merges.specs.Learning.{learned}
use Rattle.route_merges.specs.Merges.{update_in, merge_refusal, merged_rows, merged_count, merge_of}
use Rattle.route_merges.proofs.CandidateLaws.{good-hops, good-quality, entry-unit, entry-some, offers-each}
use Rattle.route_merges.proofs.FewLaws.{Few, learn_all-few, few_for_each}
use Rattle.route_merges.proofs.LearnLaws.{Kept, learn_all-every}
use Rattle.route_merges.proofs.MergeLaws.{Mergeable, mergeable, some-origin}

-- ---- a candidate's row is within rule
module _ (own via time : ℕ) (a : address via ≡ true) (o : not (eqb via own) ≡ true) where
  candidate_kept : (c : Candidate) → address c.destination ≡ true → not (eqb c.destination own) ≡ true → 1 ≤ c.hops → Kept (row_rule own time) via time c
  candidate_kept c d n h =
      record {
        new =
            λ b.
            rw (
              d,
              n,
              a,
              o,
              le-leb 1 c.hops h,
              le-leb c.hops 16 (good-hops c b),
              le-leb 40 c.quality (good-quality c b),
              in_order_self time,
            );
        back = rule_withdrawn own time;
      }

  offers-kept : (quality : ℕ) (es : List Entry) → every entry_rule es ≡ true → Each (Kept (row_rule own time) via time) (offers own via quality es)
  offers-kept quality =
      offers-each own via quality (Kept (row_rule own time) via time) entry_rule
      (λ e r q.
      candidate_kept (offered quality e) (entry-unit e r) (unlike (eqb e.destination own) (eqb e.destination via) (eqb e.next_hop own) q) (omega arith))
    where
      unlike : (x y z : Bool) → (x || y || z) ≡ false → not x ≡ true
      unlike true y z e = absurd (false≢true (sym e))
      unlike false y z e = refl

-- ---- the table
module _ (t : Table) (s : List ℕ) (quality time : ℕ) (z : (merge_of t s quality time).refused ≡ 0) where
  pub merged_able : Mergeable t s quality time
  unfolding merge_of
  merged_able = mergeable t s quality time z

  abbrev u : ℕ
  u = (update_in s).origin

  pub merge-rules : every (row_rule t.own time) (merged_rows t s quality time).rows ≡ true
  unfolding merged_rows
  merge-rules =
      let m = merged_able in
      let o : not (eqb u t.own) ≡ true = rw m.other in
      learn_all-every (row_rule t.own time) u time (some-origin t s quality time m) (candidates t.own u quality (entries_of (update_in s).count (part_in update s))) (
        candidate_kept t.own u time m.origin o (neighbour u quality) m.origin o (omega arith),
        offers-kept t.own u time m.origin o quality (entries_of (update_in s).count (part_in update s)) m.entries,
      )
      (learned (standing time (rows_of t)) 0)
      (standing-rules t.own t.time time (rows_of t) (within t m.rule).rules)

  pub merge-few : Few (merged_rows t s quality time).rows
  unfolding merged_rows
  merge-few =
      let m = merged_able in
      let es = entries_of (update_in s).count (part_in update s) in
      learn_all-few u time (candidates t.own u quality es)
      (some-origin t s quality time m, offers-each t.own u quality (λ c. 0 < c.destination) entry_rule (λ e r q. entry-some e r) es m.entries)
      (learned (standing time (rows_of t)) 0)
      (standing-ascending time (rows_of t) (within t m.rule).ascends, few_stand t m.rule time)

  pub merge-gives : (merge_of t s quality time).table ≡ with_rows t time (merged_rows t s quality time).rows
  unfolding merge_of
  merge-gives = rw (eq-eqb (merge_refusal t s quality time) 0 z)

  pub merge-within : within_rule (merge_of t s quality time).table ≡ true
  merge-within =
      let w = within t merged_able.rule in
      rw merge-gives (within-pad t.own time t.forwarded t.origin t.sequence (merged_rows t s quality time).rows w.unit w.pair merge-few.1 merge-few.0
      merge-rules)

-- ---- how many rows are compared
offers-few : (own origin quality : ℕ) (es : List Entry) → length (offers own origin quality es) ≤ length es
offers-few own origin quality [] = omega arith
offers-few own origin quality (e ∷ es) =
    let few = offers-few own origin quality es in
    of_choice (λ (l : List Candidate). length l ≤ suc (length es)) (passed_over_of own origin e) (omega arith) (omega arith)

count-few : (t : Table) (s : List ℕ) (quality time : ℕ) → merge_refusal t s quality time ≡ 0 → merged_count t s quality time ≤ 1200
unfolding merged_count
count-few t s quality time z =
    let m = mergeable t s quality time z in
    let u = (update_in s).origin in
    let es = entries_of (update_in s).count (part_in update s) in
    let each = few_for_each u time (candidates t.own u quality es)
    (some-origin t s quality time m, offers-each t.own u quality (λ c. 0 < c.destination) entry_rule (λ e r q. entry-some e r) es m.entries)
    (learned (standing time (rows_of t)) 0) (standing-ascending time (rows_of t) (within t m.rule).ascends) (few_stand t m.rule time) in
    omega (arith, each, offers-few t.own u quality es, length-tab (update_in s).count (entry_at (part_in update s)), m.few)

pub few_in_all : FewInAll
unfolding merge_of
few_in_all t s quality time =
    of-cond (λ (n : ℕ). n ≤ 1200) (eqb (merge_refusal t s quality time) 0) (merged_count t s quality time) 0 (λ e. count-few t s quality time (eqb-true _ _ e)) (λ e. omega arith)

-- ---- without the rows that are gone
module _ (t : Table) (s : List ℕ) (quality time : ℕ) (e : within_rule t ≡ true) where
  same-refusal : merge_refusal (dropped time t) s quality time ≡ merge_refusal t s quality time
  unfolding merge_refusal
  same-refusal = rw (dropped-within time t e, e)

  same_rows : merged_rows (dropped time t) s quality time ≡ merged_rows t s quality time
  unfolding merged_rows
  same_rows = rw (dropped-standing time t)

  same_count : merged_count (dropped time t) s quality time ≡ merged_count t s quality time
  unfolding merged_count
  same_count = rw (dropped-standing time t)

  pub dropped-merge :
      ((merge_of (dropped time t) s quality time).refused ≡ (merge_of t s quality time).refused) × ((merge_of (dropped time t) s quality time).skipped ≡ (merge_of t s quality time).skipped)
      × ((merge_of (dropped time t) s quality time).compared ≡ (merge_of t s quality time).compared)
  unfolding merge_of
  dropped-merge = (same-refusal, rw (same-refusal, same_rows), rw (same-refusal, same_count))

  pub dropped-merges : (merge_of t s quality time).refused ≡ 0 → (merge_of (dropped time t) s quality time).table ≡ (merge_of t s quality time).table
  dropped-merges z =
      merge-gives (dropped time t) s quality time (dropped-merge.0 ∙ z) ∙ (ap (λ l. with_rows t time l.rows) same_rows ∙ sym (merge-gives t s quality time z))
