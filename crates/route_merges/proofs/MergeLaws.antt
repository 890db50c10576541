-- Merging an update, from what its parts say.
-- Assumes nothing.
use Rattle.octets.proofs.Words.{◌≡◌, sym, ap, ◌∙◌, true, false, List, ℕ, ◌≤◌, ◌<◌, eqb-true, ne_eqb, not-false, ltb-false, eqb, length}
use Rattle.std.specs.Prelude.{Ok, Err}
use Rattle.octets.specs.Answers.{first}
use Rattle.octets.specs.Refusals.{number_of}
use Rattle.octets.specs.declared.refusals.Refusal.{Refusal}
use Rattle.octets.specs.Lists.{every}
use Rattle.octets.proofs.AnswerLaws.{refusing_numbered, none-holds}
use Rattle.moments.specs.Moments.{in_order}
use Rattle.frame_kinds.specs.Reading.{refusal_as}
use Rattle.octets.proofs.RefusalLaws.{refusal_some}
use Rattle.octets.specs.Addresses.{address}
use Rattle.frame_kinds.specs.Shape.{values_in, part_in}
use Rattle.frame_traffic.proofs.UpdateLaws.{updating}
use Rattle.octets.proofs.AddressLaws.{address-least}
use Rattle.frame_traffic.specs.declared.update.UpdateHeader.{UpdateHeader}
use Rattle.frame_traffic.specs.Traffic.{update, update_values, update_from, entry_rule, entries_of}
use Rattle.route_table.specs.declared.row.Row.{Row}
use Rattle.route_table.specs.declared.table.Table.{Table}
use Rattle.route_table.specs.Rows.{in_use, pad, standing, standing_places}
use Rattle.route_table.specs.Tables.{rows_of, within_rule}
use Rattle.route_table.proofs.StandingLaws.{used, in_use_used, in_use-pad, standing-every, standing-ascending, standing-places}
use Rattle.route_table.proofs.TableLaws.{held, within}
use Rattle.route_merges.specs.Learning.{Learned, learned, learn_all}
use Rattle.route_merges.specs.Merges.{update_in, merge_refusal, merged_rows, merged_count, merge_of, unmerged_reasons, merge_reasons}
use Rattle.route_merges.specs.declared.learning.Tally.{Tally}
use Rattle.route_merges.specs.Candidates.{candidates}
use Rattle.route_merges.specs.Comparing.{compared_all}
use Rattle.route_merges.specs.Outcomes.{merged}
use Rattle.route_merges.specs.Searching.{Placed}

-- the fields that were read are those of the frame
pub header_in : (h : UpdateHeader) (s : List ℕ) → update_values h ≡ values_in update s → h ≡ update_in s
header_in h s e = ap update_from e

-- what holds where an update is merged
pub record Mergeable (t : Table) (s : List ℕ) (quality time : ℕ) : Type 0 where
  pub rule : within_rule t ≡ true
  pub origin : address (update_in s).origin ≡ true
  pub entries : every entry_rule (entries_of (update_in s).count (part_in update s)) ≡ true
  pub few : (update_in s).count ≤ 24
  pub other : eqb (update_in s).origin t.own ≡ false
  pub timely : in_order t.time time ≡ true
  pub heard : 40 ≤ quality

pub mergeable : (t : Table) (s : List ℕ) (quality time : ℕ) → merge_refusal t s quality time ≡ 0 → Mergeable t s quality time
unfolding merge_refusal
mergeable t s quality time e =
    let n =
    none-holds (merge_reasons t s quality time)
    (_, (refusing_numbered (refusal_as update s), _)) e in
    let others = n.1.1 in
    let u = updating s (eqb-true (refusal_as update s) 0 (not-false (eqb (refusal_as update s) 0) n.1.0)) in
    record {
      rule = not-false (within_rule t) n.0;
      origin = u.origin;
      entries = u.entries;
      few = u.few;
      other = others.0;
      timely = not-false (in_order t.time time) others.1.0;
      heard = ltb-false quality 40 others.1.1.0;
    }

pub some-origin : (t : Table) (s : List ℕ) (quality time : ℕ) → Mergeable t s quality time → 0 < (update_in s).origin
some-origin t s quality time m = address-least (update_in s).origin m.origin

-- the places of a table within rule, without the rows that are gone, hold the rows that stand
pub stand_places : (t : Table) (time : ℕ) → length t.rows ≡ 48 → within_rule t ≡ true → (places : List Row) → places ≡ standing_places time t.rows → places ≡ pad (standing time (rows_of t))
stand_places t time long rule places e = e ∙ standing-places time t.rows (held t long rule)

module _ (t : Table) (s : List ℕ) (quality time : ℕ) (m : Mergeable t s quality time) where
  abbrev u : UpdateHeader
  u = update_in s

  standing_used : every used (standing time (rows_of t)) ≡ true
  standing_used = standing-every used time (rows_of t) (in_use_used t.rows)

  -- the places that are handed on hold the rows that stand
  module _ (places : List Row) (stand : places ≡ pad (standing time (rows_of t))) where
    stand_rows : in_use places ≡ standing time (rows_of t)
    stand_rows = ap in_use stand ∙ in_use-pad (standing time (rows_of t)) standing_used

    stand_placed : Placed places
    stand_placed =
        record {
          held = stand ∙ ap pad (sym stand_rows);
          ascends = rw stand_rows (standing-ascending time (rows_of t) (within t m.rule).ascends);
        }

    -- the unit, the header and the entries that were read
    module _ (own : ℕ) (h : UpdateHeader) (part : List ℕ) (eo : own ≡ t.own) (eh : h ≡ update_in s) (ep : part ≡ part_in update s) where
      pub learnable : Placed places × (h.count ≤ 24) × (0 < h.origin) × (every entry_rule (entries_of h.count part) ≡ true)
      learnable = rw (eh, ep) (stand_placed, m.few, some-origin t s quality time m, m.entries)

      -- what is learned from them, and how many rows are compared
      pub merged_by : (all : Learned) → all ≡ learn_all h.origin time (candidates own h.origin quality (entries_of h.count part)) (learned (in_use places) 0) → all ≡ merged_rows t s quality time
      unfolding merged_rows
      merged_by all e = e ∙ rw (eo, eh, ep, stand_rows)

      pub counted-by : (count : ℕ) → count ≡ compared_all h.origin time (candidates own h.origin quality (entries_of h.count part)) (learned (in_use places) 0) → count ≡ merged_count t s quality time
      unfolding merged_count
      counted-by count e =
          e ∙ (λ i. compared_all (eh i).origin time (candidates (eo i) (eh i).origin quality (entries_of (eh i).count (ep i))) (learned (stand_rows i) 0))

-- ---- the answer
module _ (t : Table) (s : List ℕ) (quality time : ℕ) where
  -- 14 where the table is not within rule, else why such a table does not merge it
  pub broken : within_rule t ≡ false → 14 ≡ merge_refusal t s quality time
  unfolding merge_refusal
  broken e = rw e

  pub in_rule : within_rule t ≡ true → (n : ℕ) → n ≡ first (unmerged_reasons t.own t.time s quality time) → n ≡ merge_refusal t s quality time
  unfolding merge_refusal
  in_rule e n f = f ∙ rw e

  pub unmerged : (r : Refusal) → number_of r ≡ merge_refusal t s quality time → merged t (Err r) ≡ merge_of t s quality time
  unfolding merge_of
  unmerged r e = rw (← e, ne_eqb (number_of r) 0 (refusal_some r))

  pub merges : (tally : Tally) (rows : List Row) (all : Learned) (count : ℕ) → merge_refusal t s quality time ≡ 0 → all ≡ merged_rows t s quality time
      → count ≡ merged_count t s quality time → rows ≡ pad (in_use rows) → learned (in_use rows) tally.skipped ≡ all → tally.compared ≡ count
      → merged t (Ok (record { table = record { own = t.own; time = time; forwarded = t.forwarded; origin = t.origin; sequence = t.sequence; rows = rows }; tally = tally }))
      ≡ merge_of t s quality time
  unfolding merge_of
  merges tally rows all count z same counts held l n =
      let kept : rows ≡ pad all.rows = held ∙ ap (λ (x : Learned). pad x.rows) l in
      rw (z, ← same, kept, ap (λ (x : Learned). x.skipped) l, n, counts)
