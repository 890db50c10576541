-- Merging an update that was received.
-- Assumes nothing.
use Rattle.std.specs.Prelude.{ℕ, not, List, [], ◌∷◌, eqb, ltb}
use Rattle.octets.specs.Answers.{Reason, reason, refusing, first}
use Rattle.octets.specs.Calls.{after}
use Rattle.moments.specs.Moments.{in_order}
use Rattle.frame_kinds.specs.Reading.{refusal_as}
use Rattle.frame_kinds.specs.Shape.{values_in, part_in}
use Rattle.frame_traffic.specs.declared.update.UpdateHeader.{UpdateHeader}
use Rattle.frame_traffic.specs.Traffic.{update, update_from, entries_of}
use Rattle.route_table.specs.declared.table.Table.{Table}
use Rattle.route_table.specs.Rows.{standing}
use Rattle.route_table.specs.Tables.{rows_of, within_rule, with_rows}
use Rattle.route_merges.specs.Outcomes.{Merged}
use Rattle.route_merges.specs.Candidates.{candidates}
use Rattle.route_merges.specs.Comparing.{compared_all}
use Rattle.route_merges.specs.Learning.{Learned, learned, learn_all}

-- the fields of an update
abbrev pub update_in : List ℕ → UpdateHeader
update_in s = update_from (values_in update s)

-- why a table within rule, of this unit and with this last accepted time, does not merge an update: 1 2 1 3 4 6 8 9
abbrev pub unmerged_reasons : ℕ → ℕ → List ℕ → ℕ → ℕ → List Reason
unmerged_reasons own last s quality time =
    refusing (refusal_as update s) ∷
    reason (eqb (update_in s).origin own) 6 ∷
    reason (not (in_order last time)) 8 ∷
    reason (ltb quality 40) 9 ∷
    []

-- merge: 14, then these
abbrev pub merge_reasons : Table → List ℕ → ℕ → ℕ → List Reason
merge_reasons t s quality time = reason (not (within_rule t)) 14 ∷ unmerged_reasons t.own t.time s quality time

unfoldable pub merge_refusal : Table → List ℕ → ℕ → ℕ → ℕ
merge_refusal t s quality time = first (merge_reasons t s quality time)

-- every candidate of the update in order, over the rows that stand
unfoldable pub merged_rows : Table → List ℕ → ℕ → ℕ → Learned
merged_rows t s quality time =
    let u = update_in s in
    learn_all u.origin time (candidates t.own u.origin quality (entries_of u.count (part_in update s))) (learned (standing time (rows_of t)) 0)

-- and how many rows are compared for them
unfoldable pub merged_count : Table → List ℕ → ℕ → ℕ → ℕ
merged_count t s quality time =
    let u = update_in s in
    compared_all u.origin time (candidates t.own u.origin quality (entries_of u.count (part_in update s))) (learned (standing time (rows_of t)) 0)

-- the number that refuses it with the table as it was; or the new table, how many candidates were skipped, and how many rows were compared
unfoldable pub merge_of : Table → List ℕ → ℕ → ℕ → Merged
merge_of t s quality time =
    let refusal = merge_refusal t s quality time in
    let all = merged_rows t s quality time in
    record {
      refused = refusal;
      skipped = after refusal 0 all.skipped;
      compared = after refusal 0 (merged_count t s quality time);
      table = after refusal t (with_rows t time all.rows);
    }
