-- Merging an update into a stored table, from what its parts say.
-- Assumes nothing.
use Rattle.octets.proofs.Words.{◌≡◌, refl, sym, ap, ◌∙◌, Bool, true, false, cond, List, ℕ, eq-eqb, ne_eqb, length}
use Rattle.std.specs.Prelude.{Ok, Err}
use Rattle.octets.specs.Answers.{first}
use Rattle.octets.specs.Refusals.{number_of}
use Rattle.octets.specs.declared.refusals.Refusal.{Refusal}
use Rattle.octets.proofs.RefusalLaws.{refusal_some}
use Rattle.octets.proofs.CallLaws.{stored-none}
use Rattle.route_table.specs.declared.row.Row.{Row}
use Rattle.route_table.specs.declared.table.Head.{Head}
use Rattle.route_table.specs.Rows.{in_use, pad, standing}
use Rattle.route_table.specs.Tables.{rows_of, head_of, table_of, within_rule, with_rows}
use Rattle.route_bytes.specs.StoredTables.{stored_table}
use Rattle.route_bytes.specs.TableBytes.{rows_in, table_in, table_bytes, table_over, is_table, holds_table}
use Rattle.route_bytes.proofs.TableByteLaws.{table-length, rows_in_lem}
use Rattle.route_in_place.proofs.JudgedLaws.{judged-table, judged-rule}
use Rattle.route_merges.specs.declared.learning.Tally.{Tally}
use Rattle.route_merges.specs.Learning.{Learned, learned}
use Rattle.route_merges.specs.Merges.{unmerged_reasons, merge_refusal, merged_rows, merged_count, merge_of}
use Rattle.route_merges.specs.StoredMerges.{merged_in, merge_call}
use Rattle.route_merges.proofs.MergeLaws.{Mergeable, mergeable}

module _ (s frame : List ℕ) (quality time : ℕ) where
  -- the number that a merge into these bytes answers
  abbrev status : ℕ
  status = stored_table s (merge_refusal (table_in s) frame quality time)

  -- ---- bytes that hold no table within rule, and such as do
  pub none-held : holds_table s ≡ false → 14 ≡ status
  unfolding holds_table merge_refusal
  none-held e = go (is_table s) refl
    where
      go : (b : Bool) → is_table s ≡ b → 14 ≡ cond b (merge_refusal (table_in s) frame quality time) 14
      go true q =
          let broken : within_rule (table_in s) ≡ false = rw q at e in
          rw broken
      go false q = refl

  pub one-held : holds_table s ≡ true → (h : Head) → h ≡ head_of (table_in s) → (n : ℕ) → n ≡ first (unmerged_reasons h.own h.time frame quality time) → n ≡ status
  unfolding merge_refusal
  one-held e h q n f = f ∙ rw (q, judged-table s e, judged-rule s e)

  -- ---- what a merge leaves
  -- the bytes as they were where it is refused
  pub bytes_stay : (r : Refusal) → number_of r ≡ status → merged_in (Err r) s ≡ merge_call s frame quality time 0 0
  unfolding merge_of merge_call
  bytes_stay r e = rw (← e, ne_eqb (number_of r) 0 (refusal_some r))

  -- those of the table that it gives where it is not
  module _ (e : 0 ≡ status) where
    accepted : (is_table s ≡ true) × (merge_refusal (table_in s) frame quality time ≡ 0)
    accepted = stored-none (is_table s) (merge_refusal (table_in s) frame quality time) (sym e)

    pub stored_able : Mergeable (table_in s) frame quality time
    stored_able = mergeable (table_in s) frame quality time accepted.1

    -- the rows that were read are those of the table that stand
    pub stored-standing : (places : List Row) → places ≡ pad (standing time (rows_in s)) → places ≡ pad (standing time (rows_of (table_in s)))
    stored-standing places q = q ∙ ap (λ (rs : List Row). pad (standing time rs)) (rows_in_lem s (table-length s accepted.0))

    module _ (h : Head) (q : h ≡ head_of (table_in s)) (rows : List Row) (tally : Tally) (all : Learned) (count : ℕ) (same : all ≡ merged_rows (table_in s) frame quality time)
        (counts : count ≡ merged_count (table_in s) frame quality time) (k : learned (in_use rows) tally.skipped ≡ all) (n : tally.compared ≡ count) (last : List ℕ)
        (l : last ≡ table_over s (table_of (record { own = h.own; time = time; forwarded = h.forwarded; origin = h.origin; sequence = h.sequence }) (in_use rows))) where
      all-written : last ≡ table_bytes (with_rows (table_in s) time (merged_rows (table_in s) frame quality time).rows)
      unfolding table_over
      all-written = l ∙ rw (eq-eqb (length s) 539 (table-length s accepted.0), q, ap (λ (x : Learned). x.rows) (k ∙ same))

      pub bytes-written : merged_in (Ok tally) last ≡ merge_call s frame quality time 0 0
      unfolding merge_of merge_call
      bytes-written = rw (accepted.0, accepted.1, all-written, ap (λ (x : Learned). x.skipped) k, n, same, counts)
