-- `merge_in`: the bytes as they were, or every candidate learned over the rows that stand, and all of the table stored.
-- Assumes nothing.
use Rattle.octets.proofs.Words.{◌≡◌, refl, ap, arith}
use Rattle.std.specs.Prelude.{Err}
use Rattle.octets.specs.Parts.{Lent}
use Rattle.route_table.specs.declared.table.Head.{Head}
use Rattle.route_table.specs.Rows as rows
use Rattle.route_table.specs.Rows.{pad}
use Rattle.route_table.specs.Tables.{rows_of}
use Rattle.route_bytes.specs.StoredTables.{stored_table}
use Rattle.route_bytes.specs.TableBytes.{table_in}
use Rattle.route_merges.specs.Merges.{update_in, merge_refusal}
use Rattle.route_merges.proofs.MergeLaws.{Mergeable, header_in, learnable, merged_by, counted-by}
use Rattle.route_merges.proofs.StoredLaws.{bytes_stay, stored_able, stored-standing, bytes-written}
use Rattle.route_merges.proofs.stored.merge_in.Goals as goal
use Rattle.route_merges.proofs.stored.merge_in.Goals.{After-entries}

-- none of the reasons holds
accepted : (d : After-entries) → 0 ≡ stored_table d.args.table.now (merge_refusal (table_in d.args.table.now) d.args.frame.now d.args.quality d.args.time)
accepted d = d.in_ok-why_unmerged_in.ensures

-- what is known once the entries are at hand
able : (d : After-entries) → Mergeable (table_in d.args.table.now) d.args.frame.now d.args.quality d.args.time
able d = stored_able _ _ _ _ (accepted d)

header : (d : After-entries) → d.of-header.result ≡ update_in d.args.frame.now
header d = header_in d.of-header.result _ d.of-header.ensures

standing : (d : After-entries) → d.standing_rows-rows.result
    ≡ pad (rows.standing d.args.time (rows_of (table_in d.args.table.now)))
standing d = stored-standing _ _ _ _ (accepted d) _ d.standing_rows-rows.ensures

own : (d : After-entries) → d.head_of-head.result.own ≡ (table_in d.args.table.now).own
own d = ap (λ (h : Head). h.own) d.head_of-head.ensures

pub returns-in_err-why_unmerged_in : goal.returns-in_err-why_unmerged_in
returns-in_err-why_unmerged_in c =
    let e : c.from_residual.result ≡ Err c.in_err-why_unmerged_in.field-0.0 = grind arith in
    rw e (bytes_stay _ _ _ _ c.in_err-why_unmerged_in.field-0.0 c.in_err-why_unmerged_in.ensures)

pub learn_all-tally-requires : goal.learn_all-tally-requires
learn_all-tally-requires c =
    learnable _ _ _ _ (able c) _ (standing c) _ c.of-header.result _ (own c) (header c) (ap (λ (l : Lent). l.bytes) c.entries.ensures)

pub returns : goal.returns
returns c =
    let d = (goal.at.returns c).After-entries in
    let part = ap (λ (l : Lent). l.bytes) d.entries.ensures in
    let (all, counts, placed) = c.learn_all-tally.ensures in
    let whole = merged_by _ _ _ _ (able d) _ (standing d) _ d.of-header.result _ (own d) (header d) part _ all in
    let number = counted-by _ _ _ _ (able d) _ (standing d) _ d.of-header.result _ (own d) (header d) part _ counts in
    bytes-written _ _ _ _ (accepted d) d.head_of-head.result d.head_of-head.ensures c.learn_all-tally.new.rows c.learn_all-tally.result _ _ whole number refl refl _ c.put_table.ensures
