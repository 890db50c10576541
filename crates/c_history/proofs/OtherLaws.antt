-- A merge from C leaves alone the rows of which its update says nothing, and compares few.
-- Assumes nothing.
use mathlib.Core.Path.{◌≡◌, ap, ◌∙◌}
use Rattle.octets.proofs.CallLaws.{after-accepted, stored-none}
use Rattle.route_table.specs.declared.table.Table.{Table}
use Rattle.route_table.specs.Rows.{row_for}
use Rattle.route_table.specs.Tables.{rows_of}
use Rattle.route_merges.specs.Merges.{merge_of}
use Rattle.route_merges.proofs.KeepLaws.{few_in_all}
use Rattle.route_merges.proofs.OtherLaws.{others_unchanged}
use Rattle.route_bytes.specs.TableBytes.{table_in, table_bytes, is_table}
use Rattle.route_bytes.proofs.SizeLaws.{sized-read}
use Rattle.route_bytes.proofs.TableTripLaws.{reads_back}
use Rattle.route_history.specs.TableCalls.{merge}
use Rattle.route_bytes.specs.StoredTables.{stored_table}
use Rattle.route_merges.specs.StoredMerges.{merge_call}
use Rattle.c_history.specs.TableLaws.{OthersUnchangedInC, FewComparedInC}
use Rattle.c_history.proofs.KeptLaws.{sized-next}

pub others_unchanged_in_c : OthersUnchangedInC
unfolding merge_call
others_unchanged_in_c s frame quality time skipped compared d b m z a n =
    let t = table_in s in
    let merged = merge_of t frame quality time in
    let accepted = (stored-none (is_table s) merged.refused z).1 in
    let there : table_in (merge_call s frame quality time skipped compared).table ≡ merged.table =
    ap table_in (after-accepted (stored_table s merged.refused) s (table_bytes merged.table) z)
    ∙ reads_back merged.table (sized-next t (merge frame quality time) m (sized-read s b)) in
    ap (λ (x : Table). row_for d (rows_of x)) there ∙ others_unchanged t frame quality time d accepted a n

pub few_compared_in_c : FewComparedInC
unfolding merge_call
few_compared_in_c s frame quality time skipped compared z =
    let merged = merge_of (table_in s) frame quality time in
    rw (after-accepted (stored_table s merged.refused) compared merged.compared z) (few_in_all (table_in s) frame quality time)
