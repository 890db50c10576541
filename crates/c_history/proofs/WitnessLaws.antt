-- The history that is not empty, computed.
-- Assumes nothing.
use mathlib.Core.Path.{refl}
use Rattle.octets.specs.Lists.{tab, every}
use Rattle.octets.specs.Numbers.{num, digits}
use Rattle.octets.specs.Sums.{xors}
use Rattle.moments.specs.Moments.{age_at, in_order}
use Rattle.frame_kinds.specs.Reading.{is_sealed, read_refusal}
use Rattle.frame_traffic.specs.Traffic.{entry_at}
use Rattle.route_table.specs.Rows.{pad}
use Rattle.route_table.specs.Tables.{within_rule, fresh_of, lookup_of}
use Rattle.route_merges.specs.Learning.{learn}
use Rattle.route_merges.specs.Merges.{merge_refusal, merged_rows, merged_count, merge_of}
use Rattle.route_bytes.specs.TableBytes.{row_at, table_in, table_bytes, is_table}
use Rattle.c_routes.specs.TableCalls.{fresh_call, lookup_call}
use Rattle.route_merges.specs.StoredMerges.{merge_call}
use Rattle.c_history.specs.TableWitness.{AnswersAtLast}

pub answers_at_last : AnswersAtLast
unfolding tab every num digits xors age_at in_order is_sealed read_refusal entry_at pad within_rule fresh_of lookup_of learn merge_refusal merged_rows merged_count merge_of row_at table_in table_bytes is_table fresh_call lookup_call merge_call
answers_at_last = (refl, refl, refl, refl)
