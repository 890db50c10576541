-- The merge that compares the most rows, computed.
-- Assumes nothing.
use mathlib.Core.Path.{refl}
use Rattle.octets.specs.Lists.{tab, every}
use Rattle.octets.specs.Numbers.{num, digits}
use Rattle.octets.specs.Sums.{xors}
use Rattle.moments.specs.Moments.{age_at, in_order}
use Rattle.frame_kinds.specs.Reading.{is_sealed, read_refusal}
use Rattle.frame_kinds.specs.Shape.{sealed}
use Rattle.frame_traffic.specs.Traffic.{entry_at}
use Rattle.route_table.specs.Rows.{pad}
use Rattle.route_table.specs.Tables.{within_rule}
use Rattle.route_merges.specs.Learning.{learn}
use Rattle.route_merges.specs.Merges.{merge_refusal, merged_rows, merged_count, merge_of}
use Rattle.route_merges.specs.Fullest.{ComparesAll}

pub compares_all : ComparesAll
unfolding tab every num digits xors age_at in_order is_sealed read_refusal sealed entry_at pad within_rule learn merge_refusal merged_rows merged_count merge_of
compares_all = (refl, refl, refl)
