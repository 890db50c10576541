-- `Table::within_rule`: its unit, its pair, its places.
-- Assumes nothing.
use Rattle.route_table.proofs.TableLaws.{table_right}
use Rattle.route_table.proofs.table.Table.within_rule.Goals as goal

pub returns : goal.returns
returns c = rw c.is_address.ensures (table_right c.args.self _ _ c.places_ok.ensures.1 c.pair_ok.ensures c.places_ok.ensures.0)
