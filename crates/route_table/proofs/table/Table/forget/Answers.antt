-- `Table::forget`: each standing row with the unit forgotten, where no reason refuses it.
-- Assumes nothing.
use Rattle.octets.proofs.Words.{◌≡◌, ap, ◌∙◌, map, rules}
use Rattle.octets.specs.Answers.{first}
use Rattle.route_table.specs.Rows.{forgotten}
use Rattle.route_table.specs.Tables.{forget_reasons}
use Rattle.route_table.proofs.TableLaws.{forgets}
use Rattle.route_table.proofs.table.Table.forget.Goals as goal

pub returns : goal.returns
returns c =
    let a = c.args in
    let z : first (forget_reasons a.self a.unit a.time) ≡ 0 = search rules in
    forgets a.self a.unit a.time c.forgotten_rows.result c.standing_places-standing.ensures.1 z
    (c.forgotten_rows.ensures ∙ ap (map (forgotten a.unit a.time)) c.standing_places-standing.ensures.0)
