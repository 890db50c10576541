-- `relay_in`: no table, or what the row that lies in the bytes makes of the frame.
-- Assumes nothing.
use Rattle.octets.proofs.Words.{◌≡◌, ◌∙◌, false, true, rules}
use Rattle.route_bytes.specs.TableBytes.{table_in, holds_table, rows_in}
use Rattle.route_bytes.proofs.TableByteLaws.{rows_in_lem}
use Rattle.route_table.specs.Rows.{row_for}
use Rattle.route_in_place.proofs.JudgedLaws.{judged-rule, judged-length}
use Rattle.route_relays.proofs.RelayLaws.{header_in, relayed-by, stored-relayed, stored-none}
use Rattle.route_relays.proofs.relaying.relay_in.Goals as goal

pub returns-in_default : goal.returns-in_default
returns-in_default c =
    let a = c.args in
    let none : holds_table a.table.now ≡ false = search rules in
    stored-none a.table.now a.frame.now a.time a.least a.out.now none

pub returns : goal.returns
returns c =
    let a = c.args in
    let one : holds_table a.table.now ≡ true = search rules in
    let row : c.in-Some.row ≡ row_for c.of-to.result.destination (rows_in a.table.now) = search rules in
    c.relay_by.ensures ∙
    rw (c.found_by-route.ensures, row, rows_in_lem a.table.now (judged-length a.table.now one), header_in c.of-to.result a.frame.now c.of-to.ensures, c.head_of-head.ensures)
    (relayed-by (table_in a.table.now) a.frame.now a.time a.least a.out.now (judged-rule a.table.now one) ∙ stored-relayed a.table.now a.frame.now a.time a.least a.out.now one)
