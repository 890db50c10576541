-- `row_at`: the fields of a row in a part of the bytes are those in all of them.
-- Assumes nothing.
use Rattle.octets.proofs.Words.{◌∙◌, arith}
use Rattle.route_bytes.proofs.TableByteLaws.{place-part}
use Rattle.route_bytes.proofs.tables.row_at.Goals as goal

pub returns : goal.returns
returns c =
    let a = c.args in
    c.row_in.ensures ∙ place-part a.s.now a.place (omega arith) (omega arith)
