-- `put_page`: why it is not written, or its header, its entries and its checksum.
-- Assumes nothing.
use Rattle.octets.proofs.Words.{◌≡◌, arith}
use Rattle.std.specs.Prelude.{Err}
use Rattle.route_pages.proofs.PageLaws.{unwritten, written}
use Rattle.route_pages.proofs.writing.put_page.Goals as goal

pub returns-in_err-why_unpaged : goal.returns-in_err-why_unpaged
returns-in_err-why_unpaged c =
    let a = c.args in
    let r = c.in_err-why_unpaged.field-0.0 in
    let e : c.from_residual.result ≡ Err r = grind arith in
    rw e (unwritten a.head.own a.head.time a.rows.now a.number a.time a.out.now r c.in_err-why_unpaged.ensures)

pub returns : goal.returns
returns c =
    let a = c.args in
    written a.head.own a.head.time a.rows.now a.number a.time a.out.now c.in_ok-why_unpaged.ensures _ _ _ c.put.ensures c.put_entries.ensures c.seal.ensures
