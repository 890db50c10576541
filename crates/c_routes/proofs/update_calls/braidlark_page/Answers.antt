-- `braidlark_page`: the page that was written, or why none was.
-- Assumes nothing.
use Rattle.octets.proofs.Words.{arith}
use Rattle.c_routes.proofs.UpdateCallLaws.{page-size, page-done, page_undone}
use Rattle.c_routes.proofs.update_calls.braidlark_page.Goals as goal

pub overflow_cast-written : goal.overflow_cast-written
overflow_cast-written c =
    let a = c.args in
    omega (arith, page-size a.table.now a.page a.time a.out.now 0 c.page_in.result _ c.page_in.ensures c.in-Ok.size c.in-Ok.is)

pub returns-in-Ok : goal.returns-in-Ok
returns-in-Ok c =
    let a = c.args in
    page-done a.table.now a.page a.time a.out.now _ c.page_in.result _ c.page_in.ensures c.in-Ok.size c.in-Ok.is

pub returns-in-Err : goal.returns-in-Err
returns-in-Err c =
    let a = c.args in
    rw c.number.ensures (page_undone a.table.now a.page a.time a.out.now _ c.page_in.result _ c.page_in.ensures c.in-Err.refusal c.in-Err.is)
