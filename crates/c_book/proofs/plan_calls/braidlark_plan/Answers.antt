-- `braidlark_plan`: the plan that was made, over as many bytes as it has.
-- Assumes nothing.
use Rattle.c_book.proofs.PlanCallLaws.{planned}
use Rattle.c_book.proofs.plan_calls.braidlark_plan.Goals as goal

pub returns-in-Ok : goal.returns-in-Ok
returns-in-Ok c =
    let a = c.args in
    planned a.plan.now a.network a.manager a.max_hops a.rows a.data_slots a.slot_ms a.beacon_type c.if-plan-ne-PLAN_SIZE.false c.new.result c.new.ensures
    c.in-Ok.made _ c.in-Ok.is c.put_plan.ensures
