-- `Plan::superframe_ms`: the product fits, since there are at most 100 slots.
-- Assumes nothing.
use borrow.Author.Rules.{rules}
use Rattle.site_plan.proofs.PlanLaws.{superframe_fits}
use Rattle.site_plan.proofs.plan.Plan.superframe_ms.Goals as goal

pub overflow_mul-result : goal.overflow_mul-result
overflow_mul-result c = search (rules, superframe_fits)
