-- `put_head_line`: the number of slots is below 1,000.
-- Assumes nothing.
use Rattle.octets.proofs.Words.{arith, Fits-under, rules}
use Rattle.site_plan.proofs.PlanLaws.{few-slots}
use Rattle.book_drawing.proofs.text.Text.put_head_line.Goals as goal

pub overflow_cast-slots : goal.overflow_cast-slots
overflow_cast-slots c = Fits-under _ _ 101 (omega (arith, c.slots.ensures, few-slots c.args.plan)) _

pub put_decimal-requires : goal.put_decimal-requires
put_decimal-requires c = (search rules, omega (arith, c.slots.ensures, few-slots c.args.plan))
