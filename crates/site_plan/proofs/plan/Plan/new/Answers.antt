-- `Plan::new`: the plan, unless a number does not fit or its rule is broken.
-- Assumes nothing.
use Rattle.octets.proofs.Words.{sym, ◌∙◌}
use Rattle.site_plan.specs.declared.plan.Plan.{Plan}
use Rattle.site_plan.proofs.PlanLaws.{made, out_of_rule, unfit}
use Rattle.site_plan.proofs.plan.Plan.new.Goals as goal
use Rattle.site_plan.proofs.plan.Plan.new.Goals.{Start}

-- the plan that is asked for, whether its numbers fit or not
abbrev wanted : Start → Plan
wanted c =
    let a = c.args in
    record { network = a.network; manager = a.manager; max_hops = a.max_hops; rows = a.rows; data_slots = a.data_slots; slot_ms = a.slot_ms; beacon_type = a.beacon_type }

pub returns-in_default : goal.returns-in_default
returns-in_default c = unfit (wanted (goal.at.returns-in_default c).Start) (sym c.in_default.is ∙ c.fitting.ensures)

pub returns-then-within_rule : goal.returns-then-within_rule
returns-then-within_rule c = made (wanted (goal.at.returns-then-within_rule c).Start) _ (sym c.in-Some.is ∙ c.fitting.ensures) (sym c.within_rule.ensures ∙ c.if-within_rule.true)

pub returns-else-within_rule : goal.returns-else-within_rule
returns-else-within_rule c = out_of_rule (wanted (goal.at.returns-else-within_rule c).Start) _ (sym c.in-Some.is ∙ c.fitting.ensures) (sym c.within_rule.ensures ∙ c.if-within_rule.false)
