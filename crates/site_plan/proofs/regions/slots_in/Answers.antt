-- `slots_in`: the table's entry, which antt compares with the definition at all 51 places, or the most.
-- Assumes nothing.
use Rattle.octets.proofs.Words.{refl, rules}
use Rattle.octets.specs.Lists.{tab}
use Rattle.site_plan.specs.Plans.{slots_in}
use Rattle.site_plan.proofs.PlanLaws.{lengths_by_table, past-table, length-fits}
use Rattle.site_plan.proofs.regions.slots_in.Goals as goal

pub overflow_cast-result-then-active-le-MOST_ACTIVE : goal.overflow_cast-result-then-active-le-MOST_ACTIVE
unfolding slots_in tab
overflow_cast-result-then-active-le-MOST_ACTIVE c = record { fits = length-fits _ refl c.args.active (search rules) }

pub returns-then-active-le-MOST_ACTIVE : goal.returns-then-active-le-MOST_ACTIVE
unfolding slots_in tab
returns-then-active-le-MOST_ACTIVE c = lengths_by_table _ refl c.args.active (search rules)

pub returns-else-active-le-MOST_ACTIVE : goal.returns-else-active-le-MOST_ACTIVE
unfolding slots_in tab
returns-else-active-le-MOST_ACTIVE c = search (rules, past-table)
