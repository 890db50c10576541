-- `holds_table`: what judging finds, whatever row is wanted.
-- Assumes nothing.
use Rattle.octets.proofs.Words.{ap, ◌∙◌}
use Rattle.route_in_place.specs.Outcomes.{Judged}
use Rattle.route_in_place.proofs.JudgedLaws.{some_holds}
use Rattle.route_in_place.proofs.judging.holds_table.Goals as goal

pub returns : goal.returns
returns c = c.is_some.ensures ∙ (some_holds _ ∙ ap (λ (x : Judged). x.holds) c.judged_for.ensures)
