-- What the state or the time refuses comes before what a call refuses of its own.
-- Assumes nothing.
use Rattle.std.proofs.Common.{◌≡◌, Bool, [], ◌∷◌, arith}
use Rattle.std.proofs.lemmas.Grind.{common_steps}
use Rattle.octets.specs.Answers.{Reason, reason, first}
use Rattle.octets.specs.Refusals.{number_of}
use Rattle.octets.specs.declared.refusals.Refusal.{Refusal}
use Rattle.unit_life.specs.declared.state.State.{State}
use Rattle.unit_life.specs.Calls.{lived}
use Rattle.unit_life.specs.Outcomes.{Lived}

pub in_front : (a b : Bool) (own : Reason) (r : Refusal) (s next : State) → number_of r ≡ first (reason a 14 ∷ reason b 8 ∷ [])
    → ◌≡◌ {A = Lived} (record { refused = number_of r; state = s }) (lived (reason a 14 ∷ reason b 8 ∷ own ∷ []) s next)
in_front a b own r s next e = grind (arith, common_steps)
