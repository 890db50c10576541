-- What holds of every call: the statements of specs/Laws on one call, proved.
-- Assumes nothing.
use Rattle.octets.proofs.Words.{◌≡◌, refl, false, false≢true, eq-eqb, eqb-true, eqb}
use Rattle.octets.proofs.TestLaws.{of_choice}
use Rattle.unit_life.specs.States.{Stopped, beacon, kind_after, tick_to}
use Rattle.unit_life.specs.declared.state.State.{State}
use Rattle.unit_life.specs.Calls.{on_event, on_tick, moved_on}
use Rattle.unit_life.specs.Histories.{event, tick}
use Rattle.unit_life.specs.Laws.{KeepsRule, StaysStopped, StartsAnew}
use Rattle.unit_life.proofs.TableLaws.{stays_normal}
use Rattle.unit_life.proofs.StepLaws.{taken, taken-within, refused_anyhow, records}

pub keeps_rule : KeepsRule
keeps_rule = (
  λ time. refl,
  λ s time. (
    λ number e joining.
        let c = event number time in
        taken-within s c (taken s c e) (λ here heard. joining here (eqb-true number beacon heard)),
    λ ms e.
        let c = tick ms time in
        taken-within s c (taken s c e) (λ here heard. absurd (false≢true heard)),
  ),
)

pub stays_stopped : StaysStopped
unfolding on_event on_tick kind_after tick_to moved_on
stays_stopped s time stopped = (
  λ event.
      let refused : eqb (on_event s event time).refused 0 ≡ false = rw (stopped, refused_anyhow) in
      rw refused stopped,
  λ ms. of_choice (λ (x : State). x.kind ≡ Stopped) (eqb (on_tick s ms time).refused 0) (rw stopped) stopped,
)

pub starts_anew : StartsAnew
unfolding on_event
starts_anew s number time e normal =
    rw (eq-eqb (on_event s number time).refused 0 e, normal) (records s _ time (λ k. stays_normal number (rw (← k) at normal)))
