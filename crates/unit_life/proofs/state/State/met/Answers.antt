-- `met`: what the state or the time refuses is refused whatever the event.
-- Assumes nothing.
use Rattle.std.proofs.Common.{◌≡◌, not, Err, eqb, arith}
use Rattle.octets.specs.Answers.{reason}
use Rattle.moments.specs.Moments.{in_order}
use Rattle.unit_life.specs.Calls.{within_rule, on_event}
use Rattle.unit_life.specs.Kinds.{event_number}
use Rattle.unit_life.specs.States.{Nowhere, kind_after}
use Rattle.unit_life.proofs.FrontLaws.{in_front}
use Rattle.unit_life.proofs.state.State.met.Goals as goal

pub returns-in_err-kind : goal.returns-in_err-kind
unfolding on_event
returns-in_err-kind c =
    let s = c.args.self in
    let e : c.from_residual.result ≡ Err c.in_err-kind.field-0.0 = grind arith in
    rw e
    (in_front (not (within_rule s)) (not (in_order s.last c.args.time)) (reason (eqb (kind_after s.kind (event_number c.args.event)) Nowhere) 7) _ s _
    c.in_err-kind.ensures.refused)
