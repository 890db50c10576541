-- `forward`: as it was where it is refused, else the copy and its pair recorded.
-- Assumes nothing.
use Rattle.octets.proofs.Words.{◌≡◌, ap, ◌∙◌, cond, ℕ, ltb, length, arith}
use Rattle.std.specs.Prelude.{Err}
use Rattle.octets.specs.Refusals.{status_of}
use Rattle.frame_beacons.specs.EitherBeacons.{is_short, either_in}
use Rattle.route_table.specs.Outcomes.{changed}
use Rattle.route_table.specs.Tables.{settled}
use Rattle.route_passing.specs.Passes.{passed_table}
use Rattle.route_forwards.specs.Copies.{copy_size}
use Rattle.route_forwards.specs.Forwards.{passing_of, forward_refusal}
use Rattle.route_forwards.proofs.ForwardLaws.{size-heard, passed_as, room-number, copy_fits, forwarded_off, forward-none, forwarded_on}
use Rattle.route_forwards.proofs.forwarding.forward.Goals as goal
use Rattle.route_forwards.proofs.forwarding.forward.Goals.{After-pass}

-- how many bytes the copy has
sized : (d : After-pass) → d.copy_size-written.result ≡ copy_size (is_short d.args.frame.now)
sized d = size-heard _ d.of-beacon.result _ d.of-beacon.ensures d.copy_size-written.ensures

-- once the table was asked
asked : (d : After-pass) → changed d.args.table d.pass.result
    ≡ settled (forward_refusal d.args.table d.args.network d.args.manager d.args.frame.now d.args.delay d.args.time (length d.args.out.now))
    d.args.table (passed_table d.args.table (passing_of d.args.manager (either_in d.args.frame.now)) d.args.time)
asked d =
    let a = d.args in
    let room : status_of d.refuse_if-behind.result ≡ cond (ltb (length a.out.now) d.copy_size-written.result) 5 0 = room-number _ _ (rw (← d.from.ensures) d.refuse_if-behind.ensures) in
    d.pass.ensures ∙
    passed_as a.table a.network a.manager a.frame.now a.delay a.time (length a.out.now) _ _ d.passing_of-passing.result
    (d.passing_of-passing.ensures ∙ ap (passing_of a.manager) d.of-beacon.ensures) d.unread-before.ensures
    (room ∙ ap (λ (n : ℕ). cond (ltb (length a.out.now) n) 5 0) (sized d))

pub returns-in_err-next : goal.returns-in_err-next
returns-in_err-next c =
    let d = (goal.at.returns-in_err-next c).After-pass in
    let a = d.args in
    let r = c.in_err-next.field-0.0 in
    let e : c.from_residual.result ≡ Err r = grind arith in
    rw e (forwarded_off a.table a.network a.manager a.frame.now a.delay a.time a.out.now d.pass.result (asked d) r c.in_err-next.was)

pub put_copy_of-requires : goal.put_copy_of-requires
put_copy_of-requires c =
    let d = (goal.at.put_copy_of-requires c).After-pass in
    let a = d.args in
    copy_fits a.table a.network a.manager a.frame.now a.delay a.time a.out.now
    (forward-none a.table a.network a.manager a.frame.now a.delay a.time a.out.now d.pass.result (asked d) _ c.in_ok-next.was)

pub returns : goal.returns
returns c =
    let d = (goal.at.returns c).After-pass in
    let a = d.args in
    forwarded_on a.table a.network a.manager a.frame.now a.delay a.time a.out.now d.pass.result (asked d) _ c.in_ok-next.was _ _ c.put_copy_of.ensures (sized d)
