-- `forward_in`: as it was where it is refused, else the copy and its pair recorded in the bytes.
-- Assumes nothing.
use Rattle.octets.proofs.Words.{◌≡◌, ap, ◌∙◌, cond, ℕ, ltb, length, arith}
use Rattle.std.specs.Prelude.{Err}
use Rattle.octets.specs.Refusals.{status_of}
use Rattle.frame_beacons.specs.EitherBeacons.{is_short, either_in}
use Rattle.route_table.specs.declared.table.Table.{Table}
use Rattle.route_table.specs.Tables.{settled}
use Rattle.route_passing.specs.Passes.{passed_table, pass_of}
use Rattle.route_bytes.specs.TableBytes.{table_in}
use Rattle.route_forwards.specs.Copies.{copy_size}
use Rattle.route_forwards.specs.Forwards.{passing_of, forward_refusal}
use Rattle.route_forwards.proofs.ForwardLaws.{size-heard, passed_as, room-number, copy_fits, stored_off, stored-none, stored_on}
use Rattle.route_forwards.proofs.forwarding.forward_in.Goals as goal
use Rattle.route_forwards.proofs.forwarding.forward_in.Goals.{After-pass}

-- how many bytes the copy has
sized : (d : After-pass) → d.copy_size-written.result ≡ copy_size (is_short d.args.frame.now)
sized d = size-heard _ d.of-beacon.result _ d.of-beacon.ensures d.copy_size-written.ensures

-- what any table says when it is asked so
asks : (d : After-pass) (t : Table)
    → pass_of t (status_of d.unread-before.result) d.args.network d.passing_of-passing.result d.args.delay d.args.time (status_of d.refuse_if-behind.result)
    ≡ settled (forward_refusal t d.args.network d.args.manager d.args.frame.now d.args.delay d.args.time (length d.args.out.now))
    t (passed_table t (passing_of d.args.manager (either_in d.args.frame.now)) d.args.time)
asks d t =
    let a = d.args in
    let room : status_of d.refuse_if-behind.result ≡ cond (ltb (length a.out.now) d.copy_size-written.result) 5 0 = room-number _ _ (rw (← d.from.ensures) d.refuse_if-behind.ensures) in
    passed_as t a.network a.manager a.frame.now a.delay a.time (length a.out.now) _ _ d.passing_of-passing.result
    (d.passing_of-passing.ensures ∙ ap (passing_of a.manager) d.of-beacon.ensures) d.unread-before.ensures
    (room ∙ ap (λ (n : ℕ). cond (ltb (length a.out.now) n) 5 0) (sized d))

pub returns-in_err-pass : goal.returns-in_err-pass
returns-in_err-pass c =
    let d = (goal.at.returns-in_err-pass c).After-pass in
    let a = d.args in
    let r = c.in_err-pass.field-0.0 in
    let e : c.from_residual.result ≡ Err r = grind arith in
    rw e (stored_off a.table.now a.network a.manager a.frame.now a.delay a.time a.out.now d.pass.result _ _ d.pass.ensures (asks d) r c.in_err-pass.was)

pub put_copy_of-requires : goal.put_copy_of-requires
put_copy_of-requires c =
    let d = (goal.at.put_copy_of-requires c).After-pass in
    let a = d.args in
    copy_fits (table_in a.table.now) a.network a.manager a.frame.now a.delay a.time a.out.now
    (stored-none a.table.now a.network a.manager a.frame.now a.delay a.time a.out.now d.pass.result _ _ d.pass.ensures (asks d) (ap status_of c.in_ok-pass.was))

pub returns : goal.returns
unfolding table_in
returns c =
    let d = (goal.at.returns c).After-pass in
    let a = d.args in
    stored_on a.table.now a.network a.manager a.frame.now a.delay a.time a.out.now d.pass.result _ _ d.pass.ensures (asks d) _ _ (ap status_of c.in_ok-pass.was)
    (c.put_copy_of.ensures ∙ rw d.read-own.ensures) (sized d)
