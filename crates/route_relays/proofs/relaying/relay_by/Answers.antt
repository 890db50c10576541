-- `relay_by`: nothing is written where it is refused or for this unit, else the copy.
-- Assumes nothing.
use Rattle.octets.proofs.Words.{◌≡◌, true, arith}
use Rattle.std.specs.Prelude.{Err, Some}
use Rattle.route_relays.specs.Relays.{is_for}
use Rattle.route_relays.specs.Ways.{LeadsOn}
use Rattle.route_relays.proofs.RelayLaws.{by-refused, by-ours, copied_on, by-copied}
use Rattle.route_relays.proofs.relaying.relay_by.Goals as goal

pub returns-in_err-route : goal.returns-in_err-route
returns-in_err-route c =
    let a = c.args in
    let r = c.in_err-route.field-0.0 in
    let e : c.from_residual.result ≡ Err r = grind arith in
    rw e (by-refused a.head.own a.head.time a.route a.frame.now a.time a.least a.out.now r c.in_err-route.ensures.0)

pub returns-in_default : goal.returns-in_default
returns-in_default c =
    let a = c.args in
    let ours : is_for a.head.own a.frame.now ≡ true = rw c.in_default.is at c.in_ok-route.ensures.1 in
    rw c.from.ensures (by-ours a.head.own a.head.time a.route a.frame.now a.time a.least a.out.now c.in_ok-route.ensures.0 ours c.of.result c.of.ensures)

pub put_copy-requires : goal.put_copy-requires
put_copy-requires c =
    let a = c.args in
    let way : LeadsOn a.head.own a.route a.frame.now (Some c.in-Some.route) = rw c.in-Some.is at c.in_ok-route.ensures.1 in
    copied_on a.head.own a.head.time a.route a.frame.now a.time a.least a.out.now c.in_ok-route.ensures.0 way.0

pub returns : goal.returns
returns c =
    let a = c.args in
    let way : LeadsOn a.head.own a.route a.frame.now (Some c.in-Some.route) = rw c.in-Some.is at c.in_ok-route.ensures.1 in
    by-copied a.head.own a.head.time a.route a.frame.now a.time a.least a.out.now c.in_ok-route.ensures.0 way.0 c.in-Some.route way.1 _ c.put_copy.ensures
