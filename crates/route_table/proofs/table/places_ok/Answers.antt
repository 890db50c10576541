-- `places_ok`'s loop: the places from i on are right exactly if all are.
-- Assumes nothing.
use Rattle.octets.proofs.Words.{refl, arith, rules, not, ap}
use Rattle.route_table.proofs.PlaceLaws.{ok_stop, ok_again, ok_end}
use Rattle.route_table.proofs.table.places_ok.Goals as goal

pub loop-i-init : goal.loop-i-init
loop-i-init c = (search rules, refl)

pub returns-then-not-ordered : goal.returns-then-not-ordered
returns-then-not-ordered c = (search (rules, ok_stop), search rules)

pub loop-i-preserved : goal.loop-i-preserved
loop-i-preserved c =
    let l = c.loop-i in
    let a = c.args in
    (search rules, ok_again a.own a.last a.rows l.i (search rules) _ (omega arith) l.invariant.1 c.ordered.ensures (ap not c.if-not-ordered.false))

pub returns : goal.returns
returns c =
    let l = c.loop-i in
    let a = c.args in
    (ok_end a.own a.last a.rows l.i (search rules) _ (omega arith) l.invariant.1 c.ordered-2.ensures, search rules)
