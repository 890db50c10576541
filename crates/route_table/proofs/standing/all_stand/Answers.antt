-- `all_stand`'s loop: whether the rows from an index on stand is whether all do.
-- Assumes nothing.
use Rattle.octets.proofs.Words.{sym, ◌∙◌, ◌≤◌, arith, rules, length, drop_of_length-le}
use Rattle.octets.specs.Lists.{every}
use Rattle.route_table.proofs.StandingLaws.{stand_end, stand_stop, stand_on}
use Rattle.route_table.proofs.standing.all_stand.Goals as goal

pub returns-then-row-eq0 : goal.returns-then-row-eq0
returns-then-row-eq0 c =
    let l = c.loop-row in
    let a = c.args in
    stand_end a.time a.rows l.row-index (search rules) l.invariant c.if-row-eq0.true

pub returns-then-not-stands : goal.returns-then-not-stands
returns-then-not-stands c =
    let l = c.loop-row in
    let a = c.args in
    stand_stop a.time a.rows l.row-index (search rules) l.invariant c.if-row-eq0.false (sym c.stands.ensures ∙ c.if-not-stands.true)

pub loop-row-preserved : goal.loop-row-preserved
loop-row-preserved c =
    let l = c.loop-row in
    let a = c.args in
    stand_on a.time a.rows l.row-index (search rules) l.invariant c.if-row-eq0.false (sym c.stands.ensures ∙ c.if-not-stands.false)

pub returns : goal.returns
unfolding every
returns c =
    let l = c.loop-row in
    let h : length c.args.rows ≤ l.row-index = omega arith in
    (rw (drop_of_length-le c.args.rows h) at l.invariant)
