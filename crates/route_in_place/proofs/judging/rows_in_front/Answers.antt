-- `rows_in_front`'s loop: the rows passed are right, and the rest is exactly if the whole is; the row that is wanted was found or is among the rest.
-- Assumes nothing.
use Rattle.octets.proofs.Words.{not, ap, rules}
use Rattle.route_in_place.proofs.JudgedLaws.{judging, none_left, ended, row-bad, row_kept}
use Rattle.route_in_place.proofs.judging.rows_in_front.Goals as goal

pub loop-place-init : goal.loop-place-init
loop-place-init c = judging _ _ _ _

pub returns-then-row-below : goal.returns-then-row-below
returns-then-row-below c =
    let l = c.loop-place in
    ended c.args.s.now c.requires c.args.own c.args.last c.args.wanted l.below l.past l.place l.invariant (search rules) c.row_in-row.result c.row_in-row.ensures c.if-row-below.true

pub returns-then-not-kept : goal.returns-then-not-kept
returns-then-not-kept c =
    let l = c.loop-place in
    row-bad c.args.s.now c.requires c.args.own c.args.last c.args.wanted l.below l.past l.place l.invariant (search rules) c.row_in-row.result c.row_in-row.ensures c.if-row-below.false
    _ c.carries.ensures _ c.read.ensures (ap not c.if-not-kept.true)

pub loop-place-preserved : goal.loop-place-preserved
loop-place-preserved c =
    let l = c.loop-place in
    row_kept c.args.s.now c.requires c.args.own c.args.last c.args.wanted l.below l.past l.place l.invariant (search rules) c.row_in-row.result c.row_in-row.ensures c.if-row-below.false
    _ c.carries.ensures _ c.read.ensures (ap not c.if-not-kept.false) _ c.either-past.ensures

pub returns : goal.returns
returns c =
    let l = c.loop-place in
    none_left c.args.s.now c.requires c.args.own c.args.last c.args.wanted l.below l.past l.place l.invariant (search rules)
