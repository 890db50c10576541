-- `neighbours_of`: what is known at each link, from the last to the first.
-- Assumes nothing.
use Rattle.site_sheet.proofs.LinkLaws.{none-linked, one_missing, other_missing, to_itself, link_turn}
use Rattle.site_sheet.proofs.neighbours.neighbours_of.Goals as goal

pub loop-place-init : goal.loop-place-init
loop-place-init c = none-linked _ _ _ _ c.args.sheet.counted c.requires.0 c.requires.1 c.link_count-place.ensures

pub returns-in_err-one : goal.returns-in_err-one
returns-in_err-one c =
    let l = c.loop-place in
    rw c.from_residual.ensures (one_missing _ _ _ _ l.place l.invariant c.loop-place-test.true _ c.link_at-link.ensures c.in_err-one.ensures)

pub returns-in_err-other : goal.returns-in_err-other
returns-in_err-other c =
    let l = c.loop-place in
    rw c.from_residual-in_err-other.ensures (other_missing _ _ _ _ l.place l.invariant c.loop-place-test.true _ c.link_at-link.ensures c.in_err-other.ensures)

pub returns-then-link : goal.returns-then-link
returns-then-link c =
    let l = c.loop-place in
    to_itself _ _ _ _ l.place l.invariant c.loop-place-test.true c.link_at-link.result c.link_at-link.ensures c.if-link.true

pub loop-place-preserved : goal.loop-place-preserved
loop-place-preserved c =
    let l = c.loop-place in
    link_turn _ _ _ _ l.place l.invariant c.loop-place-test.true c.link_at-link.result c.link_at-link.ensures _ _ c.in_ok-one.ensures c.in_ok-other.ensures c.if-link.false
    c.single.result _ c.single-in-loop-place.result _ c.single.ensures c.joined.ensures c.single-in-loop-place.ensures c.joined-in-loop-place.ensures
