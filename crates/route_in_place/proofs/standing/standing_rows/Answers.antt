-- `standing_rows`'s loop: the rows that stand among the places passed are at the front.
-- Assumes nothing.
use Rattle.octets.proofs.Words.{sym, ◌∙◌, rules}
use Rattle.route_table.specs.Rows.{pad}
use Rattle.route_in_place.proofs.FindLaws.{gather-first, gather_end, gather_skip, gather_push, gather-last}
use Rattle.route_in_place.proofs.standing.standing_rows.Goals as goal

pub loop-place-init : goal.loop-place-init
unfolding pad
loop-place-init c = gather-first _ _

pub returns-then-row-eq0 : goal.returns-then-row-eq0
returns-then-row-eq0 c =
    let a = c.args in
    gather_end a.s.now c.loop-place.place (search rules) c.row_at-row.result c.row_at-row.ensures a.time c.loop-place.n c.loop-place.out c.loop-place.invariant c.if-row-eq0.true

pub loop-place-preserved-then-not-stands : goal.loop-place-preserved-then-not-stands
loop-place-preserved-then-not-stands c =
    let a = c.args in
    gather_skip a.s.now c.loop-place.place (search rules) c.row_at-row.result c.row_at-row.ensures a.time c.loop-place.n c.loop-place.out c.loop-place.invariant c.if-row-eq0.false (sym c.stands.ensures ∙ c.if-not-stands.true)

pub loop-place-preserved : goal.loop-place-preserved
loop-place-preserved c =
    let a = c.args in
    gather_push a.s.now c.loop-place.place (search rules) c.row_at-row.result c.row_at-row.ensures a.time c.loop-place.n c.loop-place.out c.loop-place.invariant c.if-row-eq0.false (sym c.stands.ensures ∙ c.if-not-stands.false)

pub returns : goal.returns
returns c =
    let a = c.args in
    gather-last a.s.now c.loop-place.place a.time c.loop-place.n c.loop-place.out c.loop-place.invariant (search rules)
