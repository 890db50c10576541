-- `keep_rows`'s loop: the rows kept, with those that are left stored behind them, are all.
-- Assumes nothing.
use Rattle.octets.proofs.Words.{refl, sym, ◌∙◌, arith, rules}
use Rattle.route_in_place.proofs.JudgedLaws.{judged-length}
use Rattle.route_in_place.proofs.KeepLaws.{keep-first, keep_end, keep-last, keep_skip, keep_stay, keep-put}
use Rattle.route_in_place.proofs.changing.keep_rows.Goals as goal

pub loop-place-init : goal.loop-place-init
loop-place-init c = keep-first _ _ _ (judged-length _ c.requires) (record { small = λ i. omega (arith, c.type_inv.table i) })

pub returns-then-row-eq0 : goal.returns-then-row-eq0
returns-then-row-eq0 c =
    let a = c.args in
    keep_end a.table.now c.requires c.loop-place.table a.unit a.time c.loop-place.count c.loop-place.place c.loop-place.invariant (search rules) c.row_in-row.result c.row_in-row.ensures c.if-row-eq0.true

pub loop-place-preserved-then-not-stands : goal.loop-place-preserved-then-not-stands
loop-place-preserved-then-not-stands c =
    let a = c.args in
    keep_skip a.table.now c.requires c.loop-place.table a.unit a.time c.loop-place.count c.loop-place.place c.loop-place.invariant (search rules) c.row_in-row.result c.row_in-row.ensures c.if-row-eq0.false (sym c.stands.ensures ∙ c.if-not-stands.true)

pub loop-place-preserved-then-start-from : goal.loop-place-preserved-then-start-from
loop-place-preserved-then-start-from c =
    let a = c.args in
    keep_stay a.table.now c.requires c.loop-place.table a.unit a.time c.loop-place.count c.loop-place.place c.loop-place.invariant (search rules) c.row_in-row.result c.row_in-row.ensures c.if-row-eq0.false (sym c.stands.ensures ∙ c.if-not-stands.false)
    (rw c.lost.ensures at c.if-start-from.true)

pub loop-place-preserved : goal.loop-place-preserved
loop-place-preserved c =
    let a = c.args in
    keep-put a.table.now c.requires c.loop-place.table a.unit a.time c.loop-place.count c.loop-place.place c.loop-place.invariant (search rules) c.row_in-row.result c.row_in-row.ensures c.if-row-eq0.false (sym c.stands.ensures ∙ c.if-not-stands.false)
    c.forgotten.result _ c.forgotten.ensures c.put_row.ensures _ refl (search rules)

pub shape_of-table : goal.shape_of-table
shape_of-table c =
    c.loop-place.invariant.long ∙ sym (judged-length _ c.requires)

pub returns : goal.returns
returns c =
    let a = c.args in
    keep-last a.table.now c.requires c.loop-place.table a.unit a.time c.loop-place.count c.loop-place.place c.loop-place.invariant (search rules)
