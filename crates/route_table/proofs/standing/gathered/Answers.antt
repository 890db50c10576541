-- `gathered`'s loop gathers the standing rows of the places passed.
-- Assumes nothing.
use Rattle.octets.proofs.Words.{sym, ◌∙◌, refl, arith, rules}
use Rattle.route_table.specs.Rows.{pad}
use Rattle.route_table.proofs.RowLaws.{gathered_end, gathered-last, gathered_skip, gathered_push}
use Rattle.route_table.proofs.standing.gathered.Goals as goal

pub loop-row-init : goal.loop-row-init
unfolding pad
loop-row-init c = record { within = search rules; few = search rules; counted = refl; held = refl; rest = refl }

pub returns-then-row-eq0 : goal.returns-then-row-eq0
returns-then-row-eq0 c =
    let l = c.loop-row in
    let a = c.args in
    gathered_end a.time a.rows (search rules) l.row-index l.n l.out l.invariant (omega arith) c.if-row-eq0.true

pub loop-row-preserved-then-not-stands : goal.loop-row-preserved-then-not-stands
loop-row-preserved-then-not-stands c =
    let l = c.loop-row in
    let a = c.args in
    gathered_skip a.time a.rows (search rules) l.row-index l.n l.out l.invariant (omega arith) c.if-row-eq0.false (sym c.stands.ensures ∙ c.if-not-stands.true)

pub loop-row-preserved : goal.loop-row-preserved
loop-row-preserved c =
    let l = c.loop-row in
    let a = c.args in
    gathered_push a.time a.rows (search rules) l.row-index l.n l.out l.invariant (omega arith) c.if-row-eq0.false (sym c.stands.ensures ∙ c.if-not-stands.false)

pub returns : goal.returns
returns c =
    let l = c.loop-row in
    let a = c.args in
    gathered-last a.time a.rows (search rules) l.row-index l.n l.out l.invariant (omega arith)
