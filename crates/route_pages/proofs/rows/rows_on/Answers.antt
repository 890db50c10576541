-- `rows_on`'s loop: the rows that are on the page, with those that are left, are all.
-- Assumes nothing.
use Rattle.octets.proofs.Words.{sym, ◌∙◌, arith}
use Rattle.route_pages.proofs.WalkLaws.{page-full, page_gone, page-skipped, page-more, page-end, none-past, none_left}
use Rattle.route_pages.proofs.rows.rows_on.Goals as goal

pub returns-then-row-eq0 : goal.returns-then-row-eq0
returns-then-row-eq0 c =
    let a = c.args in
    let l = c.loop-place in
    page-end a.s.now a.behind a.time l.place l.skip l.count l.page l.invariant
    (none_left a.s.now a.time l.place c.loop-place-test.true c.row_at-row.result c.row_at-row.ensures c.if-row-eq0.true)

pub loop-place-preserved-then-not-stands : goal.loop-place-preserved-then-not-stands
loop-place-preserved-then-not-stands c =
    let a = c.args in
    let l = c.loop-place in
    page_gone a.s.now a.behind a.time l.place l.skip l.count l.page l.invariant c.loop-place-test.true c.row_at-row.result c.row_at-row.ensures c.if-row-eq0.false
    (sym c.stands.ensures ∙ c.if-not-stands.true)

pub loop-place-preserved-then-skip-gt0 : goal.loop-place-preserved-then-skip-gt0
loop-place-preserved-then-skip-gt0 c =
    let a = c.args in
    let l = c.loop-place in
    page-skipped a.s.now a.behind a.time l.place l.skip l.count l.page l.invariant c.loop-place-test.true c.row_at-row.result c.row_at-row.ensures c.if-row-eq0.false
    (sym c.stands.ensures ∙ c.if-not-stands.false) c.if-skip-gt0.true

pub returns-then-count-eq24 : goal.returns-then-count-eq24
returns-then-count-eq24 c =
    let a = c.args in
    let l = c.loop-place in (
      page-full a.s.now a.behind a.time l.place l.skip l.count l.page l.invariant c.loop-place-test.true c.row_at-row.result c.row_at-row.ensures c.if-row-eq0.false
          (sym c.stands.ensures ∙ c.if-not-stands.false) (omega (arith, c.if-skip-gt0.false)) c.if-count-eq24.true,
      omega (arith, c.if-count-eq24.true),
    )

pub loop-place-preserved : goal.loop-place-preserved
loop-place-preserved c =
    let a = c.args in
    let l = c.loop-place in
    page-more a.s.now a.behind a.time l.place l.skip l.count l.page l.invariant c.loop-place-test.true c.row_at-row.result c.row_at-row.ensures c.if-row-eq0.false
    (sym c.stands.ensures ∙ c.if-not-stands.false) (omega (arith, c.if-skip-gt0.false)) c.if-count-eq24.false

pub returns : goal.returns
returns c =
    let a = c.args in
    let l = c.loop-place in
    page-end a.s.now a.behind a.time l.place l.skip l.count l.page l.invariant (none-past a.s.now a.time l.place (omega arith))
