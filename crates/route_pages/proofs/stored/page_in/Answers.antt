-- `page_in`: no table, or the page with the rows that are read.
-- Assumes nothing.
use Rattle.octets.proofs.Words.{◌≡◌, ◌∙◌, true, false, arith, rules}
use Rattle.std.specs.Prelude.{Err}
use Rattle.octets.specs.declared.refusals.Refusal.TheVariants.{Rule}
use Rattle.route_bytes.specs.TableBytes.{table_in, holds_table}
use Rattle.route_in_place.proofs.JudgedLaws.{judged-rule}
use Rattle.route_pages.proofs.PageLaws.{page-with}
use Rattle.route_pages.proofs.StoredLaws.{in_none, in_held, on-page}
use Rattle.route_pages.proofs.stored.page_in.Goals as goal

pub returns-in_err-refuse_if : goal.returns-in_err-refuse_if
returns-in_err-refuse_if c =
    let a = c.args in
    let e : c.from_residual.result ≡ Err Rule = grind arith in
    let none : holds_table a.table.now ≡ false = search rules in
    rw e (in_none a.table.now a.number a.time a.out.now none)

pub returns : goal.returns
returns c =
    let a = c.args in
    let one : holds_table a.table.now ≡ true = search rules in
    c.put_page.ensures ∙
    (rw c.head_of-head.ensures (page-with (table_in a.table.now) a.number a.time a.out.now (judged-rule _ one) _ (on-page a.table.now a.number a.time one _ c.rows_on-count.ensures.0))
    ∙ in_held a.table.now a.number a.time a.out.now one)
