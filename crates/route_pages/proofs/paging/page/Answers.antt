-- `page`: no table within rule, or the page with the rows on it.
-- Assumes nothing.
use Rattle.octets.proofs.Words.{◌≡◌, ap, ◌∙◌, true, false, arith, rules, length}
use Rattle.std.specs.Prelude.{Err}
use Rattle.std.specs.Option.{unwrap_or}
use Rattle.octets.specs.declared.refusals.Refusal.TheVariants.{Rule}
use Rattle.route_table.specs.Rows.{in_use}
use Rattle.route_table.specs.Tables.{within_rule}
use Rattle.route_table.proofs.StandingLaws.{in_use-fits}
use Rattle.route_pages.proofs.PageLaws.{page-none, page-with}
use Rattle.route_pages.proofs.PlaceLaws.{used-places, page-places}
use Rattle.route_pages.proofs.paging.page.Goals as goal
use Rattle.route_pages.proofs.paging.page.Goals.{After-unwrap_or-used}

pub returns-in_err-refuse_if : goal.returns-in_err-refuse_if
returns-in_err-refuse_if c =
    let a = c.args in
    let e : c.from_residual.result ≡ Err Rule = grind arith in
    let wrong : within_rule a.table ≡ false = search rules in
    rw e (page-none a.table a.number a.time a.out.now wrong)

-- as many places as are in use
used : (d : After-unwrap_or-used) → d.unwrap_or-used.result ≡ length (in_use d.standing_places-stand.result)
used d =
    let long : length d.standing_places-stand.result ≡ 48 = search rules in
    d.unwrap_or-used.ensures ∙ (ap (λ o. unwrap_or o 48) d.first_unused.ensures ∙ used-places d.standing_places-stand.result long)

pub slice_bounds-put_page-end : goal.slice_bounds-put_page-end
slice_bounds-put_page-end c =
    let d = (goal.at.slice_bounds-put_page-end c).After-unwrap_or-used in
    let long : length d.standing_places-stand.result ≡ 48 = search rules in
    omega (arith, used d, in_use-fits d.standing_places-stand.result long, c.min-to.ensures)

pub returns : goal.returns
returns c =
    let d = (goal.at.returns c).After-unwrap_or-used in
    let a = c.args in
    let right : within_rule a.table ≡ true = search rules in
    c.put_page.ensures ∙
    rw c.head.ensures
    (page-with a.table a.number a.time a.out.now right _ (page-places a.table a.number a.time _ _ _ _ c.standing_places-stand.ensures.0 (used d) c.min-from.ensures c.min-to.ensures))
