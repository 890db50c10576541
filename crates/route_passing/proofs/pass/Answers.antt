-- `pass`: the first refusal, or the pair and the time recorded over the rows that stand.
-- Assumes nothing.
use Rattle.std.proofs.lemmas.Result.{err_from_is_err_and}
use Rattle.octets.proofs.Words.{◌≡◌, ◌∙◌, ne_eqb, rules, true}
use Rattle.octets.specs.Refusals.{number_of, status_of}
use Rattle.octets.proofs.RefusalLaws.{refusal_some}
use Rattle.route_table.specs.Tables.{within_rule}
use Rattle.route_passing.proofs.PassLaws.{asked, unpassed, passes}
use Rattle.route_passing.proofs.pass.Goals as goal

pub returns-in_err-why_not_passed : goal.returns-in_err-why_not_passed
returns-in_err-why_not_passed c =
    let a = c.args in
    let r = c.in_err-why_not_passed.field-0.0 in
    let p = err_from_is_err_and c.from_residual-in_err-why_not_passed.result c.from_residual-in_err-why_not_passed.ensures.1 in
    let w : within_rule a.table ≡ true = search rules in
    let z : status_of a.before ≡ 0 = search rules in
    let by_row = c.in_err-why_not_passed.ensures ∙ rw (c.route_to-route.ensures, c.head-head.ensures) in
    let number = asked a.table (status_of a.before) a.network a.passing a.delay a.time (status_of a.behind) w z (number_of r) by_row in
    rw (p.1, p.2)
    (unpassed a.table (status_of a.before) a.network a.passing a.delay a.time (status_of a.behind) r (rw (ne_eqb (number_of r) 0 (refusal_some r)) at number))

pub returns-in_err-behind : goal.returns-in_err-behind
returns-in_err-behind c =
    let a = c.args in
    let r = c.in_err-behind.field-0.0 in
    let p = err_from_is_err_and c.from_residual-in_err-behind.result c.from_residual-in_err-behind.ensures.1 in
    let w : within_rule a.table ≡ true = search rules in
    let z : status_of a.before ≡ 0 = search rules in
    let last : number_of r ≡ status_of a.behind = search rules in
    let by_row = c.in_ok-why_not_passed.ensures ∙ rw (c.route_to-route.ensures, c.head-head.ensures) in
    rw (p.1, p.2)
    (unpassed a.table (status_of a.before) a.network a.passing a.delay a.time (status_of a.behind) r
    (last ∙ asked a.table (status_of a.before) a.network a.passing a.delay a.time (status_of a.behind) w z 0 by_row))

pub returns : goal.returns
returns c =
    let a = c.args in
    let w : within_rule a.table ≡ true = search rules in
    let z : status_of a.before ≡ 0 = search rules in
    let last : 0 ≡ status_of a.behind = search rules in
    let by_row = c.in_ok-why_not_passed.ensures ∙ rw (c.route_to-route.ensures, c.head-head.ensures) in
    rw c.placed.ensures
    (passes a.table (status_of a.before) a.network a.passing a.delay a.time (status_of a.behind) c.passed_head.result c.standing_places-rows.result c.standing_places-rows.ensures.1
    (last ∙ asked a.table (status_of a.before) a.network a.passing a.delay a.time (status_of a.behind) w z 0 by_row)
    (c.passed_head.ensures ∙ rw c.head-head.ensures) c.standing_places-rows.ensures.0)
