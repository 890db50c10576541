-- `forget`: no table, the number that refuses it, or the table without the unit.
-- Assumes nothing.
use Rattle.std.proofs.lemmas.Result.{err_from_is_err_and}
use Rattle.octets.proofs.Words.{refl, sym, ap, ◌∙◌}
use Rattle.octets.specs.Refusals.{number_of}
use Rattle.route_table.specs.Tables.{forget_of}
use Rattle.octets.proofs.RefusalLaws.{refusal_some}
use Rattle.route_bytes.specs.TableBytes.{table_bytes}
use Rattle.route_in_place.proofs.ChangeLaws.{changed_none, changed_refused, changed_accepted, forget-number, forget-table, unforgotten}
use Rattle.route_in_place.proofs.changing.forget.Goals as goal

pub returns-then-not-holds_table : goal.returns-then-not-holds_table
returns-then-not-holds_table c =
    let a = c.args in
    changed_none a.table.now (λ t. forget_of t a.unit a.time) (unforgotten a.unit a.time) (sym c.holds_table.ensures ∙ c.if-not-holds_table.true)

pub returns-in_err-why_unforgotten : goal.returns-in_err-why_unforgotten
returns-in_err-why_unforgotten c =
    let a = c.args in
    let r = c.in_err-why_unforgotten.field-0.0 in
    let p = err_from_is_err_and c.from_residual.result c.from_residual.ensures.1 in
    let holds = sym c.holds_table.ensures ∙ c.if-not-holds_table.false in
    rw (p.1, p.2)
    (changed_refused a.table.now (λ t. forget_of t a.unit a.time) (number_of r) holds
    (forget-number a.table.now holds c.head_of-head.result c.head_of-head.ensures a.unit a.time (number_of r) c.in_err-why_unforgotten.ensures) (refusal_some r))

pub renew-requires : goal.renew-requires
renew-requires c = sym c.holds_table.ensures ∙ c.if-not-holds_table.false

pub returns : goal.returns
returns c =
    let a = c.args in
    let head = c.head_of-head in
    let holds = sym c.holds_table.ensures ∙ c.if-not-holds_table.false in
    let why = c.in_ok-why_unforgotten.ensures in
    changed_accepted a.table.now (λ t. forget_of t a.unit a.time) 0 holds (forget-number a.table.now holds head.result head.ensures a.unit a.time 0 why) refl _
    (c.renew.ensures ∙ ap table_bytes (forget-table a.table.now holds head.result head.ensures a.unit a.time 0 why refl))
