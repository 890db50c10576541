-- `pass`: no table, the number that refuses it, or the table with the pair recorded.
-- Assumes nothing.
use Rattle.std.proofs.lemmas.Result.{err_from_is_err_and}
use Rattle.octets.proofs.Words.{◌≡◌, refl, ap, ◌∙◌, false, true, ne_eqb, cond, not, eqb}
use Rattle.octets.specs.Refusals.{number_of, status_of}
use Rattle.route_passing.specs.Passes.{passed_head, pass_of}
use Rattle.route_table.specs.Outcomes.{found}
use Rattle.route_table.specs.declared.table.Head.{Head}
use Rattle.octets.proofs.RefusalLaws.{refusal_some}
use Rattle.route_bytes.specs.TableBytes.{table_bytes}
use Rattle.route_in_place.proofs.ChangeLaws.{changed_none, changed_refused, changed_accepted, Asked, refused_before, pass-refusal, pass-table, unpassed}
use Rattle.route_in_place.proofs.JudgedLaws.{judged-holds, judged-found}
use Rattle.route_in_place.proofs.changing.pass.Goals as goal
use Rattle.route_in_place.proofs.changing.pass.Goals.{After-why_not_passed}

-- once it is known why not
asked : (d : After-why_not_passed) → Asked d.args.table.now (status_of d.args.before) d.args.network d.args.passing d.args.delay d.args.time (status_of d.why_not_passed.result)
asked d =
    let a = d.args in
    record {
      holds = judged-holds a.table.now a.passing.original_source _ d.in-Some.ensures true refl;
      unrefused = ap status_of d.in_ok-before.was;
      head = d.head_of-head.result;
      row = d.in-Some.row;
      found = found d.found_by-route.result;
      headed = d.head_of-head.ensures;
      looked = judged-found a.table.now a.passing.original_source _ d.in-Some.ensures refl;
      told = d.found_by-route.ensures;
      why_not = d.why_not_passed.ensures;
    }

pub returns-in_default : goal.returns-in_default
returns-in_default c =
    let a = c.args in
    changed_none a.table.now (λ t. pass_of t (status_of a.before) a.network a.passing a.delay a.time (status_of a.behind)) (unpassed (status_of a.before) a.network a.passing a.delay a.time (status_of a.behind))
    (judged-holds a.table.now a.passing.original_source _ c.in_default.ensures false refl)

pub returns-in_err-before : goal.returns-in_err-before
returns-in_err-before c =
    let a = c.args in
    let r = c.in_err-before.field-0.0 in
    let p = err_from_is_err_and c.from_residual.result c.from_residual.ensures.1 in
    let holds = judged-holds a.table.now a.passing.original_source _ c.in-Some.ensures true refl in
    rw (p.1, p.2, c.in_err-before.was)
    (changed_refused a.table.now (λ t. pass_of t (number_of r) a.network a.passing a.delay a.time (status_of a.behind)) (number_of r) holds
    (refused_before a.table.now (number_of r) a.network a.passing a.delay a.time (status_of a.behind) holds (refusal_some r)) (refusal_some r))

pub returns-in_err-why_not_passed : goal.returns-in_err-why_not_passed
returns-in_err-why_not_passed c =
    let k = asked ((goal.at.returns-in_err-why_not_passed c).After-why_not_passed) in
    let r = c.in_err-why_not_passed.field-0.0 in
    let p = err_from_is_err_and c.from_residual-in_err-why_not_passed.result c.from_residual-in_err-why_not_passed.ensures.1 in
    let last : number_of r ≡ cond (not (eqb (status_of c.why_not_passed.result) 0)) (status_of c.why_not_passed.result) (status_of c.args.behind) =
    rw (c.in_err-why_not_passed.was, ne_eqb (number_of r) 0 (refusal_some r)) in
    rw (p.1, p.2) (changed_refused _ (λ t. pass_of t _ _ _ _ _ _) (number_of r) k.holds (pass-refusal _ _ _ _ _ _ (status_of c.args.behind) _ k (number_of r) last) (refusal_some r))

pub returns-in_err-behind : goal.returns-in_err-behind
returns-in_err-behind c =
    let k = asked ((goal.at.returns-in_err-behind c).After-why_not_passed) in
    let r = c.in_err-behind.field-0.0 in
    let p = err_from_is_err_and c.from_residual-in_err-behind.result c.from_residual-in_err-behind.ensures.1 in
    let last : number_of r ≡ cond (not (eqb (status_of c.why_not_passed.result) 0)) (status_of c.why_not_passed.result) (status_of c.args.behind) =
    rw (c.in_ok-why_not_passed.was, c.in_err-behind.was) in
    rw (p.1, p.2) (changed_refused _ (λ t. pass_of t _ _ _ _ _ _) (number_of r) k.holds (pass-refusal _ _ _ _ _ _ (status_of c.args.behind) _ k (number_of r) last) (refusal_some r))

pub renew-requires : goal.renew-requires
renew-requires c = (asked ((goal.at.renew-requires c).After-why_not_passed)).holds

pub returns : goal.returns
returns c =
    let d = (goal.at.returns c).After-why_not_passed in
    let k = asked d in
    let last : 0 ≡ cond (not (eqb (status_of c.why_not_passed.result) 0)) (status_of c.why_not_passed.result) (status_of c.args.behind) =
    rw (c.in_ok-why_not_passed.was, c.in_ok-behind.was) in
    changed_accepted _ (λ t. pass_of t _ _ _ _ _ _) 0 k.holds (pass-refusal _ _ _ _ _ _ (status_of c.args.behind) _ k 0 last) refl _
    (c.renew.ensures ∙
    ap table_bytes (pass-table _ _ _ _ _ _ (status_of c.args.behind) _ k last c.passed_head.result (c.passed_head.ensures ∙ ap (λ (h : Head). passed_head h c.args.passing c.args.time) d.head_of-head.ensures)))
