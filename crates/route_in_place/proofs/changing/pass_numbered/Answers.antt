-- `pass_numbered`: no table, the number that refuses it, or the table with the pair recorded.
-- Assumes nothing.
use Rattle.octets.proofs.Words.{◌≡◌, refl, sym, ap, ◌∙◌, false, true, cond, not, eqb, ℕ}
use Rattle.octets.specs.Answers.{first}
use Rattle.route_passing.specs.Passes.{passed_head, pass_reasons, pass_of}
use Rattle.route_passing.proofs.PassLaws.{in_turn}
use Rattle.route_table.specs.declared.table.Head.{Head}
use Rattle.route_bytes.specs.TableBytes.{table_in, table_bytes, holds_table}
use Rattle.route_bytes.proofs.TableByteLaws.{rows_in_lem}
use Rattle.route_in_place.proofs.ChangeLaws.{changed_none, changed_refused, changed_accepted, pass-first, passed-table, unpassed}
use Rattle.route_in_place.proofs.JudgedLaws.{judged-holds, judged-found, judged-rule, judged-length}
use Rattle.route_in_place.proofs.changing.pass_numbered.Goals as goal
use Rattle.route_in_place.proofs.changing.pass_numbered.Goals.{After-either-refused}

-- the bytes hold a table, and what the code computes is the first of the reasons
holds : (d : After-either-refused) → holds_table d.args.table.now ≡ true
holds d = judged-holds d.args.table.now d.args.passing.original_source _ d.in-Some.ensures true refl

number : (d : After-either-refused) → d.either-refused.result ≡ first (pass_reasons (table_in d.args.table.now) d.args.before d.args.network d.args.passing d.args.delay d.args.time d.args.behind)
number d =
    let a = d.args in
    let s = a.table.now in
    let looked = judged-found s a.passing.original_source _ d.in-Some.ensures refl in
    let by_row = d.status-unpassed.ensures ∙ (d.why_not_passed.ensures ∙ rw (d.found_by-route.ensures, looked, rows_in_lem s (judged-length s (holds d)), d.head_of-head.ensures)) in
    d.either-refused.ensures ∙
    (ap (λ (n : ℕ). cond (not (eqb a.before 0)) a.before n) d.either.ensures ∙
    in_turn (table_in s) a.before a.network a.passing a.delay a.time a.behind (judged-rule s (holds d)) d.status-unpassed.result by_row)

pub returns-in_default : goal.returns-in_default
returns-in_default c =
    let a = c.args in
    rw c.number.ensures
    (changed_none a.table.now (λ t. pass_of t a.before a.network a.passing a.delay a.time a.behind) (unpassed a.before a.network a.passing a.delay a.time a.behind)
    (judged-holds a.table.now a.passing.original_source _ c.in_default.ensures false refl))

pub returns-then-refused-ne0 : goal.returns-then-refused-ne0
returns-then-refused-ne0 c =
    let d = (goal.at.returns-then-refused-ne0 c).After-either-refused in
    changed_refused _ (λ t. pass_of t _ _ _ _ _ _) _ (holds d) (pass-first _ _ _ _ _ _ _ _ (number d)) c.if-refused-ne0.true

pub renew-requires : goal.renew-requires
renew-requires c = holds ((goal.at.renew-requires c).After-either-refused)

pub returns : goal.returns
returns c =
    let d = (goal.at.returns c).After-either-refused in
    let none = sym c.if-refused-ne0.false ∙ number d in
    changed_accepted _ (λ t. pass_of t _ _ _ _ _ _) 0 (holds d) (pass-first _ _ _ _ _ _ _ 0 none) refl _
    (c.renew.ensures ∙
    ap table_bytes (passed-table _ _ _ _ _ _ _ (holds d) none c.passed_head-passed.result (c.passed_head-passed.ensures ∙ ap (λ (h : Head). passed_head h c.args.passing c.args.time) d.head_of-head.ensures)))
