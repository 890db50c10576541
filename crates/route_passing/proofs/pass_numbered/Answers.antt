-- `pass_numbered`: the first number, or the pair and the time recorded over the rows that stand.
-- Assumes nothing.
use Rattle.octets.proofs.Words.{◌≡◌, sym, ap, ◌∙◌, not, cond, eqb, ℕ}
use Rattle.octets.specs.Answers.{first}
use Rattle.route_passing.specs.Passes.{pass_reasons}
use Rattle.route_passing.proofs.PassLaws.{in_turn, numbered_none, numbered_refused, numbered_passed}
use Rattle.route_passing.proofs.pass_numbered.Goals as goal
use Rattle.route_passing.proofs.pass_numbered.Goals.{After-either-refused}

-- what the code computes is the first of the reasons
number : (d : After-either-refused) → d.either-refused.result ≡ first (pass_reasons d.args.table d.args.before d.args.network d.args.passing d.args.delay d.args.time d.args.behind)
number d =
    let a = d.args in
    let w = sym d.within_rule.ensures ∙ d.if-not-within_rule.false in
    let by_row = d.status-unpassed.ensures ∙ (d.why_not_passed.ensures ∙ rw (d.route_to-route.ensures, d.head-head.ensures)) in
    d.either-refused.ensures ∙
    (ap (λ (n : ℕ). cond (not (eqb a.before 0)) a.before n) d.either.ensures ∙ in_turn a.table a.before a.network a.passing a.delay a.time a.behind w d.status-unpassed.result by_row)

pub returns-then-not-within_rule : goal.returns-then-not-within_rule
returns-then-not-within_rule c =
    let a = c.args in
    numbered_none a.table a.before a.network a.passing a.delay a.time a.behind (sym c.within_rule.ensures ∙ c.if-not-within_rule.true) c.number.result c.number.ensures

pub returns-then-refused-ne0 : goal.returns-then-refused-ne0
returns-then-refused-ne0 c =
    let a = c.args in
    numbered_refused a.table a.before a.network a.passing a.delay a.time a.behind _ (number ((goal.at.returns-then-refused-ne0 c).After-either-refused)) c.if-refused-ne0.true

pub returns : goal.returns
returns c =
    let a = c.args in
    rw c.placed.ensures
    (numbered_passed a.table a.before a.network a.passing a.delay a.time a.behind c.passed_head.result c.standing_places-rows.result c.standing_places-rows.ensures.1
    (sym c.if-refused-ne0.false ∙ number ((goal.at.returns c).After-either-refused)) (c.passed_head.ensures ∙ rw c.head-head.ensures) c.standing_places-rows.ensures.0)
