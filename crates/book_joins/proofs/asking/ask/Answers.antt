-- `ask`: a member's slots after its request, or the number that refuses it.
-- Assumes nothing.
use Rattle.std.proofs.Common.{Some, None}
use Rattle.octets.proofs.Words.{◌≡◌, sym, ap, ◌∙◌, Bool, cond, arith, rules, ltb, length}
use Rattle.octets.specs.Answers.{first}
use Rattle.slot_sets.specs.Sets.{slots_of}
use Rattle.book.specs.Books.{contents}
use Rattle.book.proofs.VisitLaws.{gone, within}
use Rattle.book_joins.specs.Joins.{ask_of, ask_reasons}
use Rattle.book_joins.proofs.AnswerLaws.{passed, Asking, asking}
use Rattle.book_joins.proofs.asking.ask.Goals as goal
use Rattle.book_joins.proofs.asking.ask.Goals.{After-bytes_for}

-- what is known before the room is looked at
known : (c : After-bytes_for) → let a = c.args in
    Asking a.book a.time a.frame.now c.of-request.result.node c.in_ok-at.at (slots_of c.asks-slots.result) c.bytes_for.result
known c =
    let a = c.args in
    let (own, place, spaces, empty, few) = c.counted-census.ensures in
    let found : c.counted-census.result.own ≡ Some c.in_ok-at.at = grind arith in
    asking a.book a.time a.frame.now c.current-rows.result c.used.result.now c.current-rows.ensures c.used.ensures.0 c.of-request.result c.in_ok-at.at _ _ _ c.bytes_for.result
    c.of-request.ensures (sym own ∙ found) spaces empty c.asks-slots.ensures c.bytes_for.ensures

judged : (c : After-bytes_for) → let a = c.args in
    first (ask_reasons (contents a.book) a.frame.now a.time (length a.out.now)) ≡ cond (ltb (length a.out.now) c.bytes_for.result) 5 0
judged c =
    let k = known c in
    let member = k.member in
    let long = k.long in
    search rules

pub returns-in_err-at : goal.returns-in_err-at
unfolding ask_of
returns-in_err-at c =
    let a = c.args in
    let none : c.counted-census.result.own ≡ None = grind arith in
    let none = gone a.book c.of-request.result.node a.time c.current-rows.result c.used.result.now c.current-rows.ensures c.used.ensures.0 (sym c.counted-census.ensures.0 ∙ none) in
    search rules

pub bounds-rows-at : goal.bounds-rows-at
bounds-rows-at c =
    let a = c.args in
    let found : c.counted-census.result.own ≡ Some c.in_ok-at.at = grind arith in
    let below = within a.book c.of-request.result.node a.time c.current-rows.result c.used.result.now c.current-rows.ensures c.used.ensures.0 c.in_ok-at.at (sym c.counted-census.ensures.0 ∙ found) in
    omega arith

pub returns-in_err-refuse_if-4 : goal.returns-in_err-refuse_if-4
unfolding ask_of
returns-in_err-refuse_if-4 c =
    let j = judged ((goal.at.returns-in_err-refuse_if-4 c).After-bytes_for) in
    rw j (search rules)

pub settle-requires-clause-there : goal.settle-requires-clause-there
settle-requires-clause-there c =
    let a = c.args in
    let found : c.counted-census.result.own ≡ Some c.in_ok-at.at = grind arith in
    let below = within a.book c.of-request.result.node a.time c.current-rows.result c.used.result.now c.current-rows.ensures c.used.ensures.0 c.in_ok-at.at (sym c.counted-census.ensures.0 ∙ found) in
    omega arith

pub returns : goal.returns
unfolding ask_of
returns c =
    let d = (goal.at.returns c).After-bytes_for in
    let none : first (ask_reasons (contents d.args.book) d.args.frame.now d.args.time (length d.args.out.now)) ≡ 0 = judged d ∙ ap (λ (t : Bool). cond t 5 0) (passed _ _ c.in_ok-refuse_if-4.ensures) in
    c.settle.ensures ∙ ((known d).gives c.args.out.now ∙ rw none)
