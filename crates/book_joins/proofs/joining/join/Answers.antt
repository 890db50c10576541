-- `join`: a seat and its slots, or the number that refuses the unit.
-- Assumes nothing.
use Rattle.std.proofs.Common.{Some}
use Rattle.octets.proofs.Words.{◌≡◌, ◌<◌, ℕ, sym, ap, ◌∙◌, ⊎_elim, Bool, cond, arith, rules, ltb, length}
use Rattle.octets.specs.Answers.{first}
use Rattle.slot_sets.specs.Sets.{slots_of}
use Rattle.book.specs.Books.{contents}
use Rattle.book.proofs.VisitLaws.{within}
use Rattle.book_joins.specs.Joins.{join_of, join_reasons}
use Rattle.book_joins.proofs.AnswerLaws.{passed, one_or_other, neither_of, Joining, rejoining, joining, full}
use Rattle.book_joins.proofs.joining.join.Goals as goal
use Rattle.book_joins.proofs.joining.join.Goals.{After-current-rows, After-bytes_for, in-Some, in-None}

-- what is known before the room is looked at
known : (c : After-bytes_for) → let a = c.args in
    Joining a.book a.time a.frame.now c.of-request.result.node c.in_ok-at.at (slots_of c.match-census.slots) c.bytes_for.result
known c =
    let a = c.args in
    let (own, place, spaces, empty, few) = c.counted-census.ensures in
    elim c.match-census.branch [
      | in-Some w ↦
          let found : c.counted-census.result.own ≡ Some c.in_ok-at.at = grind arith in
          rw w.slots-is (rejoining a.book a.time a.frame.now c.current-rows.result c.used.result.now c.current-rows.ensures c.used.ensures.0 c.of-request.result c.in_ok-at.at c.bytes_for.result
          c.of-request.ensures (sym own ∙ found) (c.bytes_for.ensures ∙ rw w.slots-is))
      | in-None w ↦
          let free : c.counted-census.result.place ≡ Some c.in_ok-at.at = grind arith in
          joining a.book a.time a.frame.now c.current-rows.result c.used.result.now c.current-rows.ensures c.used.ensures.0 c.of-request.result c.in_ok-at.at _ _ _ c.bytes_for.result
          c.of-request.ensures (sym own ∙ w.in-None.is) (sym place ∙ free) spaces empty (rw w.slots-is w.granted-slots.ensures) c.bytes_for.ensures
    ]

judged : (c : After-bytes_for) → let a = c.args in
    first (join_reasons (contents a.book) a.frame.now a.time (length a.out.now)) ≡ cond (ltb (length a.out.now) c.bytes_for.result) 5 0
judged c =
    let k = known c in
    let some = k.some in
    let long = k.long in
    search rules

pub returns-in_err-at : goal.returns-in_err-at
unfolding join_of
returns-in_err-at c =
    let a = c.args in
    let none = neither_of c.counted-census.result.own c.counted-census.result.place (grind arith) in
    let none = full a.book a.time a.frame.now c.current-rows.result c.used.result.now c.current-rows.ensures c.used.ensures.0 c.of-request.result c.of-request.ensures
    (sym c.counted-census.ensures.0 ∙ none.0) (sym c.counted-census.ensures.1 ∙ none.1) in
    search rules

pub bounds-rows-at : goal.bounds-rows-at
bounds-rows-at c =
    let a = c.args in
    let found : c.counted-census.result.own ≡ Some c.in_ok-at.at = grind arith in
    let below = within a.book c.of-request.result.node a.time c.current-rows.result c.used.result.now c.current-rows.ensures c.used.ensures.0 c.in_ok-at.at (sym c.counted-census.ensures.0 ∙ found) in
    omega arith

pub returns-in_err-refuse_if-5 : goal.returns-in_err-refuse_if-5
unfolding join_of
returns-in_err-refuse_if-5 c =
    let j = judged ((goal.at.returns-in_err-refuse_if-5 c).After-bytes_for) in
    rw j (search rules)

pub settle-requires-clause-there : goal.settle-requires-clause-there
settle-requires-clause-there c =
    let a = c.args in
    let below = λ (unit : ℕ). within a.book unit a.time c.current-rows.result c.used.result.now c.current-rows.ensures c.used.ensures.0 c.in_ok-at.at in
    let there : c.in_ok-at.at < length c.used.result.now = ⊎_elim
    (λ e. below c.of-request.result.node (sym c.counted-census.ensures.0 ∙ e))
    (λ e. below 0 (sym c.counted-census.ensures.1 ∙ e.1))
    (one_or_other c.counted-census.result.own c.counted-census.result.place c.in_ok-at.at (grind arith)) in
    omega arith

pub returns : goal.returns
unfolding join_of
returns c =
    let d = (goal.at.returns c).After-bytes_for in
    let none : first (join_reasons (contents d.args.book) d.args.frame.now d.args.time (length d.args.out.now)) ≡ 0 = judged d ∙ ap (λ (t : Bool). cond t 5 0) (passed _ _ c.in_ok-refuse_if-5.ensures) in
    c.settle.ensures ∙ ((known d).gives c.args.out.now ∙ rw none)
