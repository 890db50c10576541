-- `Book::schedule`: the kinds of the slots, or the number that refuses it.
-- Assumes nothing.
use Rattle.octets.proofs.Words.{◌≡◌, sym, ◌∙◌, ◌≤◌, arith, rules, length, length-take, ap}
use Rattle.std.proofs.Common.{Some, None}
use Rattle.book.specs.Schedules.{schedule_of}
use Rattle.book.proofs.VisitLaws.{gone, live, place, within, row_there}
use Rattle.book.proofs.ScheduleLaws.{scheduled}
use Rattle.site_plan.proofs.PlanLaws.{few-slots}
use Rattle.book_members.specs.Members.{Row}
use Rattle.book.specs.Books.{contents}
use Rattle.std.proofs.lemmas.Bool.Decides.{nat_tests}
use Rattle.book.proofs.book.Book.schedule.Goals as goal

pub returns-in_err-at : goal.returns-in_err-at
unfolding schedule_of
returns-in_err-at c =
    let a = c.args in
    let none : c.place_for.result ≡ None = grind arith in
    let none = gone a.self a.unit a.time c.current-rows.result c.used.result.now c.current-rows.ensures c.used.ensures.0 (sym c.place_for.ensures ∙ none) in
    search rules

pub returns-in_err-refuse_if-2 : goal.returns-in_err-refuse_if-2
unfolding schedule_of
returns-in_err-refuse_if-2 c =
    let a = c.args in
    let some : c.place_for.result ≡ Some c.in_ok-at.at = grind arith in
    let is_live = live a.self a.unit a.time c.current-rows.result c.used.result.now c.current-rows.ensures c.used.ensures.0 c.in_ok-at.at (sym c.place_for.ensures ∙ some) in
    search rules

pub bounds-rows-at : goal.bounds-rows-at
bounds-rows-at c =
    let a = c.args in
    let some : c.place_for.result ≡ Some c.in_ok-at.at = grind arith in
    let below = within a.self a.unit a.time c.current-rows.result c.used.result.now c.current-rows.ensures c.used.ensures.0 c.in_ok-at.at (sym c.place_for.ensures ∙ some) in
    omega arith

pub put_kinds-requires : goal.put_kinds-requires
put_kinds-requires c = omega (arith, c.slots-count.ensures, few-slots c.args.self.plan, length-take c.slots-count.result c.args.out.now)

pub returns : goal.returns
unfolding schedule_of
returns c =
    let a = c.args in
    let some : c.place_for.result ≡ Some c.in_ok-at.at = grind arith in
    let p = sym c.place_for.ensures ∙ some in
    let is_live = live a.self a.unit a.time c.current-rows.result c.used.result.now c.current-rows.ensures c.used.ensures.0 c.in_ok-at.at p in
    let there = place a.self a.unit a.time c.current-rows.result c.used.result.now c.current-rows.ensures c.used.ensures.0 c.in_ok-at.at p in
    let row = row_there a.self a.unit a.time c.current-rows.result c.used.result.now c.current-rows.ensures c.used.ensures.0 c.in_ok-at.at p in
    let room : c.slots-count.result ≤ length a.out.now = grind (arith, nat_tests) in
    let same = scheduled (contents a.self) a.unit a.hop a.time c.in_ok-at.at _ a.out.now _ c.slots-count.result c.slots-count.ensures room there (ap (λ (r : Row). r.slots) row) c.put_kinds.ensures in
    rw (same, c.slots-count.ensures) (search rules)
