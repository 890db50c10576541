-- `Book::leave`: a live member's row freed.
-- Assumes nothing.
use Rattle.std.proofs.Common.{◌≡◌, ◌∙◌, sym, arith, rules, Some, None}
use Rattle.book.specs.Books.{leave_of}
use Rattle.book.proofs.VisitLaws.{gone, live, within, leaves}
use Rattle.book.proofs.book.Book.leave.Goals as goal

pub returns-in_err-at : goal.returns-in_err-at
unfolding leave_of
returns-in_err-at c =
    let a = c.args in
    let none : c.place_for.result ≡ None = grind arith in
    let none = gone a.self a.unit a.time c.current-rows.result c.used.result.now c.current-rows.ensures c.used.ensures.0 (sym c.place_for.ensures ∙ none) in
    search rules

pub bounds-rows-at : goal.bounds-rows-at
bounds-rows-at c =
    let a = c.args in
    let some : c.place_for.result ≡ Some c.in_ok-at.at = grind arith in
    let below = within a.self a.unit a.time c.current-rows.result c.used.result.now c.current-rows.ensures c.used.ensures.0 c.in_ok-at.at (sym c.place_for.ensures ∙ some) in
    omega arith

pub returns : goal.returns
unfolding leave_of
returns c =
    let a = c.args in
    let some : c.place_for.result ≡ Some c.in_ok-at.at = grind arith in
    let is_live = live a.self a.unit a.time c.current-rows.result c.used.result.now c.current-rows.ensures c.used.ensures.0 c.in_ok-at.at (sym c.place_for.ensures ∙ some) in
    let same = leaves a.self a.unit a.time c.current-rows.result c.used.result.now c.current-rows.ensures c.used.ensures.0 c.in_ok-at.at (sym c.place_for.ensures ∙ some) in
    search rules
