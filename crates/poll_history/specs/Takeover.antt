-- The winner takes over: the event `elected` makes it the manager, and its fresh book begins a new history, in which nothing counts that the old manager granted.
-- Assumes nothing.
use Rattle.std.specs.Prelude.{ℕ, ◌≡◌, true, false}
use Rattle.moments.specs.Moments.{in_order}
use Rattle.unit_life.specs.declared.state.State.{State}
use Rattle.unit_life.specs.Calls.{within_rule, moved_on, on_event}
use Rattle.unit_life.specs.States.{Normal, Manager, elected}
use Rattle.site_plan.specs.declared.plan.Plan.{Plan}
use Rattle.site_plan.specs.Plans.{plan_rule}
use Rattle.book.specs.Books.{fresh_book}
use Rattle.book_history.specs.Histories.{fresh, begun}

-- in Normal, at a time in order, the event is accepted and leads to Manager; elected stays an event of Normal alone
abbrev pub ElectedManages : Type 0
ElectedManages =
    (s : State) (time : ℕ) → within_rule s ≡ true → s.kind ≡ Normal → in_order s.last time ≡ true
    → on_event s elected time ≡ record { refused = 0; state = moved_on s Manager false time }

abbrev pub ElectedElsewhere : Type 0
ElectedElsewhere = (s : State) (time : ℕ) → (s.kind ≡ Normal → ⊥) → (on_event s elected time).refused ≡ 0 → ⊥

-- a fresh book of a plan within rule is how a history begins, as all of BookLaws has it: the manager alone has a row in it
abbrev pub BeginsAnew : Type 0
BeginsAnew = (p : Plan) (time : ℕ) → plan_rule p ≡ true → ((begun (fresh p time)).refused ≡ 0) × ((begun (fresh p time)).book ≡ fresh_book p time)
