-- What the calls on a plan return and leave.
-- Assumes nothing.
use Rattle.std.specs.Prelude.{ℕ, not, List, [], ◌∷◌, ltb, length}
use Rattle.std.proofs.lemmas.List.Edits.{sets}
use Rattle.octets.specs.Answers.{reason, first}
use Rattle.octets.specs.Calls.{after, stored}
use Rattle.site_plan.specs.Plans.{plan_numbers, plan_rule, plan_of}
use Rattle.site_plan.specs.PlanBytes.{plan_size, plan_from, plan_at, bytes_of_plan}
use Rattle.c_book.specs.BookCalls.{BookLeft, book_left}

-- ---- making one
-- only the number of the buffer's bytes matters, not what they were
unfoldable pub plan_call : List ℕ → ℕ → ℕ → ℕ → ℕ → ℕ → ℕ → ℕ → BookLeft
plan_call s network manager hops rows dataSlots ms beacon =
    let said = plan_of network manager hops rows dataSlots ms beacon in
    let status = stored plan_size s said.refusal in
    book_left status (after status s (bytes_of_plan (plan_from said.values)))

-- ---- its numbers: the status, and the buffer that they go to
pub record NumbersLeft : Type 0 where
  pub status : ℕ
  pub numbers : List ℕ

abbrev pub numbers_left : ℕ → List ℕ → NumbersLeft
numbers_left status numbers = record { status = status; numbers = numbers }

-- 14 for a buffer that has not a plan's size, 14 for a plan out of rule, 5 for too few places
unfoldable pub numbers_call : List ℕ → List ℕ → NumbersLeft
numbers_call s numbers =
    let p = plan_at s 0 in
    let status = stored plan_size s (first (reason (not (plan_rule p)) 14 ∷ reason (ltb (length numbers) (length (plan_numbers p))) 5 ∷ [])) in
    numbers_left status (after status numbers (sets numbers 0 (plan_numbers p)))
