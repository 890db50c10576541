-- Every call keeps the rule and the plan, and one that is refused leaves the book as it was.
-- Assumes nothing.
use Rattle.octets.proofs.Words.{◌≡◌, refl, ap, ◌∙◌, true, ℕ, eqb, length, length-set}
use Rattle.octets.specs.Calls.{after}
use Rattle.octets.proofs.CallLaws.{after-refused}
use Rattle.octets.proofs.TestLaws.{of_choice}
use Rattle.book_members.specs.Members.{Row, empty_row, place_for}
use Rattle.book_members.proofs.RowLaws.{length-current}
use Rattle.book_members.proofs.RowRuleLaws.{ruled_emptied}
use Rattle.book.specs.Books.{Contents, within_rule, rows_at, places_at, with_row, heard_of, leave_of}
use Rattle.book_joins.specs.Joins.{join_of, ask_of}
use Rattle.book_history.specs.Calls.{Call, join, ask, heard, leave, schedule, image, refusal_of, next}
use Rattle.book_history.specs.Laws.{KeepsRule, RefusedKeeps, KeepsPlan}
use Rattle.book_history.proofs.CallLaws.{schedule_allowed, image_allowed}
use Rattle.book_history.proofs.WrittenLaws.{within-written}
use Rattle.book_history.proofs.TakingLaws.{whole, ruled_rows, join-taken, ask-taken, heard-taken, taken-within, leave_freed}
use Rattle.book_history.proofs.FreshLaws.{fresh-within}

-- ---- the rule
pub keeps_rule : KeepsRule
keeps_rule = (fresh-within, every_call)
  where
    every_call : (b : Contents) (c : Call) → refusal_of b c ≡ 0 → within_rule (next b c) ≡ true
    every_call b (join s time out) e = taken-within (join-taken b s time out e)
    every_call b (ask s time out) e = taken-within (ask-taken b s time out e)
    every_call b (heard unit time) e = taken-within (heard-taken b unit time e)
    every_call b (leave unit time) e =
        let f = leave_freed b unit time e in
        let at = place_for unit (rows_at b time) in
        ap within_rule f.book
        ∙ within-written b time at empty_row f.place.there (whole f.allowed)
        (ruled_emptied (ruled_rows f.allowed) at f.place.there (λ z. f.other (f.place.leads z)))
    every_call b (schedule unit hop time out) e = (schedule_allowed b unit hop time out e).book
    every_call b (image time out) e = image_allowed b time out e

-- ---- refusals
pub refused_keeps : RefusedKeeps
unfolding join_of ask_of heard_of leave_of
refused_keeps b (join s time out) z = after-refused _ b _ z
refused_keeps b (ask s time out) z = after-refused _ b _ z
refused_keeps b (heard unit time) z = after-refused _ b _ z
refused_keeps b (leave unit time) z = after-refused _ b _ z
refused_keeps b (schedule unit hop time out) z = refl
refused_keeps b (image time out) z = refl

-- ---- the plan
abbrev SamePlan : Contents → Contents → Type 0
SamePlan b new = (new.plan ≡ b.plan) × (length new.places ≡ length b.places)

written-plan : (b : Contents) (n time at : ℕ) (r : Row) → SamePlan b (after n b (with_row b time at r))
written-plan b n time at r =
    of_choice (SamePlan b) (eqb n 0) (refl, length-set (places_at b time) at r ∙ length-current time b.places) (refl, refl)

pub keeps_plan : KeepsPlan
unfolding join_of ask_of heard_of leave_of
keeps_plan b (join s time out) = written-plan b (join_of b s time out).refused time _ _
keeps_plan b (ask s time out) = written-plan b (ask_of b s time out).refused time _ _
keeps_plan b (heard unit time) = written-plan b (heard_of b unit time).refused time _ _
keeps_plan b (leave unit time) = written-plan b (leave_of b unit time).refused time _ _
keeps_plan b (schedule unit hop time out) = (refl, refl)
keeps_plan b (image time out) = (refl, refl)
