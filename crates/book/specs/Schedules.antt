-- The schedule of a member: what it does in each slot of a superframe.
-- Assumes nothing.
use Rattle.std.specs.Prelude.{ℕ, Bool, not, ◌&&◌, cond, List, [], ◌∷◌, eqb, leb, ltb, length}
use Rattle.std.proofs.lemmas.List.Edits.{sets}
use Rattle.octets.specs.Answers.{Reason, accepted, reason, first, unless}
use Rattle.octets.specs.Calls.{after}
use Rattle.octets.specs.Lists.{tab}
use Rattle.octets.specs.Told.{Wrote}
use Rattle.moments.specs.Moments.{in_order}
use Rattle.octets.specs.Addresses.{address}
use Rattle.site_plan.specs.declared.plan.Plan.{Plan}
use Rattle.site_plan.specs.Plans.{slots}
use Rattle.site_plan.specs.Schedules.{kind_of}
use Rattle.book_members.specs.Members.{place_for}
use Rattle.book.specs.Books.{Contents, within_rule, rows_at, live_at, holding}

-- hop 0 is the manager's alone, others are at 1 to h
abbrev pub hop_rule : Plan → ℕ → ℕ → Bool
hop_rule p unit hop = cond (eqb unit p.manager) (eqb hop 0) (leb 1 hop && leb hop p.max_hops)

-- the kinds of all slots for a member
abbrev pub kinds_for : Contents → ℕ → ℕ → ℕ → List ℕ
kinds_for b unit hop time =
    let at = place_for unit (rows_at b time) in
    tab (slots b.plan) (kind_of b.plan at hop (holding b unit time))

-- 14 4 8 14 13 5, in a buffer with this room
abbrev pub schedule_reasons : Contents → ℕ → ℕ → ℕ → ℕ → List Reason
schedule_reasons b unit hop time room =
    reason (not (within_rule b)) 14 ∷
    reason (not (address unit)) 4 ∷
    reason (not (in_order b.time time)) 8 ∷
    reason (not (hop_rule b.plan unit hop)) 14 ∷
    reason (not (live_at b unit time)) 13 ∷
    reason (ltb room (slots b.plan)) 5 ∷
    []

abbrev pub schedule_refusal : Contents → ℕ → ℕ → ℕ → ℕ → ℕ
schedule_refusal b unit hop time room = first (schedule_reasons b unit hop time room)

unfoldable pub schedule_of : Contents → ℕ → ℕ → ℕ → List ℕ → Wrote
schedule_of b unit hop time out =
    let refusal = schedule_refusal b unit hop time (length out) in
    record { said = unless refusal (accepted (slots b.plan ∷ [])); held = after refusal out (sets out 0 (kinds_for b unit hop time)) }
