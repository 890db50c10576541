-- Every book of a history is within rule, and 14 is only for a hop.
-- Assumes nothing.
use Rattle.octets.proofs.Words.{◌≡◌, refl, sym, ap, ◌∙◌, Bool, true, false, not, ◌&&◌, ◌||◌, cond, and-eq-true_iff, or-true, List, [], ◌∷◌, ℕ, zero, suc, arith, eq-eqb, not-false, eqb, length, take, length-take}
use Rattle.octets.specs.Answers.{reason, first}
use Rattle.octets.proofs.AnswerLaws.{never_given, none-holds, unless-number}
use Rattle.octets.specs.Lists.{every}
use Rattle.octets.proofs.CallLaws.{after-accepted}
use Rattle.octets.proofs.ListLaws.{length-tab, every-tab}
use Rattle.frame_requests.specs.Requests.{join_request, slot_request}
use Rattle.site_plan.specs.declared.plan.Plan.{Plan}
use Rattle.site_plan.specs.Plans.{long_beacons}
use Rattle.site_plan.proofs.PlanLaws.{rule_bounds}
use Rattle.book_members.specs.Members.{Row, vacant_row}
use Rattle.book_members.proofs.RowLaws.{length-current}
use Rattle.book.specs.Books.{Contents, within_rule, rows_in, rows_at, live_at, no_book, fresh_book, fresh_of, heard_of, leave_of}
use Rattle.book.proofs.VisitLaws.{member_reasons}
use Rattle.book.proofs.WithinLaws.{within}
use Rattle.book.specs.Schedules.{hop_rule, schedule_reasons, schedule_refusal, schedule_of}
use Rattle.book_joins.specs.Joins.{join_reasons, join_of, ask_reasons, ask_of}
use Rattle.book_history.specs.Calls.{Call, join, ask, heard, leave, schedule, image, refusal_of, next}
use Rattle.book_history.proofs.RuleLaws.{keeps_rule, keeps_plan}
use Rattle.book_history.proofs.FreshLaws.{every_empty}
use Rattle.book_history.proofs.HoldingLaws.{by-refusal}
use Rattle.book_image.specs.Forms.{fits}
use Rattle.book_image.specs.Images.{sections, plan_in, row_in, image_book, accepted_image, restore_of, image_reasons, image_written}
use Rattle.book_image.proofs.AcceptedLaws.{rows_used, good}
use Rattle.book_history.specs.Histories.{Start, fresh, restored, begun, after_calls}
use Rattle.book_history.specs.BookLaws.{StaysWithinRule, beyond_plan, OnlyBeyondPlan, book_after}
use Rattle.frame_kinds.proofs.FourteenLaws.{some_number, read_never, only_so}

-- ---- the rule
restored-within : (s : List ℕ) (time : ℕ) → (restore_of s time).refused ≡ 0 → within_rule (restore_of s time).book ≡ true
unfolding restore_of accepted_image
restored-within s time z =
    let good = not-false (accepted_image s time) (none-holds (reason (not (accepted_image s time)) 14 ∷ []) _ z).0 in
    ap within_rule (after-accepted _ no_book (image_book s time) z) ∙ ((and-eq-true_iff (fits (sections (plan_in s).rows) s) (within_rule (image_book s time))).0 good).1

pub begun-within : (start : Start) → (begun start).refused ≡ 0 → within_rule (begun start).book ≡ true
begun-within (fresh p time) z = keeps_rule.0 p time z
begun-within (restored s time) z = restored-within s time z

-- every member of a book that begins is of its time
new_in : (s : List ℕ) (time i : ℕ) → (vacant_row (row_in s time i) || eqb (row_in s time i).time time) ≡ true
unfolding row_in
new_in s time i = go (vacant_row (row_in s time i))
  where
    go : (t : Bool) → (t || eqb (cond t 0 time) time) ≡ true
    go true = refl
    go false = eq-eqb time time refl

fresh-new : (p : Plan) (time n : ℕ) → every (λ r. vacant_row r || eqb r.time time) (take n (fresh_book p time).places) ≡ true
unfolding every
fresh-new p time zero = refl
fresh-new p time (suc n) = rw (eq-eqb time time refl, or-true) (every_empty (λ r. vacant_row r || eqb r.time time) refl 20 n).0

pub begun-new : (start : Start) → (begun start).refused ≡ 0 → every (λ r. vacant_row r || eqb r.time (begun start).book.time) (rows_in (begun start).book) ≡ true
unfolding fresh_of restore_of image_book
begun-new (fresh p time) z = rw (after-accepted _ no_book (fresh_book p time) z) (fresh-new p time p.rows)
begun-new (restored s time) z =
    let good-image = good s time (not-false (accepted_image s time) (none-holds (reason (not (accepted_image s time)) 14 ∷ []) _ z).0) in
    let test : Row → Bool = λ r. vacant_row r || eqb r.time time in
    rw (after-accepted _ no_book (image_book s time) z, rows_used s time good-image.plan) (every-tab test (plan_in s).rows (row_in s time) (λ i h. new_in s time i))

rule-after : (b : Contents) (cs : List Call) → within_rule b ≡ true → within_rule (after_calls b cs) ≡ true
rule-after b [] w = w
rule-after b (c ∷ cs) w = rule-after (next b c) cs (by-refusal (λ new. within_rule new ≡ true) b c w (keeps_rule.1 b c))

pub stays_within_rule : StaysWithinRule
stays_within_rule start cs z = rule-after (begun start).book cs (begun-within start z)

-- ---- the plan and the places
pub plan_after : (b : Contents) (cs : List Call) → (after_calls b cs).plan ≡ b.plan
plan_after b [] = refl
plan_after b (c ∷ cs) = plan_after (next b c) cs ∙ (keeps_plan b c).0

places-after : (b : Contents) (cs : List Call) → length (after_calls b cs).places ≡ length b.places
places-after b [] = refl
places-after b (c ∷ cs) = places-after (next b c) cs ∙ (keeps_plan b c).1

begun-places : (start : Start) → (begun start).refused ≡ 0 → length (begun start).book.places ≡ 21
unfolding fresh_of restore_of image_book
begun-places (fresh p time) z = ap (λ (b : Contents). length b.places) (after-accepted _ no_book (fresh_book p time) z)
begun-places (restored s time) z = ap (λ (b : Contents). length b.places) (after-accepted _ no_book (image_book s time) z) ∙ length-tab 21 _

-- there are always as many rows as the plan says
pub rows-many : (start : Start) (cs : List Call) (time : ℕ) → (begun start).refused ≡ 0 → length (rows_at (book_after start cs) time) ≡ (book_after start cs).plan.rows
rows-many start cs time z =
    let b = book_after start cs in
    let few = (rule_bounds b.plan (within b (stays_within_rule start cs z)).plan).few-rows in
    omega (arith, few, length-current time (rows_in b), length-take b.plan.rows b.places, places-after (begun start).book cs, begun-places start z)

-- ---- 14
module _ (b : Contents) (w : within_rule b ≡ true) where
  join_never : (s : List ℕ) (time room : ℕ) → first (join_reasons b s time room) ≡ 14 → ⊥
  join_never s time room =
      never_given 14 (join_reasons b s time room) some_number (ap not w, (read_never join_request s, _))

  ask_never : (s : List ℕ) (time room : ℕ) → first (ask_reasons b s time room) ≡ 14 → ⊥
  ask_never s time room =
      never_given 14 (ask_reasons b s time room) some_number (ap not w, (read_never slot_request s, _))

  member_never : (unit time : ℕ) (found : Bool) → first (member_reasons b unit time found) ≡ 14 → ⊥
  member_never unit time found =
      never_given 14 (member_reasons b unit time found) some_number (ap not w, _)

  schedule_never : (unit hop time room : ℕ) → hop_rule b.plan unit hop ≡ true → schedule_refusal b unit hop time room ≡ 14 → ⊥
  schedule_never unit hop time room h =
      never_given 14 (schedule_reasons b unit hop time room) some_number (ap not w, (_, (_, (ap not h, _))))

  image_never : (time room : ℕ) → eqb b.plan.beacon_type long_beacons ≡ true → first (image_reasons b time room) ≡ 14 → ⊥
  image_never time room h =
      never_given 14 (image_reasons b time room) some_number (ap not w, (_, (ap not h, _)))

  only_beyond : (c : Call) → refusal_of b c ≡ 14 → beyond_plan b c ≡ true
  unfolding join_of ask_of heard_of leave_of schedule_of image_written
  only_beyond (join s time out) e = absurd (join_never s time (length out) e)
  only_beyond (ask s time out) e = absurd (ask_never s time (length out) e)
  only_beyond (heard unit time) e = absurd (member_never unit time (live_at b unit time) e)
  only_beyond (leave unit time) e = absurd (member_never unit time (live_at b unit time && not (eqb unit b.plan.manager)) e)
  only_beyond (schedule unit hop time out) e =
      only_so (hop_rule b.plan unit hop) (λ h. schedule_never unit hop time (length out) h (sym (unless-number _ _) ∙ e))
  only_beyond (image time out) e =
      only_so (eqb b.plan.beacon_type long_beacons) (λ h. image_never time (length out) h (sym (unless-number _ _) ∙ e))

pub only-beyond_plan : OnlyBeyondPlan
only-beyond_plan start cs c z = only_beyond (book_after start cs) (stays_within_rule start cs z) c
