-- Demand 3, as statements: what holds of a book over every history, which is an accepted start, fresh or restored, and any list of calls.
-- Assumes nothing.
use Rattle.std.specs.Prelude.{◌≡◌, Bool, true, false, not, ◌&&◌, ◌||◌, cond, List, [], ◌++◌, map, ℕ, ◌+◌, ◌*◌, ◌%◌, ◌^◌, ◌≤◌, eqb, length}
use Rattle.octets.specs.Lists.{every}
use Rattle.moments.specs.Elapsed.{last_of, Timely, IsTrue}
use Rattle.moments.specs.Moments.{in_order}
use Rattle.octets.specs.Addresses.{address}
use Rattle.slot_sets.specs.Sets.{count}
use Rattle.site_plan.specs.Schedules.{sends, in_beacons, in_controls, in_data}
use Rattle.book_members.specs.Members.{place_for, free}
use Rattle.site_plan.specs.Plans.{long_beacons}
use Rattle.book.specs.Books.{Contents, within_rule, rows_at, live_at, holding}
use Rattle.book.specs.Schedules.{hop_rule, schedule_of}
use Rattle.book_joins.specs.Joins.{join_of}
use Rattle.book_joins.specs.Responses.{slots_told}
use Rattle.book_history.specs.Calls.{Call, join, ask, heard, leave, schedule, image, refusal_of, about, unit_of}
use Rattle.book_history.specs.Laws.{full, Newcomer, due, Admitted, kind_in}
use Rattle.book_history.specs.Histories.{Start, begun, after_calls, Happened, recorded, step_of, clock_of, recent_at, granted_at, data_granted, units_granted}

-- the book after a history
abbrev pub book_after : Start → List Call → Contents
book_after start cs = after_calls (begun start).book cs

-- ---- the rule
-- every book of a history is within rule
abbrev pub StaysWithinRule : Type 0
StaysWithinRule = (start : Start) (cs : List Call) → (begun start).refused ≡ 0 → within_rule (book_after start cs) ≡ true

-- so that 14 is never for the book: it is only for what the plan does not have, a hop that the caller names, or an image of form 1 where beacons are short
abbrev pub beyond_plan : Contents → Call → Bool
beyond_plan b (join s time out) = false
beyond_plan b (ask s time out) = false
beyond_plan b (heard unit time) = false
beyond_plan b (leave unit time) = false
beyond_plan b (schedule unit hop time out) = not (hop_rule b.plan unit hop)
beyond_plan b (image time out) = not (eqb b.plan.beacon_type long_beacons)

abbrev pub OnlyBeyondPlan : Type 0
OnlyBeyondPlan =
    (start : Start) (cs : List Call) (c : Call) → (begun start).refused ≡ 0 → refusal_of (book_after start cs) c ≡ 14
    → beyond_plan (book_after start cs) c ≡ true

-- ---- joining
-- a valid request to join, its time accepted, by a unit that is no live member, is refused for room exactly if every member row is live; otherwise,
-- given room for its answer frames, it gets exactly the paper's count, at least one slot and at most its limit
abbrev pub JoinsExactly : Type 0
JoinsExactly =
    (start : Start) (cs : List Call) (s : List ℕ) (time : ℕ) (out : List ℕ) → (begun start).refused ≡ 0
    → let b = book_after start cs in Newcomer b s time
    → ((full b time ≡ true → (join_of b s time out).refused ≡ 12) × ((join_of b s time out).refused ≡ 12 → full b time ≡ true))
    × (full b time ≡ false → 13 * (1 + due b s time) ≤ length out → Admitted b s time out)

-- every member row is live exactly if the start and the answers grant slots to as many units as there are rows: so a newcomer is refused for room exactly
-- then, in elapsed time
abbrev pub FullByAnswers : Type 0
FullByAnswers =
    (start : Start) (cs : List Call) (time : ℕ) → (begun start).refused ≡ 0
    → let b = book_after start cs in in_order b.time time ≡ true → full b time ≡ eqb (units_granted (λ unit. granted_at start cs unit time)) b.plan.rows

-- ---- holding
-- the slots that a book has for a unit at a time, its control slot first; none where it is no live member
abbrev pub slots_at : Contents → ℕ → ℕ → List ℕ
slots_at b unit time = cond (live_at b unit time) (slots_told b.plan (place_for unit (rows_at b time)) (holding b unit time)) []

-- what the book has for a unit is what the start and the answers to the unit's own calls say, whatever others do
abbrev pub AnswersTell : Type 0
AnswersTell =
    (start : Start) (cs : List Call) (unit time : ℕ) → (begun start).refused ≡ 0 → address unit ≡ true → in_order (book_after start cs).time time ≡ true
    → slots_at (book_after start cs) unit time ≡ granted_at start cs unit time

-- an accepted call of this unit that can move its slots: its request, or its leaving
abbrev pub its : ℕ → Happened → Bool
its unit h = eqb h.answer.refused 0 && eqb (unit_of h.call) unit && (about h.call).moves

-- a unit's slots stay its own until its own request, its leaving or its silence: while none of the calls since is one of those, and the record says that it is
-- not silent, they are the same. A restore begins another history
abbrev pub StaysItsOwn : Type 0
StaysItsOwn =
    (start : Start) (cs more : List Call) (unit time : ℕ) → (begun start).refused ≡ 0 → address unit ≡ true
    → every (λ h. not (its unit h)) (recorded (book_after start cs) more) ≡ true
    → in_order (book_after start (cs ++ more)).time time ≡ true → recent_at start (cs ++ more) unit time ≡ true
    → slots_at (book_after start (cs ++ more)) unit time ≡ slots_at (book_after start cs) unit (book_after start cs).time

-- ---- counting
-- free slots plus those that the history grants to live members are always D; the grants are computed from the start and the answers alone, over every address
abbrev pub AlwaysD : Type 0
AlwaysD =
    (start : Start) (cs : List Call) (time : ℕ) → (begun start).refused ≡ 0 → in_order (book_after start cs).time time ≡ true
    → let b = book_after start cs in
    count (free b.plan.data_slots (rows_at b time)) + data_granted (λ unit. granted_at start cs unit time) ≡ b.plan.data_slots

-- ---- sending
-- in schedules made from the book at one time, no control or data slot has two senders, and two units send in one beacon slot only at equal hop
abbrev pub OneSender : Type 0
OneSender =
    (start : Start) (cs : List Call) (time unit unit' hop hop' : ℕ) (out out' : List ℕ) → (begun start).refused ≡ 0
    → let b = book_after start cs in
    (schedule_of b unit hop time out).said.refusal ≡ 0 → (schedule_of b unit' hop' time out').said.refusal ≡ 0 → (unit ≡ unit' → ⊥)
    → (s : ℕ)
    → ((in_controls b.plan s || in_data b.plan s) ≡ true
    → (sends (kind_in (schedule_of b unit hop time out).held s) && sends (kind_in (schedule_of b unit' hop' time out').held s)) ≡ false)
    × (in_beacons b.plan s ≡ true
    → sends (kind_in (schedule_of b unit hop time out).held s) ≡ true → sends (kind_in (schedule_of b unit' hop' time out').held s) ≡ true → hop ≡ hop')

-- ---- true time
-- where the calls of a history are made in time, as document 02 asks, its elapsed time is true time: grants count and end by the true one
abbrev pub TrueTime : Type 0
TrueTime =
    (start : Start) (cs : List Call) (began : ℕ) (nows : List ℕ)
    → let b = (begun start).book in
    let hs = recorded b cs in b.time ≡ began % 2 ^ 32 → Timely began (map step_of hs) nows → IsTrue began (clock_of b hs) (last_of began (map step_of hs) nows)
