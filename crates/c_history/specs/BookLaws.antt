-- What holds of the bytes of every member book that comes from a fresh one, from an image or from any stored bytes by calls from C, as statements.
-- Assumes nothing.
use Rattle.std.specs.Prelude.{◌≡◌, true, false, not, ◌&&◌, ◌||◌, List, ◌++◌, map, ℕ, ◌+◌, ◌*◌, ◌%◌, ◌^◌, ◌≤◌, min, eqb, length}
use Rattle.octets.specs.Layouts.{Bytes}
use Rattle.octets.specs.Lists.{every}
use Rattle.moments.specs.Elapsed.{last_of, Timely, IsTrue}
use Rattle.moments.specs.Moments.{in_order}
use Rattle.octets.specs.Addresses.{address}
use Rattle.slot_sets.specs.Sets.{count}
use Rattle.site_plan.specs.Schedules.{sends, in_beacons, in_controls, in_data}
use Rattle.book_members.specs.Members.{free, spare}
use Rattle.book.specs.Books.{Contents, within_rule, rows_at, live_at, holding}
use Rattle.book_joins.specs.Joins.{wish, grant_for, join_in, ask_in}
use Rattle.book_history.specs.Calls.{Call, join, ask, next}
use Rattle.book_history.specs.Laws.{full, Newcomer, due, kind_in}
use Rattle.book_bytes.specs.BookBytes.{book_size, book_in, bytes_of_book}
use Rattle.book_bytes.specs.Trips.{Sized}
use Rattle.book_history.specs.Histories.{begun, after_calls, step_of, clock_of, data_granted, units_granted}
use Rattle.book_history.specs.BookLaws.{beyond_plan, slots_at, its}
use Rattle.c_book.specs.BookCalls.{schedule_call}
use Rattle.c_requests.specs.RequestCalls.{join_call, slot_request_call}
use Rattle.c_history.specs.HeldBooks.{StartInC, begins_in, MachineStart, start_of, InC, Machine, leaves, answer_in_c, buffer_after, recorded_in_c, AllMachine, calls_of, granted_in_c, recent_in_c}

-- a book that a start gives has 21 places and numbers that fit their bytes, and a call that is given such a book leaves such a book
abbrev pub SizedKept : Type 0
SizedKept =
    ((start : StartInC) → MachineStart start → Sized (begun (start_of start)).book)
    × ((b : Contents) (c : Call) → Machine c → Sized b → Sized (next b c))

-- From an accepted fresh book or an accepted restore on, over any list of calls from C, accepted or refused: the buffer holds exactly the bytes of the
-- book that the same calls give on values
abbrev pub StaysStored : Type 0
StaysStored =
    (s : List ℕ) (start : StartInC) (cs : List InC) → MachineStart start → AllMachine cs → (begins_in s start).status ≡ 0
    → buffer_after (begins_in s start).book cs ≡ bytes_of_book (after_calls (begun (start_of start)).book (calls_of cs))

-- the same from any 308 bytes on, as from flash
abbrev pub StoredFrom : Type 0
StoredFrom =
    (s : List ℕ) (cs : List InC) → Bytes s → length s ≡ book_size → AllMachine cs → buffer_after s cs ≡ bytes_of_book (after_calls (book_in s) (calls_of cs))

-- a call that is refused leaves the buffer as it was, whatever the buffer holds
abbrev pub RefusedLeaves : Type 0
RefusedLeaves = (s : List ℕ) (c : Call) (filled : ℕ) → ((answer_in_c s c filled).refused ≡ 0 → ⊥) → leaves s c filled ≡ s

-- the book in the buffer is within rule, and 14 is only for what its plan does not have
abbrev pub OnlyBeyondPlanInC : Type 0
OnlyBeyondPlanInC =
    (s : List ℕ) (start : StartInC) (cs : List InC) → MachineStart start → AllMachine cs → (begins_in s start).status ≡ 0
    → let held = buffer_after (begins_in s start).book cs in
    (length held ≡ book_size) × (within_rule (book_in held) ≡ true)
    × ((c : Call) (filled : ℕ) → (answer_in_c held c filled).refused ≡ 14 → beyond_plan (book_in held) c ≡ true)

-- what the bytes have for a unit is what the start's bytes and the answers of its own calls say
abbrev pub AnswersTellInC : Type 0
AnswersTellInC =
    (s : List ℕ) (start : StartInC) (cs : List InC) → MachineStart start → AllMachine cs → (begins_in s start).status ≡ 0
    → let began = (begins_in s start).book in
    let b = book_in (buffer_after began cs) in
    (unit time : ℕ) → address unit ≡ true → in_order b.time time ≡ true → slots_at b unit time ≡ granted_in_c began cs unit time

-- free slots plus those that the answers grant to live members are always D
abbrev pub AlwaysDInC : Type 0
AlwaysDInC =
    (s : List ℕ) (start : StartInC) (cs : List InC) → MachineStart start → AllMachine cs → (begins_in s start).status ≡ 0
    → let began = (begins_in s start).book in
    let b = book_in (buffer_after began cs) in
    (time : ℕ) → in_order b.time time ≡ true
    → count (free b.plan.data_slots (rows_at b time)) + data_granted (λ unit. granted_in_c began cs unit time) ≡ b.plan.data_slots

-- a request to join that is accepted: its unit is then a live member in the buffer, and holds the lowest free slots, exactly as many as are due
pub record AdmittedInC (held frame : List ℕ) (time : ℕ) (out : List ℕ) (written : ℕ) : Type 0 where
  pub accepted : (join_call held frame time out written).status ≡ 0
  pub member : live_at (book_in (join_call held frame time out written).book) (join_in frame).node time ≡ true
  pub slots :
      holding (book_in (join_call held frame time out written).book) (join_in frame).node time
      ≡ grant_for (book_in held).plan.data_slots (rows_at (book_in held) time) (join_in frame).slots
  pub exact : count (holding (book_in (join_call held frame time out written).book) (join_in frame).node time) ≡ due (book_in held) frame time
  pub least : 1 ≤ due (book_in held) frame time
  pub most : due (book_in held) frame time ≤ wish (join_in frame).slots

-- a newcomer's request is refused for room exactly if every member row is live; otherwise, given room for its answer frames, it gets exactly its count
abbrev pub JoinsExactlyInC : Type 0
JoinsExactlyInC =
    (s : List ℕ) (start : StartInC) (cs : List InC) → MachineStart start → AllMachine cs → (begins_in s start).status ≡ 0
    → let held = buffer_after (begins_in s start).book cs in
    (frame : List ℕ) (time : ℕ) (out : List ℕ) (written : ℕ) → Machine (join frame time out) → Newcomer (book_in held) frame time
    → ((full (book_in held) time ≡ true → (join_call held frame time out written).status ≡ 12) × ((join_call held frame time out written).status ≡ 12 → full (book_in held) time ≡ true))
    × (full (book_in held) time ≡ false → 13 * (1 + due (book_in held) frame time) ≤ length out → AdmittedInC held frame time out written)

-- every member row is live exactly if the start's bytes and the answers grant slots to as many units as there are rows: so a newcomer is refused for room
-- exactly then, in elapsed time
abbrev pub FullByAnswersInC : Type 0
FullByAnswersInC =
    (s : List ℕ) (start : StartInC) (cs : List InC) → MachineStart start → AllMachine cs → (begins_in s start).status ≡ 0
    → let began = (begins_in s start).book in
    let b = book_in (buffer_after began cs) in
    (time : ℕ) → in_order b.time time ≡ true → full b time ≡ eqb (units_granted (λ unit. granted_in_c began cs unit time)) b.plan.rows

-- a member whose request for slots is accepted is then a live member that holds exactly min(max(1, asked), 4, held+spare)
abbrev pub AsksExactlyInC : Type 0
AsksExactlyInC =
    (s : List ℕ) (start : StartInC) (cs : List InC) → MachineStart start → AllMachine cs → (begins_in s start).status ≡ 0
    → let held = buffer_after (begins_in s start).book cs in
    let b = book_in held in
    (frame : List ℕ) (time : ℕ) (out : List ℕ) (written : ℕ) → Machine (ask frame time out)
    → let left = slot_request_call held frame time out written in
    let unit = (ask_in frame).node in
    left.status ≡ 0
    → (live_at (book_in left.book) unit time ≡ true)
    × (count (holding (book_in left.book) unit time)
    ≡ min (wish (ask_in frame).slots) (count (holding b unit time) + spare b.plan.data_slots (rows_at b time)))

-- a unit's slots stay its own until its own request, its leaving or its silence: through any calls since, of which none is one of those, while the answers say
-- that it is not silent
abbrev pub StaysItsOwnInC : Type 0
StaysItsOwnInC =
    (s : List ℕ) (start : StartInC) (cs more : List InC) → MachineStart start → AllMachine cs → AllMachine more → (begins_in s start).status ≡ 0
    → let began = (begins_in s start).book in
    let held = buffer_after began cs in
    let later = book_in (buffer_after began (cs ++ more)) in
    (unit time : ℕ) → address unit ≡ true → every (λ h. not (its unit h)) (recorded_in_c held more) ≡ true
    → in_order later.time time ≡ true → recent_in_c began (cs ++ more) unit time ≡ true
    → slots_at later unit time ≡ slots_at (book_in held) unit (book_in held).time

-- in schedules made from the buffer at one time, no control or data slot has two senders, and two units send in one beacon slot only at equal hop
abbrev pub OneSenderInC : Type 0
OneSenderInC =
    (s : List ℕ) (start : StartInC) (cs : List InC) → MachineStart start → AllMachine cs → (begins_in s start).status ≡ 0
    → let held = buffer_after (begins_in s start).book cs in
    let p = (book_in held).plan in
    (time unit unit' hop hop' : ℕ) (out out' : List ℕ) (written written' : ℕ)
    → let one = schedule_call held unit hop time out written in
    let two = schedule_call held unit' hop' time out' written' in
    one.status ≡ 0 → two.status ≡ 0 → (unit ≡ unit' → ⊥) → (slot : ℕ)
    → ((in_controls p slot || in_data p slot) ≡ true → (sends (kind_in one.out slot) && sends (kind_in two.out slot)) ≡ false)
    × (in_beacons p slot ≡ true → sends (kind_in one.out slot) ≡ true → sends (kind_in two.out slot) ≡ true → hop ≡ hop')

-- where the calls are made in time, as document 02 asks, what has elapsed by their times and statuses, from any bytes on, is true time: grants count and end by
-- the true one
abbrev pub TrueTimeInC : Type 0
TrueTimeInC =
    (s : List ℕ) (cs : List InC) (began : ℕ) (nows : List ℕ)
    → let b = book_in s in
    let hs = recorded_in_c s cs in b.time ≡ began % 2 ^ 32 → Timely began (map step_of hs) nows → IsTrue began (clock_of b hs) (last_of began (map step_of hs) nows)
