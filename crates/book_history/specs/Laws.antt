-- What holds of every call on a book, as statements.
-- Assumes nothing.
use Rattle.std.specs.Prelude.{◌≡◌, Bool, true, false, not, ◌&&◌, ◌||◌, List, [], ◌∷◌, ℕ, ◌+◌, ◌*◌, ◌≤◌, ◌<◌, min, eqb, leb, length, get_or}
use Rattle.octets.specs.Lists.{every}
use Rattle.moments.specs.Moments.{age_at, in_order}
use Rattle.frame_kinds.specs.Reading.{refusal_as}
use Rattle.octets.specs.Addresses.{address}
use Rattle.frame_requests.specs.Requests.{join_request}
use Rattle.slot_sets.specs.Sets.{count, disjoint}
use Rattle.site_plan.specs.declared.plan.Plan.{Plan}
use Rattle.site_plan.specs.Schedules.{sleep, sends, in_beacons, in_controls, in_data}
use Rattle.book_members.specs.Members.{Row, vacant_row, place_for, free, spare}
use Rattle.book.specs.Books.{Contents, within_rule, rows_at, live_at, holding, fresh_of}
use Rattle.book.specs.Schedules.{schedule_of}
use Rattle.book_joins.specs.Joins.{wish, grant_for, join_in, join_of, ask_in, ask_of}
use Rattle.book_bytes.specs.Trips.{Sized}
use Rattle.book_history.specs.Calls.{Call, join, ask, heard, leave, schedule, image, refusal_of, next, about, unit_of, time_of}

-- ---- the rule
-- a fresh book is within rule, and so is the book after every accepted call
abbrev pub KeepsRule : Type 0
KeepsRule =
    ((p : Plan) (time : ℕ) → (fresh_of p time).refused ≡ 0 → within_rule (fresh_of p time).book ≡ true)
    × ((b : Contents) (c : Call) → refusal_of b c ≡ 0 → within_rule (next b c) ≡ true)

-- a call that is refused leaves the book as it was
abbrev pub RefusedKeeps : Type 0
RefusedKeeps = (b : Contents) (c : Call) → (refusal_of b c ≡ 0 → ⊥) → next b c ≡ b

-- no call changes the plan, or the number of places
abbrev pub KeepsPlan : Type 0
KeepsPlan = (b : Contents) (c : Call) → ((next b c).plan ≡ b.plan) × (length (next b c).places ≡ length b.places)

-- a call at a time of 32 bits, given a book of 21 places whose numbers fit their bytes, leaves such a book, whatever else it is given
abbrev pub KeepsSize : Type 0
KeepsSize = (b : Contents) (c : Call) → time_of c < 0x100000000 → Sized b → Sized (next b c)

-- ---- joining
-- every row of the plan is live
abbrev pub full : Contents → ℕ → Bool
full b time = every (λ r. not (vacant_row r)) (rows_at b time)

-- a valid request to join, its time accepted, by a unit that is no live member
pub record Newcomer (b : Contents) (s : List ℕ) (time : ℕ) : Type 0 where
  pub frame : refusal_as join_request s ≡ 0
  pub other : (join_in s).node ≡ b.plan.manager → ⊥
  pub network : (eqb (join_in s).network 0 || eqb (join_in s).network b.plan.network) ≡ true
  pub order : in_order b.time time ≡ true
  pub unknown : live_at b (join_in s).node time ≡ false

-- it is refused for room exactly if every row is live
abbrev pub RefusedIfFull : Type 0
RefusedIfFull =
    (b : Contents) (s : List ℕ) (time : ℕ) (out : List ℕ) → within_rule b ≡ true → Newcomer b s time
    → (full b time ≡ true → (join_of b s time out).refused ≡ 12) × ((join_of b s time out).refused ≡ 12 → full b time ≡ true)

-- how many a newcomer gets: min(max(1, asked), 4, spare+1)
abbrev pub due : Contents → List ℕ → ℕ → ℕ
due b s time = min (wish (join_in s).slots) (spare b.plan.data_slots (rows_at b time) + 1)

-- what an accepted newcomer has
pub record Admitted (b : Contents) (s : List ℕ) (time : ℕ) (out : List ℕ) : Type 0 where
  pub accepted : (join_of b s time out).refused ≡ 0
  pub member : live_at (join_of b s time out).book (join_in s).node time ≡ true
  pub slots : holding (join_of b s time out).book (join_in s).node time ≡ grant_for b.plan.data_slots (rows_at b time) (join_in s).slots
  pub exact : count (holding (join_of b s time out).book (join_in s).node time) ≡ due b s time
  pub least : 1 ≤ due b s time
  pub most : due b s time ≤ wish (join_in s).slots

-- otherwise, given room for a frame of 13 bytes for its control slot and for each of its slots, it gets exactly that count
abbrev pub GrantedElse : Type 0
GrantedElse =
    (b : Contents) (s : List ℕ) (time : ℕ) (out : List ℕ) → within_rule b ≡ true → Newcomer b s time → full b time ≡ false → 13 * (1 + due b s time) ≤ length out
    → Admitted b s time out

-- a member that asks, and is accepted, then holds exactly min(max(1, asked), 4, held+spare)
abbrev pub AskedFor : Type 0
AskedFor =
    (b : Contents) (s : List ℕ) (time : ℕ) (out : List ℕ) → (ask_of b s time out).refused ≡ 0
    → count (holding (ask_of b s time out).book (ask_in s).node time)
    ≡ min (wish (ask_in s).slots) (count (holding b (ask_in s).node time) + spare b.plan.data_slots (rows_at b time))

-- ---- holding
-- a unit has in two books, at a time each, the same row and the same slots, or neither
pub record SameHolding (b : Contents) (time : ℕ) (b' : Contents) (time' : ℕ) (unit : ℕ) : Type 0 where
  pub live : live_at b' unit time' ≡ live_at b unit time
  pub row : place_for unit (rows_at b' time') ≡ place_for unit (rows_at b time)
  pub slots : holding b' unit time' ≡ holding b unit time

-- a call about another unit changes neither a unit's row nor its slots, at its time and at every later one that the book as it was would accept
abbrev pub OthersStay : Type 0
OthersStay =
    (b : Contents) (c : Call) (unit later : ℕ) → address unit ≡ true → (unit ≡ unit_of c → ⊥) → in_order b.time later ≡ true → in_order (time_of c) later ≡ true
    → SameHolding b later (next b c) later unit

-- as long as a unit is live its row and its slots stay, while no call is made: between a time that the book would accept and a later one that it would too
abbrev pub StaysWhileLive : Type 0
StaysWhileLive =
    (b : Contents) (unit time later : ℕ) → within_rule b ≡ true → address unit ≡ true → in_order b.time time ≡ true → in_order time later ≡ true
    → in_order b.time later ≡ true → live_at b unit later ≡ true
    → SameHolding b time b later unit

-- which calls leave a live member what it has
abbrev pub repeats : Call → Bool
repeats (join s time out) = true
repeats (ask s time out) = false
repeats (heard unit time) = true
repeats (leave unit time) = false
repeats (schedule unit hop time out) = true
repeats (image time out) = true

-- a live member that joins again, is heard or has its schedule made keeps its row and its slots; one that asks for slots keeps its row
abbrev pub KeepsOwn : Type 0
KeepsOwn =
    ((b : Contents) (c : Call) → repeats c ≡ true → live_at b (unit_of c) (time_of c) ≡ true → SameHolding b (time_of c) (next b c) (time_of c) (unit_of c))
    × ((b : Contents) (s : List ℕ) (time : ℕ) (out : List ℕ) → live_at b (ask_in s).node time ≡ true
    → place_for (ask_in s).node (rows_at (ask_of b s time out).book time) ≡ place_for (ask_in s).node (rows_at b time))

-- a member other than the manager is live up to 300,000 ms after its last accepted call
abbrev pub LiveFor : Type 0
LiveFor =
    (b : Contents) (c : Call) (later : ℕ) → refusal_of b c ≡ 0 → (about c).renews ≡ true → (unit_of c ≡ b.plan.manager → ⊥)
    → live_at (next b c) (unit_of c) later ≡ leb (age_at later (time_of c)) 300000

-- ---- counting
-- the slots that rows hold, row by row
unfoldable pub held_count : List Row → ℕ
held_count [] = 0
held_count (r ∷ rs) = count r.slots + held_count rs

-- free slots and those that live members hold are all the data slots
abbrev pub AllAccounted : Type 0
AllAccounted =
    (b : Contents) (time : ℕ) → within_rule b ≡ true
    → count (free b.plan.data_slots (rows_at b time)) + held_count (rows_at b time) ≡ b.plan.data_slots

-- no slot is held by two
abbrev pub HoldApart : Type 0
HoldApart =
    (b : Contents) (time unit unit' : ℕ) → within_rule b ≡ true → (unit ≡ unit' → ⊥) → disjoint (holding b unit time) (holding b unit' time) ≡ true

-- ---- sending
-- the kind of a slot in a schedule that was written
abbrev pub kind_in : List ℕ → ℕ → ℕ
kind_in kinds s = get_or kinds s sleep

-- in the schedules of two units from one book at one time, whatever their hops, no control or data slot has two senders
abbrev pub OneSenderInBook : Type 0
OneSenderInBook =
    (b : Contents) (time unit unit' hop hop' : ℕ) (out out' : List ℕ)
    → (schedule_of b unit hop time out).said.refusal ≡ 0 → (schedule_of b unit' hop' time out').said.refusal ≡ 0 → (unit ≡ unit' → ⊥)
    → (s : ℕ) → (in_controls b.plan s || in_data b.plan s) ≡ true
    → (sends (kind_in (schedule_of b unit hop time out).held s) && sends (kind_in (schedule_of b unit' hop' time out').held s)) ≡ false

-- and two of them send in one beacon slot only at equal hop
abbrev pub OneHopInBook : Type 0
OneHopInBook =
    (b : Contents) (time unit unit' hop hop' : ℕ) (out out' : List ℕ)
    → (schedule_of b unit hop time out).said.refusal ≡ 0 → (schedule_of b unit' hop' time out').said.refusal ≡ 0
    → (s : ℕ) → in_beacons b.plan s ≡ true
    → sends (kind_in (schedule_of b unit hop time out).held s) ≡ true → sends (kind_in (schedule_of b unit' hop' time out').held s) ≡ true → hop ≡ hop'
