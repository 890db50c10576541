-- Joining and asking for slots: how many are granted, which, and what is written.
-- Assumes nothing.
use Rattle.std.specs.Prelude.{ℕ, ◌+◌, ◌-◌, min, max, Bool, not, ◌&&◌, cond, List, [], ◌∷◌, Result, Ok, Err, eqb, leb, ltb, length}
use Rattle.std.proofs.lemmas.List.Edits.{sets}
use Rattle.octets.specs.Answers.{Reason, reason, refusing, first}
use Rattle.octets.specs.Calls.{after}
use Rattle.octets.specs.Refusals.{number_of}
use Rattle.octets.specs.declared.refusals.Refusal.{Refusal}
use Rattle.moments.specs.Moments.{in_order}
use Rattle.frame_kinds.specs.Reading.{refusal_as}
use Rattle.frame_kinds.specs.Shape.{values_in}
use Rattle.frame_requests.specs.declared.JoinRequest.{JoinRequest}
use Rattle.frame_requests.specs.declared.SlotRequest.{SlotRequest}
use Rattle.frame_requests.specs.Requests.{join_request, join_request_from, slot_request, slot_request_from}
use Rattle.slot_sets.specs.Sets.{Slots, union, count, lowest, without_highest}
use Rattle.book_members.specs.Members.{Row, member_with, fewest_slots, most_slots, place_for, free, vacant, spare}
use Rattle.book.specs.Books.{Contents, contents, within_rule, rows_at, live_at, holding, with_row}
use Rattle.book_joins.specs.declared.grants.Granted.{Granted}
use Rattle.book_joins.specs.Responses.{responses}

-- ---- how many slots, and which
-- what a unit may ask for
abbrev pub wish : ℕ → ℕ
wish asked = min (max fewest_slots asked) most_slots

-- a newcomer's slots: the lowest min(max(1, asked), 4, spare+1) free ones
abbrev pub grant_for : ℕ → List Row → ℕ → Slots 64
grant_for dataSlots rs asked = lowest (min (wish asked) (spare dataSlots rs + 1)) (free dataSlots rs)

-- a holding brought to so many slots: the lowest free ones are added, or its own highest released
abbrev pub brought : ℕ → Slots 64 → Slots 64 → Slots 64
brought to own spaces = cond (leb (count own) to) (union own (lowest (to - count own) spaces)) (without_highest (count own - to) own)

-- a member's slots after its request: min(max(1, asked), 4, held+spare)
abbrev pub asks : ℕ → List Row → Slots 64 → ℕ → Slots 64
asks dataSlots rs own asked = brought (min (wish asked) (count own + spare dataSlots rs)) own (free dataSlots rs)

-- ---- what a call gives
-- the number, how many bytes were written, the book, and the buffer
pub record Answered : Type 0 where
  pub refused : ℕ
  pub written : ℕ
  pub book : Contents
  pub held : List ℕ

-- what an answer of the code and its buffer stand for: what is granted, or the book that was there with the number that refuses the call
abbrev pub answered_by : Contents → Result Granted Refusal → List ℕ → Answered
answered_by b (Ok g) held = record { refused = 0; written = g.written; book = contents g.book; held = held }
answered_by b (Err r) held = record { refused = number_of r; written = 0; book = b; held = held }

-- where nothing refuses it, the unit's row is written, and its responses
abbrev pub grants : ℕ → Contents → ℕ → ℕ → ℕ → Slots 64 → List ℕ → Answered
grants refused b unit time at own out =
    let bytes = responses b.plan unit time at own in
    record {
      refused = refused;
      written = after refused 0 (length bytes);
      book = after refused b (with_row b time at (member_with unit own time));
      held = after refused out (sets out 0 bytes);
    }

-- ---- join
abbrev pub join_in : List ℕ → JoinRequest
join_in s = join_request_from (values_in join_request s)

-- the row that a unit joins into: its own where it is a live member, else the lowest free one
abbrev pub seat : Contents → ℕ → ℕ → ℕ
seat b unit time = cond (live_at b unit time) (place_for unit (rows_at b time)) (place_for 0 (rows_at b time))

-- what it then holds: a live member what it held, a newcomer what it is granted
abbrev pub seated : Contents → ℕ → ℕ → ℕ → Slots 64
seated b unit time asked =
    cond (live_at b unit time)
    (holding b unit time)
    (grant_for b.plan.data_slots (rows_at b time) asked)

-- no row is free, and the unit has none
abbrev pub no_row_for : Contents → ℕ → ℕ → Bool
no_row_for b unit time = not (live_at b unit time) && eqb (vacant (rows_at b time)) 0

-- what it is told
unfoldable pub join_responses : Contents → List ℕ → ℕ → List ℕ
join_responses b s time = let unit = (join_in s).node in responses b.plan unit time (seat b unit time) (seated b unit time (join_in s).slots)

-- 14 1 2 1 3 4 6 15 8 12 5, in a buffer with this room; a request for network 0 is for any
abbrev pub join_reasons : Contents → List ℕ → ℕ → ℕ → List Reason
join_reasons b s time room =
    reason (not (within_rule b)) 14 ∷
    refusing (refusal_as join_request s) ∷
    reason (eqb (join_in s).node b.plan.manager) 6 ∷
    reason (not (eqb (join_in s).network 0) && not (eqb (join_in s).network b.plan.network)) 15 ∷
    reason (not (in_order b.time time)) 8 ∷
    reason (no_row_for b (join_in s).node time) 12 ∷
    reason (ltb room (length (join_responses b s time))) 5 ∷
    []

unfoldable pub join_of : Contents → List ℕ → ℕ → List ℕ → Answered
join_of b s time out =
    let unit = (join_in s).node in
    grants (first (join_reasons b s time (length out))) b unit time (seat b unit time) (seated b unit time (join_in s).slots) out

-- ---- slot request
abbrev pub ask_in : List ℕ → SlotRequest
ask_in s = slot_request_from (values_in slot_request s)

-- what a member then holds, and what it is told
abbrev pub asked_slots : Contents → List ℕ → ℕ → Slots 64
asked_slots b s time = asks b.plan.data_slots (rows_at b time) (holding b (ask_in s).node time) (ask_in s).slots

unfoldable pub ask_responses : Contents → List ℕ → ℕ → List ℕ
ask_responses b s time = let unit = (ask_in s).node in responses b.plan unit time (place_for unit (rows_at b time)) (asked_slots b s time)

-- 14 1 2 1 3 4 6 8 13 5, in a buffer with this room
abbrev pub ask_reasons : Contents → List ℕ → ℕ → ℕ → List Reason
ask_reasons b s time room =
    reason (not (within_rule b)) 14 ∷
    refusing (refusal_as slot_request s) ∷
    reason (eqb (ask_in s).node b.plan.manager) 6 ∷
    reason (not (in_order b.time time)) 8 ∷
    reason (not (live_at b (ask_in s).node time)) 13 ∷
    reason (ltb room (length (ask_responses b s time))) 5 ∷
    []

unfoldable pub ask_of : Contents → List ℕ → ℕ → List ℕ → Answered
ask_of b s time out =
    let unit = (ask_in s).node in
    grants (first (ask_reasons b s time (length out))) b unit time (place_for unit (rows_at b time)) (asked_slots b s time) out
