-- Document 01's story of units that join, ask and leave, as calls on one book from its fresh state on.
-- Assumes nothing.
use Rattle.std.specs.Prelude.{ℕ, ◌/◌, ◌≡◌, List, [], ◌∷◌, map, replicate}
use Rattle.frame_kinds.specs.Shape.{frame_of}
use Rattle.frame_requests.specs.Requests.{join_request, join_request_values, slot_request, slot_request_values}
use Rattle.site_plan.specs.declared.plan.Plan.{Plan}
use Rattle.book.specs.Books.{Contents, fresh_book}
use Rattle.book_joins.specs.Responses.{told_in}
use Rattle.book_history.specs.Calls.{Call, join, ask, leave, outcome, next}
use Rattle.book_history.specs.Histories.{fresh, granted_at}

-- ---- what a call says
-- the number, and the slots that a unit is told: its control slot, then its data slots
abbrev pub told : Contents → Call → List ℕ
told b c = let o = outcome b c in o.refused ∷ told_in (o.written / 13) o.held

-- what calls say, one after the other
abbrev pub run : Contents → List Call → List (List ℕ)
run b [] = []
run b (c ∷ cs) = told b c ∷ run (next b c) cs

-- ---- the story
-- h 3, M 4, D 6
abbrev pub plan_of_site : Plan
plan_of_site = record { network = 1; manager = 0x0100; max_hops = 3; rows = 4; data_slots = 6; slot_ms = 1000; beacon_type = 0x46 }

-- room for the five responses of a unit with four slots
abbrev pub room : List ℕ
room = replicate 65 0

abbrev pub joins : ℕ → ℕ → Call
joins unit asked = join (frame_of join_request (join_request_values (record { node = unit; capabilities = 0; network = 1; slots = asked })) []) 0 room

abbrev pub asks : ℕ → ℕ → Call
asks unit asked = ask (frame_of slot_request (slot_request_values (record { node = unit; slots = asked; priority = 0; reason = 0 })) []) 0 room

abbrev pub calls : List Call
calls =
    joins 0x0201 4 ∷
    joins 0x0202 2 ∷
    joins 0x0203 0 ∷
    joins 0x0204 4 ∷
    leave 0x0201 0 ∷
    asks 0x0202 3 ∷
    joins 0x0204 4 ∷
    []

unfoldable pub story : List (List ℕ)
story = run (fresh_book plan_of_site 0) calls

-- ---- what the story grants
-- the manager and the four units, and the slots that the answers of all the calls grant to each, its control slot first
abbrev pub units : List ℕ
units = 0x0100 ∷ 0x0201 ∷ 0x0202 ∷ 0x0203 ∷ 0x0204 ∷ []

abbrev pub story_grants : List (List ℕ)
story_grants = map (λ unit. granted_at (fresh plan_of_site 0) calls unit 0) units

abbrev pub GrantsInTheStory : Type 0
GrantsInTheStory = story_grants ≡ (4 ∷ 8 ∷ []) ∷ [] ∷ (6 ∷ 9 ∷ 10 ∷ 12 ∷ []) ∷ (7 ∷ 13 ∷ []) ∷ (5 ∷ 11 ∷ []) ∷ []
