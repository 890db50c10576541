-- Calls from C on a member book that firmware holds as bytes, one after the other, from a fresh book or from a restored image on; what each of them
-- answers; and what those answers alone say that each unit was granted.
-- Assumes nothing.
use Rattle.std.specs.Prelude.{ℕ, ◌<◌, Bool, List, [], ◌∷◌, map}
use Rattle.octets.specs.Layouts.{Bytes}
use Rattle.book_history.specs.Calls.{Call, join, ask, heard, leave, schedule, image}
use Rattle.site_plan.specs.PlanBytes.{plan_at}
use Rattle.book_bytes.specs.BookBytes.{book_in}
use Rattle.book_history.specs.Histories.{Start, Answer, Happened, recent_since, granted_since}
use Rattle.book_history.specs.Histories as histories
use Rattle.octets.specs.Calls.{WriteLeft}
use Rattle.octets.specs.Lists.{Each}
use Rattle.c_read_back.specs.FramesRead.{slots_read}
use Rattle.c_book.specs.BookCalls.{BookLeft, fresh_call, heard_call, leave_call, restore_call, schedule_call, image_call}
use Rattle.c_requests.specs.RequestCalls.{RequestLeft, request_left, join_call, slot_request_call}

-- ---- the start
pub data StartInC : Type 0 where
  -- a plan's bytes, the time
  fresh : List ℕ → ℕ → StartInC
  -- an image's bytes, the time
  restored : List ℕ → ℕ → StartInC

-- what it leaves in a buffer
abbrev pub begins_in : List ℕ → StartInC → BookLeft
begins_in s (fresh plan time) = fresh_call s plan time
begins_in s (restored bytes time) = restore_call s bytes time

abbrev pub MachineStart : StartInC → Type 0
MachineStart (fresh plan time) = Bytes plan × (time < 0x100000000)
MachineStart (restored bytes time) = Bytes bytes × (time < 0x100000000)

-- the same start on values
abbrev pub start_of : StartInC → Start
start_of (fresh plan time) = histories.fresh (plan_at plan 0) time
start_of (restored bytes time) = histories.restored bytes time

-- ---- one call
-- a call from C: its arguments, and what the number that it fills, `written`, held before
pub record InC : Type 0 where
  pub call : Call
  pub filled : ℕ

-- arguments that C can hand over: bytes, and numbers of 16 and 32 bits
abbrev pub Machine : Call → Type 0
Machine (join frame time out) = Bytes frame × (time < 0x100000000) × Bytes out
Machine (ask frame time out) = Bytes frame × (time < 0x100000000) × Bytes out
Machine (heard unit time) = (unit < 0x10000) × (time < 0x100000000)
Machine (leave unit time) = (unit < 0x10000) × (time < 0x100000000)
Machine (schedule unit hop time out) = (unit < 0x10000) × (hop < 0x100000000) × (time < 0x100000000) × Bytes out
Machine (image time out) = (time < 0x100000000) × Bytes out

-- what is left by a call that writes nothing, ..
abbrev pub changing : BookLeft → RequestLeft
changing r = request_left r.status r.book [] 0

-- .. and by one that is lent the book's buffer to read
abbrev pub reading : List ℕ → WriteLeft → RequestLeft
reading s r = request_left r.status s r.out r.written

-- the status, the book's buffer after the call, accepted or refused, the other buffer, and the number of bytes written
abbrev pub returned : List ℕ → Call → ℕ → RequestLeft
returned s (join frame time out) filled = join_call s frame time out filled
returned s (ask frame time out) filled = slot_request_call s frame time out filled
returned s (heard unit time) filled = changing (heard_call s unit time)
returned s (leave unit time) filled = changing (leave_call s unit time)
returned s (schedule unit hop time out) filled = reading s (schedule_call s unit hop time out filled)
returned s (image time out) filled = reading s (image_call s time out filled)

abbrev pub leaves : List ℕ → Call → ℕ → List ℕ
leaves s c filled = (returned s c filled).book

-- what the caller sees
abbrev pub answer_in_c : List ℕ → Call → ℕ → Answer
answer_in_c s c filled = let r = returned s c filled in record { refused = r.status; written = r.written; held = r.out }

-- ---- calls one after the other
abbrev pub buffer_after : List ℕ → List InC → List ℕ
buffer_after s [] = s
buffer_after s (c ∷ cs) = buffer_after (leaves s c.call c.filled) cs

abbrev pub recorded_in_c : List ℕ → List InC → List Happened
recorded_in_c s [] = []
recorded_in_c s (c ∷ cs) = record { call = c.call; answer = answer_in_c s c.call c.filled } ∷ recorded_in_c (leaves s c.call c.filled) cs

abbrev pub AllMachine : List InC → Type 0
AllMachine = Each (λ c. Machine c.call)

-- the same calls on values
abbrev pub calls_of : List InC → List Call
calls_of = map (λ c. c.call)

-- ---- grants: what a unit was told, from the bytes at the start and the answers alone, each response frame as the reader of frames reads it; what has elapsed
-- is made from the calls' times and statuses
abbrev pub granted_in_c : List ℕ → List InC → ℕ → ℕ → List ℕ
granted_in_c s cs unit time = granted_since slots_read (book_in s) (recorded_in_c s cs) unit time

-- the unit is not silent at a time
abbrev pub recent_in_c : List ℕ → List InC → ℕ → ℕ → Bool
recent_in_c s cs unit time = recent_since slots_read (book_in s) (recorded_in_c s cs) unit time
