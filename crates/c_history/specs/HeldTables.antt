-- Calls from C on a table that firmware holds as bytes: what one call may write, what it leaves there, and many calls one after the other, with the record
-- of their statuses.
-- Assumes nothing.
use Rattle.std.specs.Prelude.{ℕ, ◌<◌, List, [], ◌∷◌}
use Rattle.octets.specs.Layouts.{Bytes}
use Rattle.route_history.specs.TableCalls.{Call, merge, forget, forward, lookup, relay, page, Happened}
use Rattle.c_routes.specs.TableCalls.{forget_call, lookup_call}
use Rattle.route_merges.specs.StoredMerges.{merge_call}
use Rattle.c_routes.specs.UpdateCalls.{page_call}
use Rattle.route_forwards.specs.Forwards.{forward_call}
use Rattle.c_routes.specs.RelayCalls.{relay_call}

-- ---- one call
-- a call from C: its arguments, and what the numbers that it fills held before, by their place among them: of a lookup the next hop is number 0, the hops are
-- 1 and what is left is 2, of a relay the next hop is 0, the place 1, the extent 2 and what is left 3, of a merge the skipped are 0 and the compared 1; a forward and a page fill one number
pub record InC : Type 0 where
  pub call : Call
  pub filled : ℕ → ℕ

-- arguments that C can hand over: bytes, and numbers of 8, 16 and 32 bits
abbrev pub Machine : Call → Type 0
Machine (merge frame quality time) = Bytes frame × (quality < 0x100) × (time < 0x100000000)
Machine (forget unit time) = (unit < 0x10000) × (time < 0x100000000)
Machine (forward network manager frame delay time out) = (network < 0x10000) × (manager < 0x10000) × Bytes frame × (delay < 0x100000000) × (time < 0x100000000) × Bytes out
Machine (lookup d time) = (d < 0x10000) × (time < 0x100000000)
Machine (relay frame time least out) = Bytes frame × (time < 0x100000000) × (least < 0x100000000) × Bytes out
Machine (page p time out) = (p < 0x100000000) × (time < 0x100000000) × Bytes out

-- the caller's memory that a call may write: the table's buffer, the buffer for a frame, empty where it takes none, and the numbers that it fills
pub record Memory : Type 0 where
  pub table : List ℕ
  pub out : List ℕ
  pub numbers : List ℕ

abbrev pub holds : List ℕ → List ℕ → List ℕ → Memory
holds table out numbers = record { table = table; out = out; numbers = numbers }

-- what it holds when the call is made
abbrev pub handed_in : List ℕ → Call → (ℕ → ℕ) → Memory
handed_in s (merge frame quality time) filled = holds s [] (filled 0 ∷ filled 1 ∷ [])
handed_in s (forget unit time) filled = holds s [] []
handed_in s (forward network manager frame delay time out) filled = holds s out (filled 0 ∷ [])
handed_in s (lookup d time) filled = holds s [] (filled 0 ∷ filled 1 ∷ filled 2 ∷ [])
handed_in s (relay frame time least out) filled = holds s out (filled 0 ∷ filled 1 ∷ filled 2 ∷ filled 3 ∷ [])
handed_in s (page p time out) filled = holds s out (filled 0 ∷ [])

-- the status of the call, and what that memory holds when it returns. Merge, forget and forward may write the table's buffer; the others only read it
pub record Returned : Type 0 where
  pub status : ℕ
  pub memory : Memory

abbrev pub returned : List ℕ → Call → (ℕ → ℕ) → Returned
returned s (merge frame quality time) filled =
    let call = merge_call s frame quality time (filled 0) (filled 1) in
    record { status = call.status; memory = holds call.table [] (call.skipped ∷ call.compared ∷ []) }
returned s (forget unit time) filled =
    let call = forget_call s unit time in
    record { status = call.status; memory = holds call.table [] [] }
returned s (forward network manager frame delay time out) filled =
    let call = forward_call s network manager frame delay time out (filled 0) in
    record { status = call.status; memory = holds call.table call.out (call.written ∷ []) }
returned s (lookup d time) filled =
    let call = lookup_call s d time (filled 0) (filled 1) (filled 2) in
    record { status = call.status; memory = holds s [] (call.next_hop ∷ call.hops ∷ call.left ∷ []) }
returned s (relay frame time least out) filled =
    let call = relay_call s frame time least out (filled 0) (filled 1) (filled 2) (filled 3) in
    record { status = call.status; memory = holds s call.out (call.next_hop ∷ call.place ∷ call.extent ∷ call.left ∷ []) }
returned s (page p time out) filled =
    let call = page_call s p time out (filled 0) in
    record { status = call.status; memory = holds s call.out (call.written ∷ []) }

-- the status alone
abbrev pub status : List ℕ → Call → (ℕ → ℕ) → ℕ
status s c filled = (returned s c filled).status

-- ---- calls one after the other
-- what the table's buffer then holds
abbrev pub after_calls_in_c : List ℕ → List InC → List ℕ
after_calls_in_c s [] = s
after_calls_in_c s (c ∷ cs) = after_calls_in_c (returned s c.call c.filled).memory.table cs

-- the calls with their statuses, in their order
abbrev pub recorded_in_c : List ℕ → List InC → List Happened
recorded_in_c s [] = []
recorded_in_c s (c ∷ cs) =
    record { call = c.call; refused = status s c.call c.filled } ∷ recorded_in_c (returned s c.call c.filled).memory.table cs

-- the arguments of each are C's
abbrev pub AllMachine : List InC → Type 0
AllMachine [] = Unit
AllMachine (c ∷ cs) = Machine c.call × AllMachine cs

-- ---- the same calls on values
abbrev pub calls_of : List InC → List Call
calls_of [] = []
calls_of (c ∷ cs) = c.call ∷ calls_of cs
