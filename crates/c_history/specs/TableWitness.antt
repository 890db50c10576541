-- A history that is not empty and passes the top of its times: a unit makes its table, hears a neighbour's update, and looks the neighbour up.
-- Assumes nothing.
use Rattle.std.specs.Prelude.{◌≡◌, List, [], ◌∷◌, ℕ, ◌-◌, ◌^◌, replicate}
use Rattle.moments.specs.Elapsed.{started, now_at}
use Rattle.route_history.specs.TableCalls.{merge, clock_of}
use Rattle.c_routes.specs.TableCalls.{fresh_call, lookup_left, lookup_call}
use Rattle.c_history.specs.HeldTables.{InC, after_calls_in_c, recorded_in_c}

-- an update of unit 2 with no entries
abbrev pub neighbourly : List ℕ
neighbourly = 0x31 ∷ 2 ∷ 0 ∷ 0 ∷ 0 ∷ 0 ∷ 0 ∷ 0 ∷ 0x33 ∷ []

-- unit 1 begins 10 ms before the top on a buffer of anything, and merges that update 5 ms before it
abbrev pub began : ℕ
began = 2 ^ 32 - 10

abbrev pub heard_once : List InC
heard_once = record { call = merge neighbourly 200 (2 ^ 32 - 5); filled = λ n. 0 } ∷ []

abbrev pub freshly : List ℕ
freshly = (fresh_call (replicate 539 7) 1 began).table

abbrev pub buffer_then : List ℕ
buffer_then = after_calls_in_c freshly heard_once

-- the lookup of unit 2 answers it up to an age of 300,000 ms, when none are left, and is then refused with 11; by then 300,005 ms have elapsed since the
-- beginning
abbrev pub AnswersAtLast : Type 0
AnswersAtLast =
    ((fresh_call (replicate 539 7) 1 began).status ≡ 0)
    × (lookup_call buffer_then 2 299995 0 0 7 ≡ lookup_left 0 2 1 0)
    × (lookup_call buffer_then 2 299996 0 0 7 ≡ lookup_left 11 0 0 7)
    × (now_at (clock_of (started began) (recorded_in_c freshly heard_once)) 299995 ≡ 300005)
