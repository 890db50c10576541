-- Calls on a unit's table of routes, one after the other; what each of them gives; and what the record of calls and answers alone says: the time that
-- elapses, and when updates from a unit were accepted.
-- Assumes nothing.
use Rattle.std.specs.Prelude.{ℕ, Bool, true, false, ◌&&◌, cond, List, [], ◌∷◌, map, eqb}
use Rattle.octets.specs.Told.{written_in}
use Rattle.moments.specs.Elapsed.{Clock, now_at, Step, moved, clock_after}
use Rattle.route_table.specs.declared.table.Table.{Table}
use Rattle.route_table.specs.Tables.{lookup_of, forget_of}
use Rattle.route_merges.specs.Merges.{update_in, merge_of}
use Rattle.route_forwards.specs.Forwards.{forward_of}
use Rattle.route_pages.specs.Pages.{page_of}
use Rattle.route_relays.specs.Relays.{relay_of}

-- a call with its arguments: any bytes, any numbers, any times
pub data Call : Type 0 where
  -- an update's frame, the quality that it was heard with, the time
  merge : List ℕ → ℕ → ℕ → Call
  -- a unit, the time
  forget : ℕ → ℕ → Call
  -- a network, its manager, a beacon's frame, the delay, the time, the buffer
  forward : ℕ → ℕ → List ℕ → ℕ → ℕ → List ℕ → Call
  -- a destination, the time
  lookup : ℕ → ℕ → Call
  -- a data frame, the time, the ms that its route is to have left, the buffer
  relay : List ℕ → ℕ → ℕ → List ℕ → Call
  -- a page's number, the time, the buffer
  page : ℕ → ℕ → List ℕ → Call

-- ---- what a call is about
-- its time; whether it changes the table, if it is accepted; and whether it brings an update from a unit
pub record About : Type 0 where
  pub time : ℕ
  pub changes : Bool
  pub brings : ℕ → Bool

-- of a call that brings none
abbrev changing : ℕ → Bool → About
changing time changes = record { time = time; changes = changes; brings = λ unit. false }

abbrev pub about : Call → About
about (merge s quality time) = record { time = time; changes = true; brings = λ unit. eqb (update_in s).origin unit }
about (forget unit time) = changing time true
about (forward network manager s delay time out) = changing time true
about (lookup d time) = changing time false
about (relay s time least out) = changing time false
about (page p time out) = changing time false

abbrev pub time_of : Call → ℕ
time_of c = (about c).time

-- ---- what a call gives
-- what its caller sees: the number, and by name what the call gives, 0 where it gives no such thing: whether a frame is for this unit, a next hop, its hops
-- and the ms for which its row is usable, how many candidates found no room and how many rows were compared, how many bytes were written or are a payload's; and what its buffer then holds
pub record Answer : Type 0 where
  pub refused : ℕ
  pub ours : Bool
  pub next_hop : ℕ
  pub hops : ℕ
  pub left : ℕ
  pub skipped : ℕ
  pub compared : ℕ
  pub size : ℕ
  pub held : List ℕ

-- and the table after it
pub record Outcome : Type 0 where
  pub answer : Answer
  pub table : Table

-- of a call that gives a number, and may fill a buffer
abbrev gives : ℕ → ℕ → List ℕ → Table → Outcome
gives refused size held table =
    record { answer = record { refused = refused; ours = false; next_hop = 0; hops = 0; left = 0; skipped = 0; compared = 0; size = size; held = held }; table = table }

-- merge, forget and forward hand a table back, also where they are refused; the others only read
abbrev pub outcome : Table → Call → Outcome
outcome t (merge s quality time) =
    let m = merge_of t s quality time in
    record { answer = record { refused = m.refused; ours = false; next_hop = 0; hops = 0; left = 0; skipped = m.skipped; compared = m.compared; size = 0; held = [] }; table = m.table }
outcome t (forget unit time) = let f = forget_of t unit time in gives f.refused 0 [] f.table
outcome t (forward network manager s delay time out) =
    let f = forward_of t network manager s delay time out in
    gives f.answer.refused f.answer.written f.held f.answer.table
outcome t (lookup d time) =
    let f = lookup_of t d time in
    record { answer = record { refused = f.refused; ours = false; next_hop = f.next_hop; hops = f.hops; left = f.left; skipped = 0; compared = 0; size = 0; held = [] }; table = t }
outcome t (relay s time least out) =
    let r = relay_of t s time least out in
    let a = r.answer in
    record { answer = record { refused = a.refused; ours = a.ours; next_hop = a.next_hop; hops = 0; left = a.left; skipped = 0; compared = 0; size = a.size; held = r.held }; table = t }
outcome t (page p time out) = let w = page_of t p time out in gives w.said.refusal (written_in w) w.held t

abbrev pub answer : Table → Call → Answer
answer t c = (outcome t c).answer

abbrev pub next : Table → Call → Table
next t c = (outcome t c).table

-- ---- calls one after the other
abbrev pub after_calls : Table → List Call → Table
after_calls t [] = t
after_calls t (c ∷ cs) = after_calls (next t c) cs

-- a call with the number that it was answered with, and those of a history in their order
pub record Happened : Type 0 where
  pub call : Call
  pub refused : ℕ

abbrev pub recorded : Table → List Call → List Happened
recorded t [] = []
recorded t (c ∷ cs) = record { call = c; refused = (answer t c).refused } ∷ recorded (next t c) cs

-- ---- from the record alone
-- what happened, as a step of elapsed time
abbrev pub step_of : Happened → Step
step_of h = record { time = time_of h.call; changes = eqb h.refused 0 && (about h.call).changes }

-- the clock after what happened
abbrev pub clock_of : Clock → List Happened → Clock
clock_of k hs = clock_after k (map step_of hs)

-- an update from a unit was accepted
abbrev pub is_update_from : ℕ → Happened → Bool
is_update_from unit h = eqb h.refused 0 && (about h.call).brings unit

-- at which elapsed ms updates from a unit were accepted, the last first: those before what happened, by the clock then, and those that it adds
abbrev pub heard_from : ℕ → Clock → List ℕ → List Happened → List ℕ
heard_from unit k earlier [] = earlier
heard_from unit k earlier (h ∷ hs) =
    heard_from unit (moved k (step_of h)) (cond (is_update_from unit h) (now_at k (time_of h.call) ∷ earlier) earlier) hs
