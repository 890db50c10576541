-- What each call on a state answers: a refusal with the state as it was, or the next state.
-- Assumes nothing.
use Rattle.std.specs.Prelude.{ℕ, Bool, not, ◌&&◌, ◌||◌, cond, List, [], ◌∷◌, eqb, leb}
use Rattle.octets.specs.Answers.{Reason, reason, first}
use Rattle.octets.specs.Calls.{after}
use Rattle.moments.specs.Moments.{age_at, in_order}
use Rattle.unit_life.specs.declared.state.State.{State}
use Rattle.unit_life.specs.Outcomes.{Lived}
use Rattle.unit_life.specs.States.{Initializing, Discovery, Joining, Normal, Recovery, Stopped, Nowhere, beacon, kind_after, tick_to}

-- the kinds whose time runs from their entry
abbrev pub runs_from_entry : ℕ → Bool
runs_from_entry kind = eqb kind Discovery || eqb kind Joining || eqb kind Recovery

-- a state is within rule: its kind is known, and the time that its kind acts on is in order with the last accepted one, its entry where the time runs from
-- that, its last beacon in Normal. No other time is judged
abbrev pub within_rule : State → Bool
within_rule s =
    leb s.kind Stopped
    && (not (runs_from_entry s.kind) || in_order s.entered s.last)
    && (not (eqb s.kind Normal) || in_order s.beacon s.last)

-- fresh: Initializing, with the given time for all three
abbrev pub fresh_state : ℕ → State
fresh_state time = record { kind = Initializing; last = time; entered = time; beacon = time }

-- the state that goes to a kind at a time. A change of kind sets `entered`; `heard` says that a beacon counts, and so does entering Normal
unfoldable pub moved_on : State → ℕ → Bool → ℕ → State
moved_on s to heard time =
    let changed = not (eqb to s.kind) in
    record {
      kind = to;
      last = time;
      entered = cond changed time s.entered;
      beacon = cond (heard && not changed || changed && eqb to Normal) time s.beacon;
    }

-- the first refusal with the state as it was, or the next state
abbrev pub lived : List Reason → State → State → Lived
lived rs s next = record { refused = first rs; state = after (first rs) s next }

-- why a call is refused: a state out of rule is 14, a time before the last accepted one 8; then the call's own reason
abbrev pub reasons : State → ℕ → Reason → List Reason
reasons s time own = reason (not (within_rule s)) 14 ∷ reason (not (in_order s.last time)) 8 ∷ own ∷ []

-- the answer of a call that has its own reason and else goes to a kind
abbrev pub stepped : State → ℕ → Reason → ℕ → Bool → Lived
stepped s time own to heard = lived (reasons s time own) s (moved_on s to heard time)

-- an event at a time: 14, 8, 7
unfoldable pub on_event : State → ℕ → ℕ → Lived
on_event s event time =
    let to = kind_after s.kind event in
    stepped s time (reason (eqb to Nowhere) 7) to (eqb event beacon)

-- a superframe has 1 to 6,553,500 ms
abbrev pub superframe_rule : ℕ → Bool
superframe_rule ms = leb 1 ms && leb ms 6553500

-- a tick at a time, which names the superframe's ms: 14, 8, 14. It is never 7 and makes one change at most
unfoldable pub on_tick : State → ℕ → ℕ → Lived
on_tick s ms time =
    let to = tick_to s.kind (age_at time s.entered) (age_at time s.beacon) ms in
    stepped s time (reason (not (superframe_rule ms)) 14) to Bool.false
