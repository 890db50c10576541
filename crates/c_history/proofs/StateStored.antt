-- Along calls from C the buffer holds the bytes of the state that the same calls give on values.
-- Assumes nothing.
use Rattle.octets.proofs.Words.{◌≡◌, refl, sym, ap, ◌∙◌, Bool, List, [], ◌∷◌, ℕ, ◌<◌, ◌≤◌, ℕ_discrete, arith, eqb-true, leb-true, eqb, length}
use Rattle.octets.proofs.CallLaws.{after-accepted, after-refused, left_as, stored-none}
use Rattle.unit_life.specs.declared.state.State.{State}
use Rattle.unit_life.specs.Outcomes.{Lived}
use Rattle.unit_life.specs.Calls.{fresh_state, moved_on, on_event, on_tick}
use Rattle.unit_life.specs.Histories.{Call, event, tick, time_of, answer, run}
use Rattle.unit_life.specs.States.{Stopped}
use Rattle.unit_life.proofs.HistoryLaws.{refused_keeps}
use Rattle.unit_life.proofs.StepLaws.{entered_by, beacon-by, target, hears, taken, taken-known}
use Rattle.unit_life.specs.StateBytes.{state_size, state_in, bytes_of_state, state_over}
use Rattle.unit_life.specs.StateTrips.{StateSized}
use Rattle.unit_life.proofs.StateTripLaws.{length-state, state_reads_back, state_fills, state-sized, state_writes_back}
use Rattle.c_unit.specs.StateCalls as states
use Rattle.c_unit.specs.StateCalls.{fresh_call, event_call, tick_call}
use Rattle.c_history.specs.HeldStates.{Machine, leaves, buffer_after, AllMachine}
use Rattle.c_history.specs.StateLaws.{SizedKept, StaysStored, StoredFrom, RefusedLeaves}

-- ---- numbers that fit
machine_time : (c : Call) → Machine c → time_of c < 0x100000000
machine_time (event number time) (n, t) = omega arith
machine_time (tick ms time) (m, t) = omega arith

-- each time of a state that goes to a kind is one that it had, or the time of going
gone_sized : (s : State) (to : ℕ) (heard : Bool) (time : ℕ) → to ≤ Stopped → time < 0x100000000 → StateSized s → StateSized (moved_on s to heard time)
unfolding moved_on
gone_sized s to heard time k t (_, (_, (entered, (beacon, _)))) =
    let fits : ℕ → Type 0 = λ n. n < 0x100000000 in
    (omega (arith, k), (t, (entered_by fits s to heard time t (λ same. entered), (beacon-by fits s to heard time t (λ kept. beacon), tt))))

pub next-sized : (s : State) (c : Call) → Machine c → StateSized s → StateSized (answer s c).state
next-sized s c m f = go (ℕ_discrete (answer s c).refused 0)
  where
    go : Dec ((answer s c).refused ≡ 0) → StateSized (answer s c).state
    go (yes e) =
        let t = taken s c e in
        rw t.gives (gone_sized s (target s c) (hears c) (time_of c) (leb-true _ _ (taken-known s c t)) (machine_time c m) f)
    go (no e) = rw (refused_keeps s c e) f

pub fresh-sized : (began : ℕ) → began < 0x100000000 → StateSized (fresh_state began)
fresh-sized began t = (omega arith, (t, (t, (t, tt))))

pub sized-kept : SizedKept
sized-kept = (fresh-sized, next-sized)

-- ---- one call
left : (s : State) (l : Lived) → ((l.refused ≡ 0 → ⊥) → l.state ≡ s) → (states.leaves (bytes_of_state s) l).state ≡ bytes_of_state l.state
left s l kept = rw (length-state s, state_fills (bytes_of_state s) l.state (length-state s)) (left_as bytes_of_state l.refused s l.state kept)

pub leaves-same : (s : State) → StateSized s → (c : Call) → (leaves (bytes_of_state s) c).state ≡ bytes_of_state (answer s c).state
unfolding event_call tick_call
leaves-same s f (event number time) = rw (state_reads_back s f).0 (left s (on_event s number time) (refused_keeps s (event number time)))
leaves-same s f (tick ms time) = rw (state_reads_back s f).0 (left s (on_tick s ms time) (refused_keeps s (tick ms time)))

pub status-same : (s : State) → StateSized s → (c : Call) → (leaves (bytes_of_state s) c).status ≡ (answer s c).refused
unfolding event_call tick_call
status-same s f (event number time) = rw ((state_reads_back s f).0, length-state s)
status-same s f (tick ms time) = rw ((state_reads_back s f).0, length-state s)

-- the state in the buffer after it is the one that it gives
pub left-read : (s : State) → StateSized s → (c : Call) → Machine c → state_in (leaves (bytes_of_state s) c).state ≡ (answer s c).state
left-read s f c m = ap state_in (leaves-same s f c) ∙ (state_reads_back (answer s c).state (next-sized s c m f)).0

-- ---- calls one after the other
pub run-sized : (s : State) (cs : List Call) → AllMachine cs → StateSized s → StateSized (run s cs)
run-sized s [] m f = f
run-sized s (c ∷ cs) m f = run-sized (answer s c).state cs m.1 (next-sized s c m.0 f)

buffer-same : (s : State) (cs : List Call) → AllMachine cs → StateSized s → buffer_after (bytes_of_state s) cs ≡ bytes_of_state (run s cs)
buffer-same s [] m f = refl
buffer-same s (c ∷ cs) m f =
    ap (λ (b : List ℕ). buffer_after b cs) (leaves-same s f c) ∙ buffer-same (answer s c).state cs m.1 (next-sized s c m.0 f)

pub fresh-same : (s : List ℕ) (began : ℕ) → (fresh_call s began).status ≡ 0 → (fresh_call s began).state ≡ bytes_of_state (fresh_state began)
unfolding fresh_call
fresh-same s began e =
    after-accepted (fresh_call s began).status s (state_over s (fresh_state began)) e
    ∙ state_fills s (fresh_state began) (eqb-true (length s) state_size (stored-none (eqb (length s) state_size) 0 e).0)

pub stays_stored : StaysStored
stays_stored s began cs t m e = ap (λ (b : List ℕ). buffer_after b cs) (fresh-same s began e) ∙ buffer-same (fresh_state began) cs m (fresh-sized began t)

pub stored-from : StoredFrom
stored-from s cs b l m = ap (λ (s : List ℕ). buffer_after s cs) (sym (state_writes_back s b l)) ∙ buffer-same (state_in s) cs m (state-sized s b)

-- ---- refusals
pub refused-leaves : RefusedLeaves
unfolding event_call tick_call
refused-leaves s (event number time) z = after-refused _ s _ z
refused-leaves s (tick ms time) z = after-refused _ s _ z
