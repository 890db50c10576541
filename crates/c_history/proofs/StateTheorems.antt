-- The laws of lives, of the bytes: those of `unit_life` on states, carried to the buffer.
-- Assumes nothing.
use Rattle.octets.proofs.Words.{◌≡◌, refl, sym, ap, ap₂, transport, ◌∙◌, true, not, ◌&&◌, ◌||◌, cond, List, [], ◌∷◌, ℕ, ◌+◌, ◌^◌, ◌%◌, ◌<◌, ◌≤◌, arith, eqb, length}
use Rattle.octets.specs.Layouts.{Bytes}
use Rattle.octets.specs.Lists.{every}
use Rattle.moments.specs.Elapsed.{Clock, started, now_at, moved}
use Rattle.unit_life.specs.declared.state.State.{State}
use Rattle.unit_life.specs.States.{known}
use Rattle.unit_life.specs.Calls.{fresh_state, on_event, on_tick}
use Rattle.unit_life.specs.Histories.{Call, event, tick, time_of, is_tick, answer, run, all_at, step_of, steps_of, early, quiet, since_tick}
use Rattle.unit_life.specs.Laws.{Ticking, since_beacon, TicksTimely}
use Rattle.unit_life.proofs.HistoryLaws.{stays_within_rule, only_for_superframes, run_stopped, no_other_trap, accepted-kind}
use Rattle.unit_life.proofs.LifeLaws.{starts_anew}
use Rattle.unit_life.proofs.SilenceLaws.{notices_silence}
use Rattle.unit_life.proofs.TrueTimeLaws.{states_true_time}
use Rattle.unit_life.specs.StateBytes.{state_size, state_in, bytes_of_state}
use Rattle.unit_life.specs.StateTrips.{StateSized}
use Rattle.unit_life.proofs.StateTripLaws.{state_reads_back, state-sized, state_writes_back}
use Rattle.c_unit.specs.StateCalls.{event_call, tick_call}
use Rattle.c_history.specs.HeldStates.{leaves, buffer_after, AllMachine, steps_in_c, quiet_in_c, since_tick_in_c}
use Rattle.c_history.specs.StateLaws.{TickingInC, OnlyForSuperframesInC, StaysStoppedInC, NoOtherTrapInC, NoticesSilenceInC, StartsAnewInC, TicksTimelyInC, TrueTimeInC}
use Rattle.c_history.proofs.StateStored.{next-sized, fresh-sized, leaves-same, status-same, left-read, run-sized, fresh-same, stays_stored, stored-from}

-- ---- what statuses say is what answers do
-- whatever is made of a call's status and of what it leaves
turn {ℓ} : {R : Type ℓ} (made : ℕ → List ℕ → R) (s : State) → StateSized s → (c : Call)
    → made (leaves (bytes_of_state s) c).status (leaves (bytes_of_state s) c).state ≡ made (answer s c).refused (bytes_of_state (answer s c).state)
turn made s f c = ap₂ made (status-same s f c) (leaves-same s f c)

steps-same : (s : State) (cs : List Call) → AllMachine cs → StateSized s → steps_in_c (bytes_of_state s) cs ≡ steps_of s cs
steps-same s [] m f = refl
steps-same s (c ∷ cs) m f =
    turn (λ n b. record { time = time_of c; changes = eqb n 0 } ∷ steps_in_c b cs) s f c
    ∙ ap (λ ss. step_of s c ∷ ss) (steps-same (answer s c).state cs m.1 (next-sized s c m.0 f))

quiet_same : (since : Clock) (s : State) (cs : List Call) → AllMachine cs → StateSized s → quiet_in_c since (bytes_of_state s) cs ≡ quiet since s cs
quiet_same since s [] m f = refl
quiet_same since s (c ∷ cs) m f =
    turn (λ n b. (not (eqb n 0) || early since c) && quiet_in_c (moved since (record { time = time_of c; changes = eqb n 0 })) b cs) s f c
    ∙ ap (λ later. (not (eqb (answer s c).refused 0) || early since c) && later)
    (quiet_same (moved since (step_of s c)) (answer s c).state cs m.1 (next-sized s c m.0 f))

since-same : (since : Clock) (s : State) → StateSized s → (c : Call) → since_tick_in_c since (bytes_of_state s) c ≡ since_tick since s c
since-same since s f (event number time) = ap (λ n. moved since (record { time = time; changes = eqb n 0 })) (status-same s f (event number time))
since-same since s f (tick ms time) = ap (λ n. cond (eqb n 0) (started time) since) (status-same s f (tick ms time))

ticking_same : (since : Clock) (s : State) (cs : List Call) → AllMachine cs → StateSized s → TickingInC since (bytes_of_state s) cs ≡ Ticking since s cs
ticking_same since s [] m f = refl
ticking_same since s (c ∷ cs) m f =
    ap₂ (λ (here later : Type 0). here × later) (ap (λ n. n ≡ 0 → now_at since (time_of c) ≤ 2 ^ 30) (status-same s f c))
    (ap₂ (λ k b. TickingInC k b cs) (since-same since s f c) (leaves-same s f c)
    ∙ ticking_same (since_tick since s c) (answer s c).state cs m.1 (next-sized s c m.0 f))

timely-same : (last ticked : ℕ) (s : State) (cs : List Call) (nows : List ℕ) → AllMachine cs → StateSized s
    → TicksTimelyInC last ticked (bytes_of_state s) cs nows ≡ TicksTimely last ticked s cs nows
timely-same last ticked s [] nows m f = refl
timely-same last ticked s (c ∷ cs) [] m f = refl
timely-same last ticked s (c ∷ cs) (now ∷ nows) m f =
    let here : ℕ → Type 0 → Type 0 = λ n later. (time_of c ≡ now % 2 ^ 32) × ((n ≡ 0 → (last ≤ now) × (now ≤ ticked + 2 ^ 30)) × later) in
    turn (λ n b. here n (TicksTimelyInC (cond (eqb n 0) now last) (cond (is_tick c && eqb n 0) now ticked) b cs nows)) s f c
    ∙ ap (here (answer s c).refused) (timely-same (cond (eqb (answer s c).refused 0) now last) (cond (is_tick c && eqb (answer s c).refused 0) now ticked) (answer s c).state cs nows m.1 (next-sized s c m.0 f))

-- ---- from a fresh state on
pub only_for_superframes_in_c : OnlyForSuperframesInC
only_for_superframes_in_c s began cs t m e ticking =
    let now = run (fresh_state began) cs in
    let f = run-sized (fresh_state began) cs m (fresh-sized began t) in
    let ticks : Ticking (started began) (fresh_state began) cs =
    transport (ticking_same (started began) (fresh_state began) cs m (fresh-sized began t)) (rw (fresh-same s began e) at ticking) in
    rw (stays_stored s began cs t m e) (
      rw (state_reads_back now f).0 (stays_within_rule began cs ticks),
      λ c q. only_for_superframes began cs c ticks (sym (status-same now f c) ∙ q),
    )

pub true_time_in_c : TrueTimeInC
true_time_in_c s began cs nows m e timely =
    let time = began % 2 ^ 32 in
    let start = fresh_state time in
    let f = fresh-sized time (omega arith) in
    let fresh = fresh-same s time e in
    let (ticking, elapsed) = states_true_time began cs nows (transport (timely-same began began start cs nows m f) (rw fresh at timely)) in
    rw fresh (transport (sym (ticking_same (started time) start cs m f)) ticking, rw (steps-same start cs m f) elapsed)

-- ---- from any stored state on
module _ (s : List ℕ) (b : Bytes s) (l : length s ≡ state_size) where
  -- the state in the buffer is the one that the calls give
  held-read : (cs : List Call) → AllMachine cs → state_in (buffer_after s cs) ≡ run (state_in s) cs
  held-read cs m = ap state_in (stored-from s cs b l m) ∙ (state_reads_back (run (state_in s) cs) (run-sized (state_in s) cs m (state-sized s b))).0

pub stays_stopped_in_c : StaysStoppedInC
stays_stopped_in_c s cs b l m e = ap (λ (x : State). x.kind) (held-read s b l cs m) ∙ run_stopped (state_in s) cs e

-- the events that are named have 8 bits
all_machine : (es : List ℕ) (time : ℕ) → time < 0x100000000 → every known es ≡ true → AllMachine (all_at es time)
unfolding every
all_machine [] time t e = tt
all_machine (n ∷ es) time t e = ((grind (arith, e), t), all_machine es time t (grind (arith, e)))

pub no_other_trap_in_c : NoOtherTrapInC
no_other_trap_in_c s time b l t within running ordered =
    let (es, named, normal) = no_other_trap (state_in s) time within running ordered in
    let m = all_machine es time t named in
    (es, m, ap (λ (x : State). x.kind) (held-read s b l (all_at es time) m) ∙ normal)

-- ---- silence
pub notices_silence_in_c : NoticesSilenceInC
notices_silence_in_c s cs ms time b l m k rule normal q e =
    let now = run (state_in s) cs in
    let f = run-sized (state_in s) cs m (state-sized s b) in
    let held = stored-from s cs b l m in
    let whole = state_writes_back s b l in
    let since = since_beacon (state_in s) in
    let accepted : (on_tick now ms time).refused ≡ 0 = sym (ap (λ (x : List ℕ). (tick_call x ms time).status) held ∙ status-same now f (tick ms time)) ∙ e in
    let left = ap (λ (x : List ℕ). state_in (tick_call x ms time).state) held ∙ left-read now f (tick ms time) k in
    let silent = sym (quiet_same since (state_in s) cs m (state-sized s b)) ∙ (ap (λ (x : List ℕ). quiet_in_c since x cs) whole ∙ q) in
    let steps = ap (λ (x : List ℕ). steps_in_c x cs) (sym whole) ∙ steps-same (state_in s) cs m (state-sized s b) in
    let (late, early) = notices_silence (state_in s) cs ms time rule normal silent accepted in
    rw (steps, left) (λ h. late (omega (arith, h)), λ h. early (omega (arith, h)))

pub starts_anew_in_c : StartsAnewInC
starts_anew_in_c s number time b l k e normal =
    let f = state-sized s b in
    let whole = state_writes_back s b l in
    let was = state_in s in
    let accepted : (on_event was number time).refused ≡ 0 =
    sym (status-same was f (event number time)) ∙ (ap (λ (x : List ℕ). (event_call x number time).status) whole ∙ e) in
    let left = ap (λ (x : List ℕ). state_in (event_call x number time).state) (sym whole) ∙ left-read was f (event number time) k in
    let leads = sym (accepted-kind was (event number time) accepted) ∙ (sym (ap (λ (x : State). x.kind) left) ∙ normal) in
    ap (λ (x : State). x.beacon) left ∙ starts_anew was number time accepted leads
