-- A unit in Normal that hears no beacon, after any calls: an accepted tick finds out when that is too long.
-- Assumes nothing.
use Rattle.octets.proofs.Words.{◌≡◌, refl, sym, subst, Bool, true, false, not, cond, ◌||◌, false≢true, and-eq-true_iff, List, [], ◌∷◌, ℕ, ◌*◌, ◌<◌, ◌≤◌, arith, lt-ltb, le-ltb, eq-eqb, eqb-true, leb-true, eqb, ltb}
use Rattle.moments.specs.Elapsed.{Clock, now_at, moved, clock_after}
use Rattle.moments.specs.Moments.{age_at, in_order}
use Rattle.moments.proofs.MomentLaws.{ages_add, young_in_order}
use Rattle.unit_life.specs.States.{Normal, Recovery, tick_to}
use Rattle.unit_life.specs.declared.state.State.{State}
use Rattle.unit_life.specs.Calls.{on_tick, moved_on}
use Rattle.unit_life.specs.Histories.{Call, event, tick, time_of, answer, run, step_of, steps_of, early, quiet}
use Rattle.unit_life.specs.Laws.{NoticesSilence}
use Rattle.unit_life.proofs.StepLaws.{within, taken, short}
use Rattle.unit_life.proofs.HistoryLaws.{refused_stays}

-- what one accepted tick in Normal does
one-tick : (s : State) (ms time : ℕ) → s.kind ≡ Normal → (on_tick s ms time).refused ≡ 0
    → (3 * ms < age_at time s.beacon → (on_tick s ms time).state.kind ≡ Recovery)
    × (age_at time s.beacon ≤ 3 * ms → (on_tick s ms time).state.kind ≡ Normal)
unfolding on_tick tick_to moved_on
one-tick s ms time normal e =
    let taken : eqb (on_tick s ms time).refused 0 ≡ true = eq-eqb (on_tick s ms time).refused 0 e in
    (λ silent. rw (taken, normal, lt-ltb _ _ silent), λ heard. rw (taken, normal, le-ltb _ _ heard))

-- a unit in Normal, and a clock that began with its last beacon
record Hearing (since : Clock) (s : State) : Type 0 where
  normal : s.kind ≡ Normal
  past : in_order s.beacon s.last ≡ true
  last : since.last ≡ s.last
  silent : since.elapsed ≡ age_at s.last s.beacon

-- at a time that is accepted the clock tells the age of that beacon
silent_for : {since : Clock} {s : State} → Hearing since s → (time : ℕ) → in_order s.last time ≡ true → now_at since time ≡ age_at time s.beacon
silent_for {since} {s} h time ordered = rw (h.last, h.silent) (omega (arith, ages_add s.beacon s.last time h.past ordered))

-- a tick no more than three superframes after the beacon records nothing but its time
stays_so : (s : State) (ms time : ℕ) → s.kind ≡ Normal → (on_tick s ms time).refused ≡ 0 → age_at time s.beacon ≤ 3 * ms
    → ((on_tick s ms time).state.kind ≡ Normal) × ((on_tick s ms time).state.last ≡ time) × ((on_tick s ms time).state.beacon ≡ s.beacon)
unfolding on_tick tick_to moved_on
stays_so s ms time normal z h =
    let taken : eqb (on_tick s ms time).refused 0 ≡ true = eq-eqb (on_tick s ms time).refused 0 z in
    let in_time : ltb (3 * ms) (age_at time s.beacon) ≡ false = le-ltb (3 * ms) (age_at time s.beacon) h in
    (rw (taken, normal, in_time), rw taken, rw (taken, normal, in_time))

early_stays : {since : Clock} {s : State} (c : Call) → Hearing since s → (answer s c).refused ≡ 0 → early since c ≡ true
    → Hearing (record { last = time_of c; elapsed = now_at since (time_of c) }) (answer s c).state
early_stays (event number time) h z e = absurd (false≢true e)
early_stays {since} {s} (tick ms time) h z e =
    let t = taken s (tick ms time) z in
    let age = silent_for h time t.ordered in
    let waited = leb-true (now_at since time) _ e in
    let soon : age_at time s.beacon ≤ 3 * ms = omega (arith, age, waited) in
    let (normal, last, heard) = stays_so s ms time h.normal z soon in
    record {
      normal = normal;
      past = rw (last, heard) (young_in_order time s.beacon 20000000 (omega arith) (omega (arith, soon, short t)));
      last = sym last;
      silent = rw (last, heard) age;
    }

stays : {since : Clock} {s : State} (c : Call) → Hearing since s → (not (eqb (answer s c).refused 0) || early since c) ≡ true
    → Hearing (moved since (step_of s c)) (answer s c).state
stays {since} {s} c h e = go (eqb (answer s c).refused 0) refl e
  where
    go : (b : Bool) → eqb (answer s c).refused 0 ≡ b → (not b || early since c) ≡ true
        → Hearing (cond b (record { last = time_of c; elapsed = now_at since (time_of c) }) since) (answer s c).state
    go true q e = early_stays c h (eqb-true (answer s c).refused 0 q) e
    go false q e = refused_stays (Hearing since) s c h q

stays_all : {since : Clock} (s : State) (cs : List Call) → Hearing since s → quiet since s cs ≡ true → Hearing (clock_after since (steps_of s cs)) (run s cs)
stays_all s [] h q = h
stays_all {since} s (c ∷ cs) h q =
    let (here, later) =
    (and-eq-true_iff (not (eqb (answer s c).refused 0) || early since c) (quiet (moved since (step_of s c)) (answer s c).state cs)).0 q in
    stays_all {since = moved since (step_of s c)} (answer s c).state cs (stays c h here) later

pub notices_silence : NoticesSilence
notices_silence s cs ms time rule normal q e =
    let h = stays_all s cs (record { normal = normal; past = (within s rule).heard (rw normal); last = refl; silent = refl }) q in
    let kind = (on_tick (run s cs) ms time).state.kind in
    subst (λ n. (3 * ms < n → kind ≡ Recovery) × (n ≤ 3 * ms → kind ≡ Normal)) (sym (silent_for h time (taken (run s cs) (tick ms time) e).ordered))
    (one-tick (run s cs) ms time h.normal e)
