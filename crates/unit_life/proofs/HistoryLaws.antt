-- What holds of calls one after the other: the statements of specs/Laws on lists of calls, proved, but for those on silence and true time.
-- Assumes nothing.
use Rattle.octets.proofs.Words.{◌≡◌, refl, sym, ap, subst, ◌∙◌, Bool, true, false, not, ◌&&◌, false≢true, List, [], ◌∷◌, ℕ, zero, suc, ◌+◌, ◌<◌, ◌≤◌, ◌^◌, arith, eq-eqb, eqb-true, eqb-false, eqb}
use Rattle.octets.specs.Answers.{Reason, reason, first}
use Rattle.octets.specs.Lists.{every}
use Rattle.octets.proofs.AnswerLaws.{Where, never_given}
use Rattle.octets.proofs.CallLaws.{after-refused}
use Rattle.octets.proofs.TestLaws.{of-cond}
use Rattle.moments.specs.Elapsed.{Clock, started, now_at}
use Rattle.moments.specs.Moments.{age_at, in_order}
use Rattle.unit_life.specs.States.{Discovery, Joining, Normal, Stopped, Nowhere, ready, beacon, join_accepted, role_change, recovered, known, kind_after}
use Rattle.unit_life.specs.declared.state.State.{State}
use Rattle.unit_life.specs.Calls.{within_rule, fresh_state, reasons, on_event, superframe_rule, on_tick, moved_on}
use Rattle.unit_life.specs.Histories.{Call, event, tick, time_of, answer, run, all_at, since_tick}
use Rattle.unit_life.specs.Laws.{Ticking, StaysWithinRule, LeavesRule, wrong_superframe, OnlyForSuperframes, RefusedKeeps, NoOtherTrap}
use Rattle.moments.proofs.MomentLaws.{in_order_self, no_age, ages_add, young_in_order}
use Rattle.unit_life.proofs.TableLaws.{joining_in_time}
use Rattle.unit_life.proofs.StepLaws.{within, entered_by, target, hears, Taken, taken, taken-within}
use Rattle.unit_life.proofs.LifeLaws.{keeps_rule, stays_stopped}

-- ---- a call that is refused, and one that is not
pub refused_keeps : RefusedKeeps
unfolding on_event on_tick
refused_keeps s (event number time) z = after-refused (on_event s number time).refused s _ z
refused_keeps s (tick ms time) z = after-refused (on_tick s ms time).refused s _ z

-- so what holds of a state holds after a refused call
pub refused_stays : (P : State → Type 0) (s : State) (c : Call) → P s → eqb (answer s c).refused 0 ≡ false → P (answer s c).state
refused_stays P s c h e = subst P (sym (refused_keeps s c (eqb-false (answer s c).refused 0 e))) h

-- an accepted call goes where the table leads
pub accepted-kind : (s : State) (c : Call) → (answer s c).refused ≡ 0 → (answer s c).state.kind ≡ target s c
unfolding moved_on
accepted-kind s c e = rw (taken s c e).gives

-- ---- the rule
-- a state within rule that in Joining was entered not long before the last accepted tick, by a clock that began with that
record Young (since : Clock) (s : State) : Type 0 where
  rule : within_rule s ≡ true
  last : since.last ≡ s.last
  joining : s.kind ≡ Joining → age_at s.last s.entered ≤ since.elapsed + 10000

-- the age of the entry at an accepted time
entry-age : {since : Clock} {s : State} (c : Call) → Young since s → Taken s c → s.kind ≡ Joining
    → age_at (time_of c) s.entered ≤ now_at since (time_of c) + 10000
entry-age {since} {s} c y t here =
    let past = (within s y.rule).entry (rw here) in
    rw y.last (omega (arith, ages_add s.entered s.last (time_of c) past t.ordered, y.joining here))

-- what an accepted call gives, by a clock that shows its time
taken_young : (since : Clock) {s : State} {c : Call} → Taken s c → within_rule (answer s c).state ≡ true → since.last ≡ time_of c
    → (s.kind ≡ Joining → target s c ≡ s.kind → age_at (time_of c) s.entered ≤ since.elapsed + 10000) → Young since (answer s c).state
unfolding moved_on
taken_young since {s} {c} t rule last kept =
    record {
      rule = rule;
      last = rw t.gives last;
      joining =
          rw t.gives
          (λ here.
          entered_by (λ entered. age_at (time_of c) entered ≤ since.elapsed + 10000) s (target s c) (hears c) (time_of c) (omega (arith, no_age (time_of c)))
          (λ same. kept (sym same ∙ here) same));
    }

event_young : (since : Clock) (s : State) (number time : ℕ) → Young since s → (on_event s number time).refused ≡ 0 → now_at since time + 10000 < 2 ^ 31
    → Young (record { last = time; elapsed = now_at since time }) (on_event s number time).state
event_young since s number time y z bound =
    let c = event number time in
    let t = taken s c z in
    let near : s.kind ≡ Joining → in_order s.entered time ≡ true =
    λ here. young_in_order time s.entered (now_at since time + 10000) bound (entry-age c y t here) in
    taken_young (record { last = time; elapsed = now_at since time }) t (taken-within s c t (λ here heard. near here)) refl
    (λ here same. entry-age c y t here)

tick_young : (s : State) (ms time : ℕ) → (on_tick s ms time).refused ≡ 0 → Young (started time) (on_tick s ms time).state
tick_young s ms time z =
    taken_young (started time) (taken s (tick ms time) z) ((keeps_rule.1 s time).1 ms z) refl
    (λ here same. joining_in_time (age_at time s.entered) (age_at time s.beacon) ms (rw here at same))

next_young : (since : Clock) (s : State) (c : Call) → Young since s → ((answer s c).refused ≡ 0 → now_at since (time_of c) + 10000 < 2 ^ 31)
    → Young (since_tick since s c) (answer s c).state
next_young since s (event number time) y bound =
    of-cond (λ k. Young k (on_event s number time).state) (eqb (on_event s number time).refused 0) _ since
    (λ e. let z = eqb-true (on_event s number time).refused 0 e in event_young since s number time y z (bound z))
    (λ e. refused_stays (Young since) s (event number time) y e)
next_young since s (tick ms time) y bound =
    of-cond (λ k. Young k (on_tick s ms time).state) (eqb (on_tick s ms time).refused 0) _ since
    (λ e. tick_young s ms time (eqb-true (on_tick s ms time).refused 0 e))
    (λ e. refused_stays (Young since) s (tick ms time) y e)

run_young : (since : Clock) (s : State) (cs : List Call) → Young since s → Ticking since s cs → within_rule (run s cs) ≡ true
run_young since s [] y h = y.rule
run_young since s (c ∷ cs) y (bound, rest) = run_young (since_tick since s c) (answer s c).state cs (next_young since s c y (λ z. omega (arith, bound z))) rest

pub stays_within_rule : StaysWithinRule
stays_within_rule began cs =
    run_young (started began) (fresh_state began) cs (record { rule = keeps_rule.0 began; last = refl; joining = λ e. omega (arith, no_age began) })

pub leaves-rule : LeavesRule
unfolding on_event kind_after moved_on age_at in_order
leaves-rule = refl

-- 14 is then the call's own
never_fourteen : (s : State) (time : ℕ) (own : Reason) → within_rule s ≡ true → Where (eqb own.number 14) (own.holds ≡ false) → first (reasons s time own) ≡ 14 → ⊥
never_fourteen s time own w h = never_given 14 (reasons s time own) (λ z. omega arith) (ap not w, (_, (h, _)))

only_superframes : (s : State) (c : Call) → within_rule s ≡ true → (answer s c).refused ≡ 14 → wrong_superframe c ≡ true
unfolding on_event on_tick
only_superframes s (event number time) w e = absurd (never_fourteen s time (reason (eqb (kind_after s.kind number) Nowhere) 7) w _ e)
only_superframes s (tick ms time) w e = go (superframe_rule ms) refl
  where
    go : (b : Bool) → superframe_rule ms ≡ b → not b ≡ true
    go true q = absurd (never_fourteen s time (reason (not (superframe_rule ms)) 14) w (ap not q) e)
    go false q = refl

pub only_for_superframes : OnlyForSuperframes
only_for_superframes began cs c ticking = only_superframes (run (fresh_state began) cs) c (stays_within_rule began cs ticking)

-- ---- Stopped
pub run_stopped : (s : State) (cs : List Call) → s.kind ≡ Stopped → (run s cs).kind ≡ Stopped
run_stopped s [] e = e
run_stopped s (event number time ∷ cs) e = run_stopped (on_event s number time).state cs ((stays_stopped s time e).0 number)
run_stopped s (tick ms time ∷ cs) e = run_stopped (on_tick s ms time).state cs ((stays_stopped s time e).1 ms)

-- ---- a way to Normal
-- what an event needs to be accepted: a state of this kind within rule, and a time in order
record Ready (s : State) (time kind : ℕ) : Type 0 where
  pub within : within_rule s ≡ true
  pub ordered : in_order s.last time ≡ true
  pub here : s.kind ≡ kind

-- an event that the table lists leads a ready state to one that is ready at the same time
led : {s : State} {time kind : ℕ} (number to : ℕ) → kind_after kind number ≡ to → eqb to Nowhere ≡ false → (eqb kind Joining && eqb number beacon) ≡ false
    → Ready s time kind → Ready (on_event s number time).state time to
unfolding on_event moved_on
led {s} {time} {kind} number to e known other r =
    let leads : kind_after s.kind number ≡ to = rw r.here e in
    let allowed : (on_event s number time).refused ≡ 0 = rw (r.within, r.ordered, leads, known) in
    let taken : eqb (on_event s number time).refused 0 ≡ true = eq-eqb (on_event s number time).refused 0 allowed in
    record {
      within = (keeps_rule.1 s time).0 number allowed (λ here heard. absurd (false≢true (sym (rw (sym r.here ∙ here, heard) at other))));
      ordered = rw taken (in_order_self time);
      here = rw taken leads;
    }

pub no_other_trap : NoOtherTrap
unfolding kind_after every
no_other_trap s time within running ordered = go s.kind (record { within = within; ordered = ordered; here = refl }) running
  where
    go : (kind : ℕ) → Ready s time kind → kind < Stopped → (es : List ℕ) × (every known es ≡ true) × ((run s (all_at es time)).kind ≡ Normal)
    go zero r h = (ready ∷ beacon ∷ join_accepted ∷ [], refl, (led join_accepted Normal refl refl refl (led beacon Joining refl refl refl (led ready Discovery refl refl refl r))).here)
    go (suc zero) r h = (beacon ∷ join_accepted ∷ [], refl, (led join_accepted Normal refl refl refl (led beacon Joining refl refl refl r)).here)
    go (suc (suc zero)) r h = (join_accepted ∷ [], refl, (led join_accepted Normal refl refl refl r).here)
    go (suc (suc (suc zero))) r h = ([], refl, r.here)
    go (suc (suc (suc (suc zero)))) r h = (role_change ∷ [], refl, (led role_change Normal refl refl refl r).here)
    go (suc (suc (suc (suc (suc zero))))) r h =
        (recovered ∷ beacon ∷ join_accepted ∷ [], refl, (led join_accepted Normal refl refl refl (led beacon Joining refl refl refl (led recovered Discovery refl refl refl r))).here)
    go (suc (suc (suc (suc (suc (suc k)))))) r h = absurd (omega arith)
