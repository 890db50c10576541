-- States in true time: where calls are made as document 02 asks, ticks come often enough in elapsed time as well, which is true time.
-- Assumes nothing.
use Rattle.octets.proofs.Words.{◌≡◌, refl, Bool, true, false, cond, ◌&&◌, List, [], ◌∷◌, ℕ, ◌+◌, ◌≤◌, ◌<◌, ◌^◌, ◌%◌, arith, eqb-true, eqb}
use Rattle.moments.specs.Elapsed.{Clock, started, now_at, Timely}
use Rattle.moments.proofs.ElapsedLaws.{Kept, kept_at_once, passed-at, kept-moved, true-time}
use Rattle.unit_life.specs.declared.state.State.{State}
use Rattle.unit_life.specs.Calls.{fresh_state}
use Rattle.unit_life.specs.Histories.{Call, event, tick, time_of, is_tick, answer, step_of, steps_of, since_tick}
use Rattle.unit_life.specs.Laws.{Ticking, TicksTimely, TrueTime}

-- the clock that began with the last accepted tick shows the true time since then
next-kept : (s : State) (c : Call) {ticked last now : ℕ} {since : Clock} → Kept ticked since last → time_of c ≡ now % 2 ^ 32
    → ((answer s c).refused ≡ 0 → (last ≤ now) × (now < last + 2 ^ 31))
    → Kept (cond (is_tick c && eqb (answer s c).refused 0) now ticked) (since_tick since s c) (cond (eqb (answer s c).refused 0) now last)
next-kept s (event number time) {ticked} {last} {now} {since} k shown apart =
    kept-moved ticked since last now (step_of s (event number time)) k shown (λ e. apart (eqb-true _ 0 e))
next-kept s (tick ms time) {ticked} {last} {now} {since} k shown apart = go (eqb (answer s (tick ms time)).refused 0)
  where
    go : (b : Bool) → Kept (cond b now ticked) (cond b (started time) since) (cond b now last)
    go true = kept_at_once now time shown
    go false = k

often : (s : State) (cs : List Call) (nows : List ℕ) (ticked last : ℕ) (since : Clock) → Kept ticked since last → TicksTimely last ticked s cs nows
    → Ticking since s cs × Timely last (steps_of s cs) nows
often s [] nows ticked last since k t = (tt, tt)
often s (c ∷ cs) [] ticked last since k t = absurd t
often s (c ∷ cs) (now ∷ nows) ticked last since k (shown, (bound, rest)) =
    let apart : (answer s c).refused ≡ 0 → (last ≤ now) × (now < last + 2 ^ 31) = λ z. ((bound z).0, omega (arith, k.passed, (bound z).1)) in
    let soon : (z : (answer s c).refused ≡ 0) → ticked + now_at since (now % 2 ^ 32) ≡ now =
    λ z. let (order, near) = apart z in passed-at ticked since last now k order (omega (arith, near)) in
    let (ticking, timely) = often (answer s c).state cs nows _ _ _ (next-kept s c k shown apart) rest in
    ((λ z. rw shown (omega (arith, soon z, (bound z).1)), ticking), (shown, (λ e. apart (eqb-true _ 0 e), timely)))

pub states_true_time : TrueTime
states_true_time began cs nows t =
    let s = fresh_state (began % 2 ^ 32) in
    let (ticking, timely) = often s cs nows began began (started (began % 2 ^ 32)) (kept_at_once began _ refl) t in
    (ticking, true-time began (began % 2 ^ 32) (steps_of s cs) nows refl timely)
