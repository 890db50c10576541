-- Where the table leads: to a state or nowhere, and on a tick always to a state.
-- Assumes nothing.
use Rattle.octets.proofs.Words.{◌≡◌, refl, sym, subst, Bool, true, false, cond, ◌&&◌, ◌||◌, and-eq-true_iff, List, [], ◌∷◌, ℕ, ◌*◌, ◌<◌, ◌≤◌, arith, eqb-true, eqb-false, le-leb, leb-true, leb-false, ltb-false, eqb, leb, ltb}
use Rattle.octets.proofs.TestLaws.{or_elim, of-cond, of_choice}
use Rattle.unit_life.specs.States.{Line, Limit, Discovery, Joining, Normal, Manager, Recovery, Stopped, Nowhere, beacon, elected, recovered, events, along, kind_after, limits, run_out, tick_to}
use Rattle.unit_life.specs.Calls.{runs_from_entry}

-- every line leads to a state, or nowhere
abbrev lines_known : List Line → Bool
lines_known [] = true
lines_known (l ∷ ls) = leb l.to Nowhere && lines_known ls

along-known : (ls : List Line) (state event : ℕ) → lines_known ls ≡ true → along ls state event ≤ Nowhere
along-known [] state event k = omega arith
along-known (l ∷ ls) state event k =
    let (here, later) = (and-eq-true_iff (leb l.to Nowhere) (lines_known ls)).0 k in
    of_choice (λ n. n ≤ Nowhere) (eqb state l.from && eqb event l.event) (leb-true _ _ here) (along-known ls state event later)

pub leads-known : (state event : ℕ) → eqb (kind_after state event) Nowhere ≡ false → leb (kind_after state event) Stopped ≡ true
unfolding kind_after
leads-known state event e =
    le-leb (along events state event) Stopped (omega (arith, along-known events state event refl, eqb-false (along events state event) Nowhere e))

-- no line is of a number that is no event: it leads nowhere
abbrev events_known : List Line → Bool
events_known [] = true
events_known (l ∷ ls) = leb l.event recovered && events_known ls

along-unlisted : (ls : List Line) (state event : ℕ) → events_known ls ≡ true → recovered < event → along ls state event ≡ Nowhere
along-unlisted [] state event k h = refl
along-unlisted (l ∷ ls) state event k h =
    let (here, later) = (and-eq-true_iff (leb l.event recovered) (events_known ls)).0 k in
    of-cond (λ n. n ≡ Nowhere) (eqb state l.from && eqb event l.event) l.to (along ls state event)
    (λ e.
    let same : event ≡ l.event = eqb-true event l.event ((and-eq-true_iff (eqb state l.from) (eqb event l.event)).0 e).1 in
    absurd (omega (arith, leb-true l.event recovered here)))
    (λ e. along-unlisted ls state event later h)

pub unlisted : (state event : ℕ) → recovered < event → kind_after state event ≡ Nowhere
unfolding kind_after
unlisted state event h = along-unlisted events state event refl h

-- every time runs out into a state
abbrev limits-known : List Limit → Bool
limits-known [] = true
limits-known (l ∷ ls) = leb l.to Stopped && limits-known ls

run_out-known : (ls : List Limit) (state age : ℕ) → limits-known ls ≡ true → leb state Stopped ≡ true → leb (run_out ls state age) Stopped ≡ true
run_out-known [] state age k known = known
run_out-known (l ∷ ls) state age k known =
    let (here, later) = (and-eq-true_iff (leb l.to Stopped) (limits-known ls)).0 k in
    of_choice (λ n. leb n Stopped ≡ true) (eqb state l.within && leb l.ms age) here (run_out-known ls state age later known)

pub tick-known : (state age silence ms : ℕ) → leb state Stopped ≡ true → leb (tick_to state age silence ms) Stopped ≡ true
unfolding tick_to
tick-known state age silence ms known =
    of_choice (λ n. leb n Stopped ≡ true) (eqb state Normal && ltb (3 * ms) silence) refl (run_out-known limits state age refl known)

-- an event that keeps Normal is a beacon
pub stays_normal : (event : ℕ) → kind_after Normal event ≡ Normal → eqb event beacon ≡ true
unfolding kind_after
stays_normal event e = go (eqb event elected) (eqb event beacon) e
  where
    go : (a b : Bool) → cond a Manager (cond b Normal Nowhere) ≡ Normal → b ≡ true
    go true b e = absurd (omega arith)
    go false true e = refl
    go false false e = absurd (omega arith)

-- ---- what leaves a kind as it is whose time runs from its entry
runs_elim : (P : ℕ → Type 0) (kind : ℕ) → runs_from_entry kind ≡ true → P Discovery → P Joining → P Recovery → P kind
runs_elim P kind runs d j r =
    or_elim (P kind) (eqb kind Discovery || eqb kind Joining) (eqb kind Recovery) runs
    (λ e.
    or_elim (P kind) (eqb kind Discovery) (eqb kind Joining) e (λ e. subst P (sym (eqb-true kind Discovery e)) d)
    (λ e. subst P (sym (eqb-true kind Joining e)) j))
    (λ e. subst P (sym (eqb-true kind Recovery e)) r)

-- an event that does is a beacon in Joining
pub loops : (kind event : ℕ) → runs_from_entry kind ≡ true → kind_after kind event ≡ kind → (kind ≡ Joining) × (eqb event beacon ≡ true)
unfolding kind_after
loops kind event runs =
    runs_elim (λ kind. kind_after kind event ≡ kind → (kind ≡ Joining) × (eqb event beacon ≡ true)) kind runs
    (λ e.
    absurd
    (of_choice (λ n. n ≡ Discovery → ⊥) (eqb event 2) (λ z. omega arith)
    (of_choice (λ n. n ≡ Discovery → ⊥) (eqb event 5) (λ z. omega arith) (λ z. omega arith)) e))
    (λ e. (
      refl,
      of_choice (λ n. n ≡ Joining → eqb event beacon ≡ true) (eqb event 3) (λ z. absurd (omega arith))
          (of_choice (λ n. n ≡ Joining → eqb event beacon ≡ true) (eqb event 4) (λ z. absurd (omega arith))
          (of-cond (λ n. n ≡ Joining → eqb event beacon ≡ true) (eqb event beacon) Joining Nowhere (λ q z. q) (λ q z. absurd (omega arith)))) e,
    ))
    (λ e. absurd (of_choice (λ n. n ≡ Recovery → ⊥) (eqb event 8) (λ z. omega arith) (λ z. omega arith) e))

-- a tick that does comes before that time has run out
stayed : (t : Bool) (to kind : ℕ) → cond t to kind ≡ kind → (to ≡ kind → ⊥) → t ≡ false
stayed true to kind e n = absurd (n e)
stayed false to kind e n = refl

pub joining_in_time : (age silence ms : ℕ) → tick_to Joining age silence ms ≡ Joining → age ≤ 10000
unfolding tick_to
joining_in_time age silence ms e = omega (arith, leb-false 10000 age (stayed (leb 10000 age) Recovery Joining e (λ z. omega arith)))

pub in_time : (kind age silence ms : ℕ) → runs_from_entry kind ≡ true → tick_to kind age silence ms ≡ kind → age ≤ 60000
unfolding tick_to
in_time kind age silence ms runs =
    runs_elim (λ kind. tick_to kind age silence ms ≡ kind → age ≤ 60000) kind runs
    (λ e. omega (arith, leb-false 30000 age (stayed (leb 30000 age) Manager Discovery e (λ z. omega arith))))
    (λ e. omega (arith, joining_in_time age silence ms e))
    (λ e. omega (arith, leb-false 60000 age (stayed (leb 60000 age) Stopped Recovery e (λ z. omega arith))))

-- and one that leaves Normal as it is comes no more than three superframes after the last beacon
pub heard_in_time : (age silence ms : ℕ) → tick_to Normal age silence ms ≡ Normal → silence ≤ 3 * ms
unfolding tick_to
heard_in_time age silence ms e = ltb-false (3 * ms) silence (stayed (ltb (3 * ms) silence) Recovery Normal e (λ z. omega arith))
