-- A call that is accepted: what then held of the state before, and when what it gives is within rule.
-- Assumes nothing.
use Rattle.octets.proofs.Words.{◌≡◌, refl, sym, ◌∙◌, Bool, true, false, not, cond, ◌&&◌, ◌||◌, false≢true, and-eq-true_iff, ℕ, ◌≤◌, arith, eq-eqb, eqb-true, leb-true, not-false, eqb, leb}
use Rattle.octets.specs.Answers.{Reason, reason, first}
use Rattle.octets.proofs.AnswerLaws.{Where, none-holds}
use Rattle.octets.proofs.TestLaws.{implied, implies, of-cond}
use Rattle.moments.specs.Moments.{age_at, in_order}
use Rattle.moments.proofs.MomentLaws.{in_order_self, young_in_order}
use Rattle.unit_life.specs.declared.state.State.{State}
use Rattle.unit_life.specs.States.{Joining, Normal, Stopped, Nowhere, beacon, kind_after, tick_to}
use Rattle.unit_life.specs.Calls.{runs_from_entry, within_rule, moved_on, reasons, on_event, superframe_rule, on_tick}
use Rattle.unit_life.specs.Histories.{Call, event, tick, time_of, answer}
use Rattle.unit_life.proofs.TableLaws.{leads-known, tick-known, stays_normal, loops, in_time, heard_in_time}

-- ---- the rule
-- what the rule says of a state
pub record Within (s : State) : Type 0 where
  pub known : leb s.kind Stopped ≡ true
  pub entry : runs_from_entry s.kind ≡ true → in_order s.entered s.last ≡ true
  pub heard : eqb s.kind Normal ≡ true → in_order s.beacon s.last ≡ true

pub within : (s : State) → within_rule s ≡ true → Within s
within s e =
    let of_entry = not (runs_from_entry s.kind) || in_order s.entered s.last in
    let of-beacon = not (eqb s.kind Normal) || in_order s.beacon s.last in
    let (front, heard) = (and-eq-true_iff (leb s.kind Stopped && of_entry) of-beacon).0 e in
    let (known, entry) = (and-eq-true_iff (leb s.kind Stopped) of_entry).0 front in
    record { known = known; entry = implied (runs_from_entry s.kind) _ entry; heard = implied (eqb s.kind Normal) _ heard }

pub is_within : (s : State) → Within s → within_rule s ≡ true
is_within s w = rw (w.known, implies (runs_from_entry s.kind) _ w.entry) (implies (eqb s.kind Normal) _ w.heard)

-- ---- the state that goes to a kind
-- its entry is the time of going, or was before where the kind stays
pub entered_by : (P : ℕ → Type 0) (s : State) (to : ℕ) (heard : Bool) (time : ℕ) → P time → (to ≡ s.kind → P s.entered)
    → P (moved_on s to heard time).entered
unfolding moved_on
entered_by P s to heard time p q = of-cond P (not (eqb to s.kind)) time s.entered (λ e. p) (λ e. q (eqb-true to s.kind (not-false _ e)))

-- its last beacon is at the time of going, or was before: where it is in Normal then, it stays there and no beacon is heard
unrecorded : (heard same normal : Bool) → (heard && not (not same) || not same && normal) ≡ false → normal ≡ true → (same ≡ true) × (heard ≡ false)
unrecorded true true normal e n = absurd (false≢true (sym e))
unrecorded true false normal e n = absurd (false≢true (sym e ∙ n))
unrecorded false true normal e n = (refl, refl)
unrecorded false false normal e n = absurd (false≢true (sym e ∙ n))

pub beacon-by : (P : ℕ → Type 0) (s : State) (to : ℕ) (heard : Bool) (time : ℕ) → P time
    → ((eqb to Normal ≡ true → (to ≡ s.kind) × (heard ≡ false)) → P s.beacon) → P (moved_on s to heard time).beacon
unfolding moved_on
beacon-by P s to heard time p q =
    of-cond P (heard && not (not (eqb to s.kind)) || not (eqb to s.kind) && eqb to Normal) time s.beacon (λ e. p)
    (λ e.
    q (λ normal. let (same, unheard) = unrecorded heard (eqb to s.kind) (eqb to Normal) e normal in (eqb-true to s.kind same, unheard)))

-- it is within rule if the kind is known and a time that it keeps, and that the kind acts on, is in order
keeps : (s : State) (to : ℕ) (heard : Bool) (time : ℕ) → leb to Stopped ≡ true
    → (to ≡ s.kind → runs_from_entry to ≡ true → in_order s.entered time ≡ true)
    → (to ≡ s.kind → eqb to Normal ≡ true → heard ≡ false → in_order s.beacon time ≡ true)
    → within_rule (moved_on s to heard time) ≡ true
unfolding moved_on
keeps s to heard time known entered beacon =
    let past : ℕ → Type 0 = λ t. in_order t time ≡ true in
    is_within (moved_on s to heard time)
    (record {
      known = known;
      entry = λ runs. entered_by past s to heard time (in_order_self time) (λ same. entered same runs);
      heard = λ normal. beacon-by past s to heard time (in_order_self time) (λ kept. beacon (kept normal).0 normal (kept normal).1);
    })

-- a state that goes to Normal records a beacon where it was in another kind, and where it stays by a beacon
pub records : (s : State) (heard : Bool) (time : ℕ) → (Normal ≡ s.kind → heard ≡ true) → (moved_on s Normal heard time).beacon ≡ time
records s heard time by =
    beacon-by (λ t. t ≡ time) s Normal heard time refl (λ kept. let (same, unheard) = kept refl in absurd (false≢true (sym unheard ∙ by same)))

-- ---- a call that is accepted
-- the call's own reason, the kind that it goes to and whether it counts as a beacon
abbrev pub own : State → Call → Reason
own s (event number time) = reason (eqb (kind_after s.kind number) Nowhere) 7
own s (tick ms time) = reason (not (superframe_rule ms)) 14

abbrev pub target : State → Call → ℕ
target s (event number time) = kind_after s.kind number
target s (tick ms time) = tick_to s.kind (age_at time s.entered) (age_at time s.beacon) ms

abbrev pub hears : Call → Bool
hears (event number time) = eqb number beacon
hears (tick ms time) = false

-- what is known of it
pub record Taken (s : State) (c : Call) : Type 0 where
  pub rule : within_rule s ≡ true
  pub ordered : in_order s.last (time_of c) ≡ true
  pub right : (own s c).holds ≡ false
  pub gives : (answer s c).state ≡ moved_on s (target s c) (hears c) (time_of c)

own_numbered : (s : State) (c : Call) → Where (eqb (own s c).number 0) ((own s c).holds ≡ false)
own_numbered s (event number time) = _
own_numbered s (tick ms time) = _

given : (s : State) (c : Call) → (answer s c).refused ≡ 0
    → (first (reasons s (time_of c) (own s c)) ≡ 0) × ((answer s c).state ≡ moved_on s (target s c) (hears c) (time_of c))
unfolding on_event on_tick
given s (event number time) z = (z, rw (eq-eqb (on_event s number time).refused 0 z))
given s (tick ms time) z = (z, rw (eq-eqb (on_tick s ms time).refused 0 z))

pub taken : (s : State) (c : Call) → (answer s c).refused ≡ 0 → Taken s c
taken s c z =
    let (number, gives) = given s c z in
    let (rule, (ordered, (right, _))) =
    none-holds (reasons s (time_of c) (own s c)) (_, (_, (own_numbered s c, _))) number in
    record { rule = not-false _ rule; ordered = not-false _ ordered; right = right; gives = gives }

-- a superframe that is named right is not long
pub short : {s : State} {ms time : ℕ} → Taken s (tick ms time) → ms ≤ 6553500
short {s} {ms} {time} t = leb-true ms 6553500 ((and-eq-true_iff (leb 1 ms) (leb ms 6553500)).0 (not-false _ t.right)).1

-- it goes to a known kind
pub taken-known : (s : State) (c : Call) → Taken s c → leb (target s c) Stopped ≡ true
taken-known s (event number time) t = leads-known s.kind number t.right
taken-known s (tick ms time) t = tick-known s.kind _ _ _ (within s t.rule).known

-- where it leaves the kind as it is, and the entry counts, it is a tick soon after that or a beacon in Joining
entry_kept : (s : State) (c : Call) → Taken s c → target s c ≡ s.kind → runs_from_entry s.kind ≡ true
    → (s.kind ≡ Joining → hears c ≡ true → in_order s.entered (time_of c) ≡ true) → in_order s.entered (time_of c) ≡ true
entry_kept s (event number time) t same runs joining = let (here, heard) = loops s.kind number runs same in joining here heard
entry_kept s (tick ms time) t same runs joining =
    young_in_order time s.entered 60000 (omega arith) (in_time s.kind _ _ _ runs same)

-- where it leaves Normal as it is, and is no beacon, it is a tick soon after the last
beacon-kept : (s : State) (c : Call) → Taken s c → target s c ≡ s.kind → s.kind ≡ Normal → hears c ≡ false → in_order s.beacon (time_of c) ≡ true
beacon-kept s (event number time) t same normal unheard = absurd (false≢true (sym unheard ∙ stays_normal number (rw normal at same)))
beacon-kept s (tick ms time) t same normal unheard =
    let silence = heard_in_time (age_at time s.entered) (age_at time s.beacon) ms (rw normal at same) in
    young_in_order time s.beacon 20000000 (omega arith) (omega (arith, silence, short t))

-- so what it gives is within rule
pub taken-within : (s : State) (c : Call) → Taken s c → (s.kind ≡ Joining → hears c ≡ true → in_order s.entered (time_of c) ≡ true)
    → within_rule (answer s c).state ≡ true
taken-within s c t joining =
    rw t.gives
    (keeps s (target s c) (hears c) (time_of c) (taken-known s c t) (λ same runs. entry_kept s c t same (rw same at runs) joining)
    (λ same normal. beacon-kept s c t same (sym same ∙ eqb-true (target s c) Normal normal)))

-- ---- a call that is refused
-- an event that is not listed is refused, whatever else holds
pub refused_anyhow : (a b : Bool) → eqb (cond a 14 (cond b 8 7)) 0 ≡ false
refused_anyhow true b = refl
refused_anyhow false true = refl
refused_anyhow false false = refl
