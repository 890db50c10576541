-- What holds of every step of the clock: the statements of specs/Laws, proved.
-- Assumes nothing.
use Rattle.octets.proofs.Words.{◌≡◌, refl, sym, ap, subst, ◌∙◌, ℕ, zero, suc, ◌+◌, ◌-◌, ◌%◌, ◌^◌, ◌≤◌, ◌<◌, arith, ltb-true, ltb-false, eq-eqb, ltb, le→leb, leb→le}
use Rattle.std.proofs.Common.{ℤ, pos, negsuc, ◌-ℤ◌, nat_abs}
use lib.IntN.{+ℤ_invr}
use lib.Signed.{mag, ≤ℤ_refl}
use Rattle.octets.proofs.TestLaws.{of-cond}
use Rattle.moments.specs.Moments.{age_at}
use Rattle.moments.proofs.MomentLaws.{age_bound, leads}
use Rattle.unit_clock.specs.Clock.{signed, wrapped, drift, correction, corrected, beacon_step_of}
use Rattle.unit_clock.specs.Laws.{StaysWithinBits, DriftIsExact, HardStepSettles, NoWorse, NeverWorse, StepsByItsTimes}
use Rattle.unit_clock.proofs.CorrectionLaws.{hard, Within, none, ahead, behind, left-within}
use Rattle.unit_clock.proofs.SignLaws.{same-age, wrapped_bound, above, cancel, leads_back, is_less, age-wrapped, signed-wrapped, wrapped-signed, signed-mag}

pub stays_within_bits : StaysWithinBits
unfolding corrected
stays_within_bits offset local original delay = wrapped_bound _

-- ---- the drift of whole numbers of ms
difference_mag : (a b : ℕ) → a < b + 2 ^ 31 → b ≤ a + 2 ^ 31 → mag (pos a -ℤ pos b) < 2 ^ 31
difference_mag a zero h k = omega arith
difference_mag a (suc b) h k =
    of-cond (λ d. mag d < 2 ^ 31) (ltb a (suc b)) (negsuc (suc b - suc a)) (pos (a - suc b))
    (λ e. omega (arith, ltb-true a (suc b) e))
    (λ e. omega (arith, ltb-false a (suc b) e))

pub drift_is_exact : DriftIsExact
unfolding drift
drift_is_exact local offset original delay h k =
    ap signed (same-age _ _ (local + offset) (original + delay) (omega arith) (omega arith) ∙ age-wrapped (local + offset) (original + delay))
    ∙ signed-wrapped _ (difference_mag (local + offset) (original + delay) (omega arith) (omega arith))

-- ---- what a step leaves of the drift
-- an age with so much more
ages_on : (a b c more : ℕ) → (a + more) % 2 ^ 32 ≡ c % 2 ^ 32 → (age_at a b + more) % 2 ^ 32 ≡ age_at c b
ages_on a b c more e = sym (cancel (age_at c b) (age_at a b + more) b (age_bound c b) (leads c b ∙ further))
  where
    further : c % 2 ^ 32 ≡ (age_at a b + more + b) % 2 ^ 32
    further = omega (arith, leads a b)

-- what lies between zero and a drift is a drift, and no worse
left-mag : (d z : ℤ) → Within d z → mag d < 2 ^ 31 → mag z < 2 ^ 31
left-mag d z none h = omega arith
left-mag d z (ahead m n l) h = omega arith
left-mag d z (behind m n l) h = omega arith

no_worse : (d z : ℤ) → Within d z → NoWorse d z
no_worse d z none = record { size = omega arith; ahead = λ h. ≤ℤ_refl (pos 0); behind = λ h. ≤ℤ_refl (pos 0) }
no_worse d z (ahead m n l) =
    record {
      size = l;
      ahead = λ h. record { le = le→leb 0 m (omega arith) };
      behind = λ h. record { le = le→leb m 0 (omega (arith, leb→le n 0 h.le)) };
    }
no_worse d z (behind m n l) = record { size = omega arith; ahead = λ h. absurd h.le; behind = λ h. record { le = tt } }

drift-mag : (local offset original delay : ℕ) → mag (drift local offset original delay) < 2 ^ 31
unfolding drift
drift-mag local offset original delay = signed-mag _ (age_bound (local + offset) (original + delay))

module _ (offset local original delay : ℕ) where
  -- an offset that drops lets the drift drop by as much
  drops : (k : ℤ) → drift local (wrapped (pos offset -ℤ k)) original delay ≡ signed (wrapped (drift local offset original delay -ℤ k))
  unfolding drift
  drops k =
      let here = local + wrapped (pos offset -ℤ k) in
      let sent = original + delay in
      let back : (here + wrapped k) % 2 ^ 32 ≡ (local + offset) % 2 ^ 32 = omega (arith, leads_back (pos offset) k, above offset) in
      ap signed
      (is_less (signed (age_at (local + offset) sent)) k (age_at here sent) (age_bound here sent)
      (ages_on here sent (local + offset) (wrapped k) back ∙ sym (wrapped-signed _ (age_bound (local + offset) sent))))

  left : drift local (corrected local offset original delay) original delay ≡ drift local offset original delay -ℤ correction (drift local offset original delay)
  unfolding corrected
  left =
      let d = drift local offset original delay in
      drops (correction d) ∙ signed-wrapped _ (left-mag d _ (left-within d) (drift-mag local offset original delay))

pub hard_step_settles : HardStepSettles
hard_step_settles offset local original delay far =
    let d = drift local offset original delay in
    left offset local original delay ∙ (ap (λ (k : ℤ). d -ℤ k) (hard d (nat_abs d) refl far) ∙ +ℤ_invr d)

pub never_worse : NeverWorse
never_worse offset local original delay =
    let d = drift local offset original delay in
    subst (NoWorse d) (sym (left offset local original delay)) (no_worse d _ (left-within d))

pub steps_by_its_times : StepsByItsTimes
unfolding beacon_step_of
steps_by_its_times offset local network s e = rw (eq-eqb _ 0 e)
