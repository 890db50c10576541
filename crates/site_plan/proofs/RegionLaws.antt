-- The regions of a plan: each slot is in one, and its kind is that region's.
-- Assumes nothing.
use Rattle.octets.proofs.Words.{◌≡◌, refl, Bool, true, false, ◌&&◌, and-eq-true_iff, [], ◌∷◌, ℕ, ◌+◌, ◌-◌, ◌≤◌, ◌<◌, arith, eq-eqb, ltb-true, ltb-false, leb-true, lt-ltb, le-ltb, le-leb, lt-leb, eqb, leb, ltb}
use Rattle.octets.proofs.TestLaws.{of_choice}
use Rattle.slot_sets.specs.Sets.{has}
use Rattle.site_plan.specs.Plans.{slots, control_slot_at, data_slot_at, discovery_slot_at, sleep_slot_at}
use Rattle.site_plan.specs.Schedules.{sleep, sends, listens, within, how_many, in_beacons, in_controls, in_data, in_discovery, control_slot, data_slot, kind_of}
use Rattle.site_plan.specs.Laws.{OneRegion, KindsByRegion, DoesOneThing, SendsWhereTold}
use Rattle.site_plan.proofs.PlanLaws.{rule_bounds}

module _ (s from to : ℕ) where
  in_from : within from to s ≡ true → from ≤ s
  in_from e = leb-true _ _ ((and-eq-true_iff (leb from s) (ltb s to)).0 e).0

  in_to : within from to s ≡ true → s < to
  in_to e = ltb-true _ _ ((and-eq-true_iff (leb from s) (ltb s to)).0 e).1

  pub inside : from ≤ s → s < to → within from to s ≡ true
  inside h l = rw (le-leb from s h, lt-ltb s to l)

  before : s < from → within from to s ≡ false
  before l = rw (lt-leb from s l)

  past : to ≤ s → within from to s ≡ false
  past h = go (leb from s)
    where
      go : (b : Bool) → (b && ltb s to) ≡ false
      go true = le-ltb s to h
      go false = refl

-- ---- each slot is in one region
-- of five regions, one behind the other
one_of_five : (s a b c d e : ℕ) → a ≤ b → b ≤ c → c ≤ d → d ≤ e → s < e
    → how_many (ltb s a ∷ within a b s ∷ within b c s ∷ within c d s ∷ within d e s ∷ []) ≡ 1
one_of_five s a b c d e ab bc cd de se = go (ltb s a) (ltb s b) (ltb s c) (ltb s d) refl refl refl refl
  where
    go : (x y z w : Bool) → ltb s a ≡ x → ltb s b ≡ y → ltb s c ≡ z → ltb s d ≡ w
        → how_many (ltb s a ∷ within a b s ∷ within b c s ∷ within c d s ∷ within d e s ∷ []) ≡ 1
    go true y z w p q r t =
        let h = ltb-true s a p in
        rw (p, before s a b h, before s b c (omega (arith, h, ab)), before s c d (omega (arith, h, ab, bc)), before s d e (omega (arith, h, ab, bc, cd)))
    go false true z w p q r t =
        let h = ltb-true s b q in
        rw (p, inside s a b (ltb-false s a p) h, before s b c h, before s c d (omega (arith, h, bc)), before s d e (omega (arith, h, bc, cd)))
    go false false true w p q r t =
        let l = ltb-false s b q in
        let h = ltb-true s c r in
        rw (p, past s a b l, inside s b c l h, before s c d h, before s d e (omega (arith, h, cd)))
    go false false false true p q r t =
        let l = ltb-false s c r in
        let h = ltb-true s d t in
        rw (p, past s a b (ltb-false s b q), past s b c l, inside s c d l h, before s d e h)
    go false false false false p q r t =
        let l = ltb-false s d t in
        rw (p, past s a b (ltb-false s b q), past s b c (ltb-false s c r), past s c d l, inside s d e l se)

pub one_region : OneRegion
one_region p s e h =
    one_of_five s (control_slot_at p) (data_slot_at p) (discovery_slot_at p) (sleep_slot_at p) (slots p) (omega arith) (omega arith) (omega arith) (rule_bounds p e).inside h

-- ---- the kind of a slot
pub kinds_by_region : KindsByRegion
unfolding kind_of
kinds_by_region p row hop own s =
    let a = control_slot_at p in
    let b = data_slot_at p in
    let c = discovery_slot_at p in
    let d = sleep_slot_at p in
    record {
      beacons = λ e. rw e;
      controls = λ e. rw (le-ltb s a (in_from s a b e), e);
      data_slots = λ e. let l = in_from s b c e in rw (le-ltb s a (omega (arith, l)), past s a b l, e);
      discovery = λ e.
          let l = in_from s c d e in
          rw (le-ltb s a (omega (arith, l)), past s a b (omega (arith, l)), past s b c l, e);
      behind = λ l.
          rw (le-ltb s a (omega (arith, l)), past s a b (omega (arith, l)), past s b c (omega (arith, l)), past s c d l);
    }

pub sends_where_told : SendsWhereTold
sends_where_told p row hop own = (
  λ h.
      let s = control_slot p row in
      let k = (kinds_by_region p row hop own s).controls (inside s (control_slot_at p) (data_slot_at p) (omega arith) (omega (arith, h))) in
      rw (k, eq-eqb s s refl),
  λ i h held.
      let s = data_slot p i in
      let k = (kinds_by_region p row hop own s).data_slots (inside s (data_slot_at p) (discovery_slot_at p) (omega arith) (omega (arith, h))) in
      let place : s - data_slot_at p ≡ i = omega arith in
      rw (k, place, held),
)

-- ---- one thing in a slot
pub does_one_thing : DoesOneThing
unfolding kind_of
does_one_thing p row hop own s =
    let One : ℕ → Type 0 = λ kind. how_many (sends kind ∷ listens kind ∷ eqb kind sleep ∷ []) ≡ 1 in
    of_choice One (in_beacons p s)
    (of_choice One (eqb s hop) refl (of_choice One (eqb (s + 1) hop) refl (of_choice One (eqb s 0 && ltb 0 hop) refl refl)))
    (of_choice One (in_controls p s) (of_choice One (eqb s (control_slot p row)) refl refl)
    (of_choice One (in_data p s) (of_choice One (has own (s - data_slot_at p)) refl refl)
    (of_choice One (in_discovery p s) (of_choice One (eqb hop 0) refl refl) refl)))
