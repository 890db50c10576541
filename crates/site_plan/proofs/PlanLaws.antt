-- The numbers of a plan, and what its rule makes of them.
-- Assumes nothing.
use Rattle.std.proofs.Common.{Some, None}
use Rattle.octets.proofs.Words.{◌≡◌, refl, sym, ap, ◌∙◌, Bool, true, false, ◌&&◌, ◌||◌, cond, and-eq-true_iff, false≢true, List, ℕ, ◌+◌, ◌*◌, ◌≤◌, ◌<◌, ◌^◌, mul-le-mul, arith, eqb-true, leb-true, le-leb, ltb-true, ltb-false, eqb, leb, ltb, get_or}
use mir.Val.{bool_byte}
use Rattle.octets.specs.Answers.{Said, accepted, refused}
use Rattle.octets.specs.Lists.{tab}
use Rattle.octets.proofs.ListLaws.{get_or-tab}
use Rattle.octets.proofs.TestLaws.{all_hold}
use Rattle.octets.specs.Addresses.{address, network}
use Rattle.site_plan.specs.declared.plan.Plan.{Plan}
use Rattle.site_plan.specs.Plans.{slots, plan_rule, discovery_slots, active, slots_in, plan_rules, long_beacons, short_beacons, plan_values, plan_of}
use Rattle.site_plan.specs.Laws.{LengthsByTable, RuleBounds}

-- ---- the length of a superframe and its time
pub lengths_by_table : LengthsByTable
lengths_by_table lengths e active h = ap (λ (l : List ℕ). get_or l active 0) e ∙ get_or-tab 51 slots_in active 0 (omega (arith, h))

-- past the table it is the most
pub past-table : (active : ℕ) → 50 < active → 100 ≡ slots_in active
unfolding slots_in
past-table active h = omega (arith, h)

-- no superframe is longer than 100 slots
few-length : (active : ℕ) → slots_in active ≤ 100
unfolding slots_in
few-length active = omega arith

pub few-slots : (p : Plan) → slots p ≤ 100
few-slots p = few-length (active p)

pub length-fits : (lengths : List ℕ) → lengths ≡ tab 51 slots_in → (active : ℕ) → active ≤ 50 → get_or lengths active 0 < 2 ^ 32
length-fits lengths e active h = omega (arith, lengths_by_table lengths e active h, few-length active)

-- so its time fits into 32 bits
pub superframe_fits : (active slots ms : ℕ) → slots ≡ slots_in active → ms < 2 ^ 16 → slots * ms < 2 ^ 32
superframe_fits active slots ms e h =
    let few : slots ≤ 100 = omega (arith, e, few-length active) in
    let short : ms ≤ 65535 = omega (arith, h) in
    omega (arith, mul-le-mul few short)

-- ---- discovery
-- from two slots on there is one more from the 7th, the 10th and the 13th row on
pub by-steps : (rows : ℕ) → 2 + bool_byte (ltb 6 rows) + bool_byte (ltb 9 rows) + bool_byte (ltb 12 rows) ≡ discovery_slots rows
by-steps rows = go (ltb 6 rows) (ltb 9 rows) (ltb 12 rows) refl refl refl
  where
    go : (a b c : Bool) → ltb 6 rows ≡ a → ltb 9 rows ≡ b → ltb 12 rows ≡ c → 2 + bool_byte a + bool_byte b + bool_byte c ≡ discovery_slots rows
    go true true true p q r = omega (arith, ltb-true 12 rows r)
    go true true false p q r = omega (arith, ltb-true 9 rows q, ltb-false 12 rows r)
    go true false true p q r = omega (arith, ltb-false 9 rows q, ltb-true 12 rows r)
    go true false false p q r = omega (arith, ltb-true 6 rows p, ltb-false 9 rows q)
    go false true c p q r = omega (arith, ltb-false 6 rows p, ltb-true 9 rows q)
    go false false true p q r = omega (arith, ltb-false 9 rows q, ltb-true 12 rows r)
    go false false false p q r = omega (arith, ltb-false 6 rows p)

-- ---- the rule
-- what its bounds rest on, and that its network and its manager are such
pub record Kept (p : Plan) : Type 0 where
  pub named : network p.network ≡ true
  pub manager : address p.manager ≡ true
  pub hops : 1 ≤ p.max_hops
  pub few-hops : p.max_hops ≤ 10
  pub rows : 2 ≤ p.rows
  pub data_slots : p.rows ≤ p.data_slots
  pub few : active p ≤ 50
  pub slot_ms : p.slot_ms ≤ 65535
  pub beacon : p.beacon_type ≤ 255

-- a beacon's type is a byte
kind_fits : (kind : ℕ) → (eqb kind long_beacons || eqb kind short_beacons) ≡ true → kind ≤ 255
kind_fits kind e = go (eqb kind long_beacons) (eqb kind short_beacons) refl refl e
  where
    go : (a b : Bool) → eqb kind long_beacons ≡ a → eqb kind short_beacons ≡ b → (a || b) ≡ true → kind ≤ 255
    go true b p q h = omega (arith, eqb-true kind long_beacons p)
    go false true p q h = omega (arith, eqb-true kind short_beacons q)
    go false false p q h = absurd (false≢true h)

pub kept : (p : Plan) → plan_rule p ≡ true → Kept p
kept p e =
    let holds = all_hold (plan_rules p) e in
    let (least, most) = (and-eq-true_iff (leb 1 p.max_hops) (leb p.max_hops 10)).0 (holds 2) in
    record {
      named = holds 0;
      manager = holds 1;
      hops = leb-true _ _ least;
      few-hops = leb-true _ _ most;
      rows = leb-true _ _ (holds 3);
      data_slots = leb-true _ _ (holds 4);
      few = leb-true _ _ (holds 5);
      slot_ms = leb-true _ _ ((and-eq-true_iff (leb 1 p.slot_ms) (leb p.slot_ms 65535)).0 (holds 6)).1;
      beacon = kind_fits p.beacon_type (holds 7);
    }

-- up to 50 active slots there is room for all of them
room : (active : ℕ) → active ≤ 50 → active ≤ slots_in active
unfolding slots_in
room active h = omega (arith, h)

pub rule_bounds : RuleBounds
rule_bounds p e =
    let k = kept p e in
    record {
      few-rows = omega (arith, k.hops, k.rows, k.data_slots, k.few);
      few_data_slots = omega (arith, k.hops, k.rows, k.data_slots, k.few);
      few-slots = few-slots p;
      inside = room (active p) k.few;
    }

-- ---- numbers that are wider than the fields of a plan
abbrev fitting : Plan → Bool
fitting p = leb p.max_hops 255 && leb p.rows 255 && leb p.data_slots 255 && leb p.slot_ms 65535 && leb p.beacon_type 255

-- numbers within rule fit
fits_in_rule : (p : Plan) → plan_rule p ≡ true → fitting p ≡ true
fits_in_rule p e =
    let k = kept p e in
    rw (
      le-leb p.max_hops 255 (omega (arith, k.few-hops)),
      le-leb p.rows 255 (omega (arith, k.few)),
      le-leb p.data_slots 255 (omega (arith, k.few)),
      le-leb p.slot_ms 65535 k.slot_ms,
      le-leb p.beacon_type 255 k.beacon,
    )

-- so those of which one does not are out of rule
too_wide : (p : Plan) → fitting p ≡ false → plan_rule p ≡ false
too_wide p e = go (plan_rule p) refl
  where
    go : (b : Bool) → plan_rule p ≡ b → plan_rule p ≡ false
    go true r = absurd (false≢true (sym e ∙ fits_in_rule p r))
    go false r = r

-- ---- making one
-- what making a plan of these numbers says
abbrev asked : Plan → Said
asked p = plan_of p.network p.manager p.max_hops p.rows p.data_slots p.slot_ms p.beacon_type

within : (p : Plan) → plan_rule p ≡ true → accepted (plan_values p) ≡ asked p
unfolding plan_of
within p r = rw r

without : (p : Plan) → plan_rule p ≡ false → refused 14 ≡ asked p
unfolding plan_of
without p r = rw r

module _ (p q : Plan) where
  same : (b : Bool) → Some q ≡ cond b (Some p) None → p ≡ q
  same true e = cc
  same false e = cc

  pub made : Some q ≡ cond (fitting p) (Some p) None → plan_rule q ≡ true → accepted (plan_values q) ≡ asked p
  made e r = rw (same (fitting p) e) (within q r)

  pub out_of_rule : Some q ≡ cond (fitting p) (Some p) None → plan_rule q ≡ false → refused 14 ≡ asked p
  out_of_rule e r = rw (same (fitting p) e) (without q r)

pub unfit : (p : Plan) → None ≡ cond (fitting p) (Some p) None → refused 14 ≡ asked p
unfit p e = go (fitting p) refl e
  where
    go : (b : Bool) → fitting p ≡ b → None ≡ cond b (Some p) None → refused 14 ≡ asked p
    go true f h = cc
    go false f h = without p (too_wide p f)
