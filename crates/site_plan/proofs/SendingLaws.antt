-- Who sends in a slot: the statements of specs/Laws on it, proved.
-- Assumes nothing.
use Rattle.octets.proofs.Words.{◌≡◌, refl, sym, ◌∙◌, Bool, true, false, ◌&&◌, cond, false≢true, ◌+◌, ◌-◌, arith, eqb-true, eqb, ltb}
use Rattle.octets.proofs.TestLaws.{or_elim}
use Rattle.slot_sets.specs.Sets.{has}
use Rattle.slot_sets.proofs.SetLaws.{disjoint_is_apart, never_both}
use Rattle.site_plan.specs.Plans.{data_slot_at}
use Rattle.site_plan.specs.Schedules.{tx, rx, beacon_tx, beacon_rx, control_tx, control_rx, sleep, sends, in_controls, in_data, control_slot}
use Rattle.site_plan.specs.Laws.{UnitsSendInOwn, OneSender, OneHop, OneSenderOfUnits, OneHopOfUnits}
use Rattle.site_plan.proofs.RegionLaws.{kinds_by_region}

-- ---- a unit sends where a test holds
at_hop : (a b c : Bool) → sends (cond a beacon_tx (cond b beacon_rx (cond c beacon_rx sleep))) ≡ true → a ≡ true
at_hop true b c e = refl
at_hop false true c e = absurd (false≢true e)
at_hop false false true e = absurd (false≢true e)
at_hop false false false e = absurd (false≢true e)

at_row : (a : Bool) → sends (cond a control_tx control_rx) ≡ true → a ≡ true
at_row true e = refl
at_row false e = absurd (false≢true e)

at_held : (a : Bool) → sends (cond a tx rx) ≡ true → a ≡ true
at_held true e = refl
at_held false e = absurd (false≢true e)

pub units_send_in_own : UnitsSendInOwn
units_send_in_own p row hop own =
    record {
      beacons = λ s e t.
          let k = (kinds_by_region p row hop own s).beacons e in
          eqb-true s hop (at_hop (eqb s hop) (eqb (s + 1) hop) (eqb s 0 && ltb 0 hop) (rw k at t));
      controls = λ s e t.
          let k = (kinds_by_region p row hop own s).controls e in
          eqb-true s (control_slot p row) (at_row (eqb s (control_slot p row)) (rw k at t));
      data_slots = λ s e t.
          let k = (kinds_by_region p row hop own s).data_slots e in
          at_held (has own (s - data_slot_at p)) (rw k at t);
    }

-- ---- two units
pub one_sender : OneSender
one_sender p row row' hop hop' own own' kinds kinds' u v rows apart s e =
    never_both (sends (kinds s)) (sends (kinds' s))
    (λ x y.
    or_elim ⊥ (in_controls p s) (in_data p s) e
    (λ i. rows (omega (arith, u.controls s i x, v.controls s i y)))
    (λ i. (disjoint_is_apart 64 own own').0 apart (s - data_slot_at p) (u.data_slots s i x) (v.data_slots s i y)))

pub one_hop : OneHop
one_hop p row row' hop hop' own own' kinds kinds' u v s i x y = sym (u.beacons s i x) ∙ v.beacons s i y

pub one_sender_of_units : OneSenderOfUnits
one_sender_of_units p row row' hop hop' own own' rows apart =
    one_sender p row row' hop hop' own own' _ _ (units_send_in_own p row hop own) (units_send_in_own p row' hop' own') rows apart

pub one_hop_of_units : OneHopOfUnits
one_hop_of_units p row row' hop hop' own own' =
    one_hop p row row' hop hop' own own' _ _ (units_send_in_own p row hop own) (units_send_in_own p row' hop' own')
