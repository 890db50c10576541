-- `kind_at`: each region's kind.
-- Assumes nothing.
use Rattle.octets.proofs.Words.{sym, ◌∙◌, arith, lt-ltb}
use Rattle.slot_sets.specs.Sets.{slots_of}
use Rattle.site_plan.specs.Plans.{control_slot_at, data_slot_at, discovery_slot_at, sleep_slot_at}
use Rattle.site_plan.proofs.RegionLaws.{inside, kinds_by_region}
use Rattle.site_plan.proofs.schedules.kind_at.Goals as goal

pub returns-then-at-control_at : goal.returns-then-at-control_at
returns-then-at-control_at c =
    let a = c.args in
    let inside = lt-ltb a.slot (control_slot_at a.plan) (omega (arith, c.if-at-control_at.true, c.control_at.ensures)) in
    c.beacon_kind.ensures ∙ sym ((kinds_by_region a.plan a.seat.row a.seat.hop (slots_of a.seat.slots) a.slot).beacons inside)

pub returns-then-at-data : goal.returns-then-at-data
returns-then-at-data c =
    let a = c.args in
    c.control_kind.ensures ∙
    sym ((kinds_by_region a.plan a.seat.row a.seat.hop (slots_of a.seat.slots) a.slot).controls (inside a.slot (control_slot_at a.plan) (data_slot_at a.plan)
    (omega (arith, c.if-at-control_at.false, c.control_at.ensures)) (omega (arith, c.if-at-data.true, c.data_at-data.ensures))))

pub returns-then-at-discovery_at : goal.returns-then-at-discovery_at
returns-then-at-discovery_at c =
    let a = c.args in
    c.data_kind.ensures ∙
    (rw c.data_at-data.ensures
    (sym ((kinds_by_region a.plan a.seat.row a.seat.hop (slots_of a.seat.slots) a.slot).data_slots (inside a.slot (data_slot_at a.plan) (discovery_slot_at a.plan)
    (omega (arith, c.if-at-data.false, c.data_at-data.ensures)) (omega (arith, c.if-at-discovery_at.true, c.discovery_at.ensures))))))

pub returns-then-at-sleep_at : goal.returns-then-at-sleep_at
returns-then-at-sleep_at c =
    let a = c.args in
    c.discovery_kind.ensures ∙
    sym ((kinds_by_region a.plan a.seat.row a.seat.hop (slots_of a.seat.slots) a.slot).discovery (inside a.slot (discovery_slot_at a.plan) (sleep_slot_at a.plan)
    (omega (arith, c.if-at-discovery_at.false, c.discovery_at.ensures)) (omega (arith, c.if-at-sleep_at.true, c.sleep_at.ensures))))

pub returns : goal.returns
returns c =
    let a = c.args in
    sym ((kinds_by_region a.plan a.seat.row a.seat.hop (slots_of a.seat.slots) a.slot).behind (omega (arith, c.if-at-sleep_at.false, c.sleep_at.ensures)))
