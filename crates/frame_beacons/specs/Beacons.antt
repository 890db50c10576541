-- The beacon: document 01's table and field rules, field by field.
-- The values of its record in the paper's order, the record with given values, and its fields. A name of the code that has a `_` stands in « ».
-- Assumes nothing.
use Rattle.std.specs.Prelude.{ℕ, ◌*◌, Bool, List, [], ◌∷◌, eqb, leb, get_or}
use Rattle.frame_kinds.specs.Fields.{byte, half, word, unit, net, only, between, nonzero}
use Rattle.frame_kinds.specs.Shape.{Kind, fixed_with}
use Rattle.frame_beacons.specs.declared.beacon.Beacon.{Beacon}

-- ---- 0x46 beacon: destination, source, size, network, superframe number, superframe ms, total slots, slot ms, original source, hop, original time, delay,
-- ---- max hops, sequence
abbrev pub beacon_values : Beacon → List ℕ
beacon_values f =
    f.destination ∷ f.source ∷ f.size ∷ f.network ∷ f.superframe_number ∷ f.superframe_ms ∷ f.total_slots ∷ f.slot_ms ∷
    f.original_source ∷
    f.hop ∷
    f.original_time ∷
    f.delay ∷
    f.max_hops ∷
    f.sequence ∷
    []

abbrev pub beacon_from : List ℕ → Beacon
beacon_from vs =
    record {
      destination = get_or vs 0 0;
      source = get_or vs 1 0;
      size = get_or vs 2 0;
      network = get_or vs 3 0;
      superframe_number = get_or vs 4 0;
      superframe_ms = get_or vs 5 0;
      total_slots = get_or vs 6 0;
      slot_ms = get_or vs 7 0;
      original_source = get_or vs 8 0;
      hop = get_or vs 9 0;
      original_time = get_or vs 10 0;
      delay = get_or vs 11 0;
      max_hops = get_or vs 12 0;
      sequence = get_or vs 13 0;
    }

-- the hop is at most max hops, and the superframe has the ms of all its slots
abbrev pub hops_and_slots : Beacon → List Bool
hops_and_slots f = leb f.hop f.max_hops ∷ eqb f.superframe_ms (f.total_slots * f.slot_ms) ∷ []

abbrev pub beacon : Kind
beacon =
    fixed_with 0x46
    (only 2 0xFFFF ∷ unit ∷ only 1 27 ∷ net ∷ word ∷ half ∷ between 1 1 100 ∷ nonzero 4 ∷
    unit ∷
    byte ∷
    word ∷
    word ∷
    between 1 1 10 ∷
    half ∷
    [])
    (λ vs. hops_and_slots (beacon_from vs))
