-- The short beacon: document 02's line. Every field of it is one of the beacon's, and keeps its rule; there is no superframe ms, and so no product.
-- Assumes nothing.
use Rattle.std.specs.Prelude.{ℕ, Bool, List, [], ◌∷◌, leb, get_or}
use Rattle.frame_kinds.specs.Fields.{byte, half, word, unit, net, between, nonzero}
use Rattle.frame_kinds.specs.Shape.{Kind, fixed_with}
use Rattle.frame_beacons.specs.declared.short.ShortBeacon.{ShortBeacon}

-- ---- 0x47 short beacon: source, network, total slots, slot ms, hop, original time, delay, max hops, sequence
abbrev pub short_beacon_values : ShortBeacon → List ℕ
short_beacon_values f =
    f.source ∷ f.network ∷ f.total_slots ∷ f.slot_ms ∷ f.hop ∷ f.original_time ∷ f.delay ∷ f.max_hops ∷ f.sequence ∷ []

abbrev pub short_beacon_from : List ℕ → ShortBeacon
short_beacon_from vs =
    record {
      source = get_or vs 0 0;
      network = get_or vs 1 0;
      total_slots = get_or vs 2 0;
      slot_ms = get_or vs 3 0;
      hop = get_or vs 4 0;
      original_time = get_or vs 5 0;
      delay = get_or vs 6 0;
      max_hops = get_or vs 7 0;
      sequence = get_or vs 8 0;
    }

-- the hop is at most max hops
abbrev pub hop_within : ShortBeacon → List Bool
hop_within f = leb f.hop f.max_hops ∷ []

abbrev pub short_beacon : Kind
short_beacon =
    fixed_with 0x47
    (unit ∷ net ∷ between 1 1 100 ∷ nonzero 2 ∷ byte ∷ word ∷ half ∷ between 1 1 10 ∷ half ∷ [])
    (λ vs. hop_within (short_beacon_from vs))
