-- The copy of a beacon that a unit passes on: of the kind that it heard, with this unit as source, hop and one more, the delay with the given one.
-- Assumes nothing.
use Rattle.std.specs.Prelude.{ℕ, ◌+◌, ◌≤◌, Bool, cond, List, []}
use Rattle.frame_kinds.specs.Shape.{frame_of}
use Rattle.frame_beacons.specs.declared.beacon.Beacon.{Beacon}
use Rattle.frame_beacons.specs.declared.short.ShortBeacon.{ShortBeacon}
use Rattle.frame_beacons.specs.Beacons.{beacon, beacon_values}
use Rattle.frame_beacons.specs.ShortBeacons.{short_beacon, short_beacon_values}
use Rattle.frame_beacons.specs.EitherBeacons.{beacon_in, short_in, is_short, either_in}

unfoldable pub passed_by : ℕ → ℕ → Beacon → Beacon
passed_by own delay b =
    record {
      destination = b.destination;
      source = own;
      size = b.size;
      network = b.network;
      superframe_number = b.superframe_number;
      superframe_ms = b.superframe_ms;
      total_slots = b.total_slots;
      slot_ms = b.slot_ms;
      original_source = b.original_source;
      hop = b.hop + 1;
      original_time = b.original_time;
      delay = b.delay + delay;
      max_hops = b.max_hops;
      sequence = b.sequence;
    }

unfoldable pub short_passed_by : ℕ → ℕ → ShortBeacon → ShortBeacon
short_passed_by own delay b =
    record {
      source = own;
      network = b.network;
      total_slots = b.total_slots;
      slot_ms = b.slot_ms;
      hop = b.hop + 1;
      original_time = b.original_time;
      delay = b.delay + delay;
      max_hops = b.max_hops;
      sequence = b.sequence;
    }

-- the bytes of the copy, sent by the unit `own`, of the beacon that the bytes s are
abbrev pub copy_by : ℕ → ℕ → List ℕ → List ℕ
copy_by own delay s =
    cond (is_short s) (frame_of short_beacon (short_beacon_values (short_passed_by own delay (short_in s))) [])
    (frame_of beacon (beacon_values (passed_by own delay (beacon_in s))) [])

-- how many bytes a kind has, and the longest delay that it has room for
abbrev pub copy_size : Bool → ℕ
copy_size short = cond short 19 34

abbrev pub longest_delay : Bool → ℕ
longest_delay short = cond short 0xFFFF 0xFFFFFFFF

-- the copy's sums fit their fields, and it fits so many bytes
pub record Fitting (s : List ℕ) (delay room : ℕ) : Type 0 where
  pub hops : (either_in s).hop + 1 ≤ 255
  pub sum : (either_in s).delay + delay ≤ longest_delay (is_short s)
  pub size : copy_size (is_short s) ≤ room
