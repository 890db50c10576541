-- A beacon of either kind: what a unit that hears one needs of it, why bytes are neither, and why they are none for a unit of a network.
-- Assumes nothing.
use Rattle.std.specs.Prelude.{ℕ, Bool, true, false, not, cond, List, [], ◌∷◌, eqb}
use Rattle.octets.specs.Addresses as rules
use Rattle.octets.specs.Answers.{Reason, reason, refusing, first}
use Rattle.octets.specs.Numbers.{num}
use Rattle.frame_kinds.specs.Reading.{refusal_as}
use Rattle.frame_kinds.specs.Shape.{Kind, values_in}
use Rattle.frame_beacons.specs.declared.beacon.Beacon.{Beacon}
use Rattle.frame_beacons.specs.declared.short.ShortBeacon.{ShortBeacon}
use Rattle.frame_beacons.specs.declared.either.EitherBeacon.{EitherBeacon}
use Rattle.frame_beacons.specs.Beacons.{beacon, beacon_from}
use Rattle.frame_beacons.specs.ShortBeacons.{short_beacon, short_beacon_from}

abbrev pub of_beacon : Beacon → EitherBeacon
of_beacon b =
    record {
      original_time = b.original_time;
      delay = b.delay;
      source = b.source;
      network = b.network;
      original_source = b.original_source;
      sequence = b.sequence;
      hop = b.hop;
      max_hops = b.max_hops;
      short = false;
    }

-- a short one names no original source
abbrev pub of_short : ShortBeacon → EitherBeacon
of_short b =
    record {
      original_time = b.original_time;
      delay = b.delay;
      source = b.source;
      network = b.network;
      original_source = 0;
      sequence = b.sequence;
      hop = b.hop;
      max_hops = b.max_hops;
      short = true;
    }

-- the beacons that bytes are, as each kind has its fields
abbrev pub beacon_in : List ℕ → Beacon
beacon_in s = beacon_from (values_in beacon s)

abbrev pub short_in : List ℕ → ShortBeacon
short_in s = short_beacon_from (values_in short_beacon s)

-- their type is that of the short kind
abbrev pub is_short : List ℕ → Bool
is_short s = eqb (num 1 s 0) short_beacon.code

-- the kind that the type says; of any other type it is the beacon, which refuses it
abbrev pub beacon_kind : List ℕ → Kind
beacon_kind s = cond (is_short s) short_beacon beacon

-- why bytes are no beacon of either kind; 0 where they are one
unfoldable pub either_refusal : List ℕ → ℕ
either_refusal s = refusal_as (beacon_kind s) s

-- what they say as the kind that their type is
unfoldable pub either_in : List ℕ → EitherBeacon
either_in s = cond (is_short s) (of_short (short_in s)) (of_beacon (beacon_in s))

-- ---- for a unit of a network
-- 1 2 1 3 4 of either kind, then 4 for a unit that names no network, 15 for a beacon of another
abbrev pub reasons_for : ℕ → List ℕ → List Reason
reasons_for network s =
    refusing (either_refusal s) ∷
    reason (not (rules.network network)) 4 ∷
    reason (not (eqb (either_in s).network network)) 15 ∷
    []

unfoldable pub refusal_for : ℕ → List ℕ → ℕ
refusal_for network s = first (reasons_for network s)
