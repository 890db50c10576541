-- The copy of a beacon: fields that fill the part they are put into, and the copy of either kind from that of its own.
-- Assumes nothing.
use Rattle.octets.proofs.Words.{◌≡◌, ap, true, false, List, [], ◌++◌, ℕ, ◌+◌, ◌-◌, ◌≤◌, arith, drop, length, take, sets}
use Rattle.octets.proofs.StoreLaws.{sets-part}
use Rattle.frame_kinds.specs.Shape.{values_in, frame_of}
use Rattle.frame_beacons.specs.declared.beacon.Beacon.{Beacon}
use Rattle.frame_beacons.specs.declared.short.ShortBeacon.{ShortBeacon}
use Rattle.frame_beacons.specs.Beacons.{beacon, beacon_values, beacon_from}
use Rattle.frame_beacons.specs.ShortBeacons.{short_beacon, short_beacon_values, short_beacon_from}
use Rattle.frame_beacons.specs.EitherBeacons.{is_short}
use Rattle.frame_beacons.proofs.EitherLaws.{short_read, beacon-read}
use Rattle.route_forwards.specs.Copies.{passed_by, short_passed_by, copy_by, Fitting}

-- so many bytes fill the part that they are put into
pub filled : (n : ℕ) (l vs part : List ℕ) → length vs ≡ n → n ≤ length l → part ≡ sets (take (n - 0) (drop 0 l)) 0 vs
    → take 0 l ++ (part ++ drop (n - 0) (drop 0 l)) ≡ sets l 0 vs
filled n l vs part s h e = rw e (sets-part l vs 0 n (omega (arith, s)) h)

module _ (s : List ℕ) (delay room : ℕ) (f : Fitting s delay room) where
  -- ---- a short one
  module _ (x : is_short s ≡ true) (b : ShortBeacon) (v : short_beacon_values b ≡ values_in short_beacon s) where
    pub short_fitting : (b.hop + 1 ≤ 255) × (b.delay + delay ≤ 0xFFFF) × (19 ≤ room)
    short_fitting =
        let heard = short_read s x b v in
        (rw (← heard) at f.hops, rw (← heard, x) at f.sum, rw x at f.size)

    pub short_copied : (own : ℕ) → frame_of short_beacon (short_beacon_values (short_passed_by own delay b)) [] ≡ copy_by own delay s
    short_copied own = rw x (ap (λ (vs : List ℕ). frame_of short_beacon (short_beacon_values (short_passed_by own delay (short_beacon_from vs))) []) v)

  -- ---- any other
  module _ (x : is_short s ≡ false) (b : Beacon) (v : beacon_values b ≡ values_in beacon s) where
    pub beacon-fitting : (b.hop + 1 ≤ 255) × (b.delay + delay ≤ 0xFFFFFFFF) × (34 ≤ room)
    beacon-fitting =
        let heard = beacon-read s x b v in
        (rw (← heard) at f.hops, rw (← heard, x) at f.sum, rw x at f.size)

    pub beacon_copied : (own : ℕ) → frame_of beacon (beacon_values (passed_by own delay b)) [] ≡ copy_by own delay s
    beacon_copied own = rw x (ap (λ (vs : List ℕ). frame_of beacon (beacon_values (passed_by own delay (beacon_from vs))) []) v)
