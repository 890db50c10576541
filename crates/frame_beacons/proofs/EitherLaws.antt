-- A beacon of either kind, from what its own kind says.
-- Assumes nothing.
use Rattle.octets.proofs.Words.{◌≡◌, ap, Bool, true, false, cond, List, ℕ, ◌<◌, arith, eqb}
use Rattle.octets.specs.Answers.{refusing}
use Rattle.octets.proofs.AnswerLaws.{Where}
use Rattle.octets.specs.Layouts.{Bytes}
use Rattle.octets.specs.Numbers.{num}
use Rattle.octets.proofs.LayoutLaws.{fields_fit}
use Rattle.frame_kinds.proofs.FourteenLaws.{read_never}
use Rattle.frame_kinds.specs.Reading.{refusal_as}
use Rattle.frame_kinds.specs.Shape.{values_in}
use Rattle.frame_beacons.specs.declared.beacon.Beacon.{Beacon}
use Rattle.frame_beacons.specs.declared.short.ShortBeacon.{ShortBeacon}
use Rattle.frame_beacons.specs.Beacons.{beacon, beacon_values, beacon_from}
use Rattle.frame_beacons.specs.ShortBeacons.{short_beacon, short_beacon_values, short_beacon_from}
use Rattle.frame_beacons.specs.EitherBeacons.{of_beacon, of_short, beacon_in, short_in, is_short, beacon_kind, either_refusal, either_in}

module _ (s : List ℕ) where
  pub short_refused : is_short s ≡ true → refusal_as short_beacon s ≡ either_refusal s
  unfolding either_refusal
  short_refused t = rw t

  pub beacon-refused : is_short s ≡ false → refusal_as beacon s ≡ either_refusal s
  unfolding either_refusal
  beacon-refused t = rw t

  pub short_read : is_short s ≡ true → (b : ShortBeacon) → short_beacon_values b ≡ values_in short_beacon s → of_short b ≡ either_in s
  unfolding either_in
  short_read t b v = rw t (ap (λ (vs : List ℕ). of_short (short_beacon_from vs)) v)

  pub beacon-read : is_short s ≡ false → (b : Beacon) → beacon_values b ≡ values_in beacon s → of_beacon b ≡ either_in s
  unfolding either_in
  beacon-read t b v = rw t (ap (λ (vs : List ℕ). of_beacon (beacon_from vs)) v)

  -- one field of either kind
  pub short_network : is_short s ≡ true → num 2 s 3 ≡ (either_in s).network
  unfolding either_in
  short_network t = rw t

  pub beacon-network : is_short s ≡ false → num 2 s 6 ≡ (either_in s).network
  unfolding either_in
  beacon-network t = rw t

  pub short_hop : is_short s ≡ true → num 1 s 8 ≡ (either_in s).hop
  unfolding either_in
  short_hop t = rw t

  pub beacon_hop : is_short s ≡ false → num 1 s 21 ≡ (either_in s).hop
  unfolding either_in
  beacon_hop t = rw t

-- a beacon of neither kind is never refused with 14
pub either_never : (s : List ℕ) → Where (eqb (either_refusal s) 14) ((refusing (either_refusal s)).holds ≡ false)
unfolding either_refusal
either_never s = read_never (beacon_kind s) s

-- what was read of bytes fits two of them again
pub either-fits : (s : List ℕ) → Bytes s → ((either_in s).original_source < 0x10000) × ((either_in s).sequence < 0x10000)
unfolding either_in
either-fits s b = go (is_short s)
  where
    go : (x : Bool) → ((cond x (of_short (short_in s)) (of_beacon (beacon_in s))).original_source < 0x10000) × ((cond x (of_short (short_in s)) (of_beacon (beacon_in s))).sequence < 0x10000)
    go true = (omega arith, (fields_fit s b short_beacon.widths 1).1.1.1.1.1.1.1.1.0)
    go false = let f = fields_fit s b beacon.widths 1 in (f.1.1.1.1.1.1.1.1.0, f.1.1.1.1.1.1.1.1.1.1.1.1.1.0)
