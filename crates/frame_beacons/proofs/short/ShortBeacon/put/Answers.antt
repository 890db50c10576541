-- `ShortBeacon::put`: the type and the fields, one behind the other.
-- Assumes nothing.
use Rattle.octets.proofs.Words.{◌∷◌}
use Rattle.octets.proofs.StoreLaws.{all_laid}
use Rattle.frame_beacons.specs.ShortBeacons.{short_beacon, short_beacon_values}
use Rattle.frame_beacons.proofs.short.ShortBeacon.put.Goals as goal

pub returns : goal.returns
returns c =
    all_laid _ 0 (1 ∷ short_beacon.widths) (short_beacon.code ∷ short_beacon_values _) _ (rw (
      c.store-10.ensures,
      c.store-9.ensures,
      c.store-8.ensures,
      c.store-7.ensures,
      c.store-6.ensures,
      c.store-5.ensures,
      c.store-4.ensures,
      c.store-3.ensures,
      c.store-2.ensures,
      c.store.ensures,
    ))
