-- `Beacon::put`: the type and the fields, one behind the other.
-- Assumes nothing.
use Rattle.octets.proofs.Words.{◌∷◌}
use Rattle.octets.proofs.StoreLaws.{all_laid}
use Rattle.frame_beacons.specs.Beacons.{beacon, beacon_values}
use Rattle.frame_beacons.proofs.beacon.Beacon.put.Goals as goal

pub returns : goal.returns
returns c =
    all_laid _ 0 (1 ∷ beacon.widths) (beacon.code ∷ beacon_values _) _ (rw (
      c.store-15.ensures,
      c.store-14.ensures,
      c.store-13.ensures,
      c.store-12.ensures,
      c.store-11.ensures,
      c.store-10.ensures,
      c.store-9.ensures,
      c.store-8.ensures,
      c.store-7.ensures,
      c.store-6.ensures,
      c.store-5.ensures,
      c.store-4.ensures,
      c.store-3.ensures,
      c.store-2.ensures,
      c.store.ensures,
    ))
