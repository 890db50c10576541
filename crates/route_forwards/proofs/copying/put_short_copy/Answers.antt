-- `put_short_copy`: this unit as source, hop and one more, the delay with the given one, and the checksum behind.
-- Assumes nothing.
use Rattle.octets.proofs.Words.{refl, [], ◌∷◌, arith}
use Rattle.octets.specs.Layouts.{bytes}
use Rattle.octets.proofs.LayoutLaws.{length-bytes}
use Rattle.frame_kinds.proofs.StoredLaws.{frame-put}
use Rattle.frame_beacons.specs.ShortBeacons.{short_beacon, short_beacon_values}
use Rattle.route_forwards.specs.Copies.{short_passed_by}
use Rattle.route_forwards.proofs.CopyLaws.{filled}
use Rattle.route_forwards.proofs.copying.put_short_copy.Goals as goal

pub returns : goal.returns
unfolding short_passed_by
returns c =
    let a = c.args in
    let vs = short_beacon_values (short_passed_by a.own a.delay a.beacon) in
    let size = length-bytes (1 ∷ short_beacon.widths) (short_beacon.code ∷ vs) refl in
    frame-put short_beacon vs [] a.out.now refl _ _ _ (omega (arith, c.requires.2))
    (filled 18 a.out.now (bytes (1 ∷ short_beacon.widths) (short_beacon.code ∷ vs)) _ size (omega (arith, c.requires.2)) (rw (← c.from.ensures) c.put.ensures)) refl
    c.seal.ensures
