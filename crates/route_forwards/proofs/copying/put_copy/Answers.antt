-- `put_copy`: this unit as source, hop and one more, the delay with the given one, and the checksum behind.
-- Assumes nothing.
use Rattle.octets.proofs.Words.{refl, sym, [], ◌∷◌, arith, length-take-le}
use Rattle.octets.specs.Layouts.{bytes}
use Rattle.octets.proofs.LayoutLaws.{length-bytes}
use Rattle.frame_kinds.proofs.StoredLaws.{frame-put}
use Rattle.frame_beacons.specs.Beacons.{beacon, beacon_values}
use Rattle.route_forwards.specs.Copies.{passed_by}
use Rattle.route_forwards.proofs.CopyLaws.{filled}
use Rattle.route_forwards.proofs.copying.put_copy.Goals as goal

pub slice_bounds-put-end-2 : goal.slice_bounds-put-end-2
slice_bounds-put-end-2 c = sym (length-take-le 33 c.args.out.now (omega (arith, c.requires.2)))

pub returns : goal.returns
unfolding passed_by
returns c =
    let a = c.args in
    let vs = beacon_values (passed_by a.own a.delay a.beacon) in
    let size = length-bytes (1 ∷ beacon.widths) (beacon.code ∷ vs) refl in
    frame-put beacon vs [] a.out.now refl _ _ _ (omega (arith, c.requires.2))
    (filled 33 a.out.now (bytes (1 ∷ beacon.widths) (beacon.code ∷ vs)) _ size (omega (arith, c.requires.2)) c.put.ensures) refl
    c.seal.ensures
