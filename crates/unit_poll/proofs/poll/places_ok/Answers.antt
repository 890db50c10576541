-- `places_ok`'s loop goes down from the last place: whether the places from an index on are right, and the unit of the first of them.
-- Assumes nothing.
use Rattle.octets.proofs.Words.{◌≡◌, refl, arith}
use Rattle.unit_poll.proofs.PlaceLaws.{places-past, ok_turn, unit_turn}
use Rattle.unit_poll.proofs.poll.places_ok.Goals as goal

pub loop-place-init : goal.loop-place-init
loop-place-init c =
    rw (places-past c.args.s.now 24 (omega arith)) (refl, refl)

pub loop-place-preserved : goal.loop-place-preserved
loop-place-preserved c =
    let l = c.loop-place in
    let s = c.args.s.now in (
      rw (c.ordered-good.ensures, c.at-voter.ensures) (ok_turn s c.args.own l.place c.loop-place-test.true l.auto.place _ _ l.invariant.0 l.invariant.1),
      rw c.at-voter.ensures (unit_turn s c.args.own l.place c.loop-place-test.true l.auto.place),
    )

pub returns : goal.returns
returns c =
    let z : c.loop-place.place ≡ 0 = omega arith in
    rw z at c.loop-place.invariant.0
