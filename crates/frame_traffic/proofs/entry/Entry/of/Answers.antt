-- `Entry::of`: the fields of an entry stand one behind the other.
-- Assumes nothing.
use Rattle.octets.proofs.Words.{◌≡◌, ◌+◌, ◌*◌, arith}
use Rattle.frame_traffic.specs.Traffic.{entry_at}
use Rattle.frame_traffic.proofs.entry.Entry.of.Goals as goal

pub returns : goal.returns
unfolding entry_at
returns c =
    let p = 10 * c.args.position in
    let a : p + 2 + 1 ≡ p + 3 = omega arith in
    let b : p + 3 + 1 ≡ p + 4 = omega arith in
    let d : p + 4 + 2 ≡ p + 6 = omega arith in
    cc
