-- `Voter::put`: both numbers, one behind the other.
-- Assumes nothing.
use Rattle.octets.proofs.Words.{refl, arith, ◌+◌, ◌*◌}
use Rattle.octets.proofs.StoreLaws.{all-put, put, done}
use Rattle.unit_poll.specs.PollBytes.{voter_widths, voter_values}
use Rattle.unit_poll.proofs.voter.Voter.put.Goals as goal

pub returns : goal.returns
returns c =
    let a = c.args in
    all-put a.out.now (3 + 3 * a.place) voter_widths (voter_values a.self) _
    (put c.store.ensures (omega arith)
    (put c.store-2.ensures refl done))
