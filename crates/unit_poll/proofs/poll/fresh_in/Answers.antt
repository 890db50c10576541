-- `fresh_in`: the head and zeros.
-- Assumes nothing.
use Rattle.std.proofs.Common.{arith}
use Rattle.std.proofs.lemmas.Grind.{common_steps}
use Rattle.octets.proofs.Words.{◌≡◌, true, length}
use Rattle.octets.specs.Addresses.{address}
use Rattle.unit_poll.proofs.PollLaws.{fresh-accepted}
use Rattle.unit_poll.proofs.poll.fresh_in.Goals as goal

pub returns : goal.returns
returns c =
    let long : length c.args.poll.now ≡ 75 = grind (arith, common_steps) in
    let good : address c.args.own ≡ true = grind (arith, common_steps) in
    fresh-accepted _ _ _ long good _ _ _ c.store.ensures c.store-2.ensures c.put_zeros.ensures
