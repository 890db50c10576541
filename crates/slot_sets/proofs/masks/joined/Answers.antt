-- `joined`: the bits of either are the slots of either.
-- Assumes nothing.
use Rattle.slot_sets.proofs.MaskLaws.{mask-or}
use Rattle.slot_sets.proofs.masks.joined.Goals as goal

pub returns : goal.returns
returns c = mask-or c.args.a c.args.b
