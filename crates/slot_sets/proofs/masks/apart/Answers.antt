-- `apart`: the common bits are the common slots.
-- Assumes nothing.
use Rattle.slot_sets.proofs.MaskLaws.{mask-apart}
use Rattle.slot_sets.proofs.masks.apart.Goals as goal

pub returns : goal.returns
returns c = mask-apart c.args.a c.args.b c.ranges.a.fits
