-- `without`: to keep the bits that the second has not is to lose its slots.
-- Assumes nothing.
use Rattle.slot_sets.proofs.MaskLaws.{mask_and_not}
use Rattle.slot_sets.proofs.masks.without.Goals as goal

pub returns : goal.returns
returns c = mask_and_not c.args.a c.args.b c.ranges.b.fits
