-- `size`: the ones of a mask are its slots.
-- Assumes nothing.
use Rattle.slot_sets.proofs.MaskLaws.{mask_size}
use Rattle.slot_sets.proofs.masks.size.Goals as goal

pub returns : goal.returns
returns c = mask_size c.args.m c.ranges.m.fits
