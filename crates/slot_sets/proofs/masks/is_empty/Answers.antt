-- `is_empty`: 0 alone is the mask of no slots.
-- Assumes nothing.
use Rattle.slot_sets.proofs.MaskLaws.{mask_empty}
use Rattle.slot_sets.proofs.masks.is_empty.Goals as goal

pub returns : goal.returns
returns c = mask_empty c.args.m c.ranges.m.fits
