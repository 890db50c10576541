-- `holds`: the bit at i, and none past the mask.
-- Assumes nothing.
use mathlib.Core.Path.{sym}
use native.Mathlib.Omega.{arith}
use Rattle.slot_sets.specs.Sets.{slots_of}
use Rattle.slot_sets.proofs.MaskLaws.{mask-has, has-past}
use Rattle.slot_sets.proofs.masks.holds.Goals as goal

pub returns-then-i-lt64 : goal.returns-then-i-lt64
returns-then-i-lt64 c = mask-has c.args.m c.args.i (omega arith)

pub returns-else-i-lt64 : goal.returns-else-i-lt64
returns-else-i-lt64 c = sym (has-past (slots_of c.args.m) c.args.i (omega arith))
