-- `below`: one less than the bit at d, and every bit where d is past the mask.
-- Assumes nothing.
use mathlib.Core.Path.{ap, ◌∙◌}
use Prim.Native.Nat.{ℕ, ◌-◌}
use native.Mathlib.Omega.{arith}
use lib.Pow.{pow_pos}
use Rattle.slot_sets.specs.Sets.{slots_of}
use Rattle.slot_sets.proofs.MaskLaws.{mask_below, mask_one, firsts-past}
use Rattle.slot_sets.proofs.masks.below.Goals as goal

pub returns-then-d-ge64 : goal.returns-then-d-ge64
returns-then-d-ge64 c = mask_below 64 ∙ firsts-past c.args.d (omega arith)

pub overflow_sub-result : goal.overflow_sub-result
overflow_sub-result c = omega (arith, mask_one c.args.d (omega arith), pow_pos c.args.d)

pub returns : goal.returns
returns c =
    let d = c.args.d in
    ap (λ (x : ℕ). slots_of (x - 1)) (mask_one d (omega arith)) ∙ mask_below d
