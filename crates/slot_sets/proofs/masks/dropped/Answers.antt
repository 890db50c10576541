-- `dropped`: one slot fewer, or none.
-- Assumes nothing.
use native.Mathlib.Omega.{arith}
use Rattle.slot_sets.proofs.MaskLaws.{mask-drop}
use Rattle.slot_sets.proofs.FewLaws.{none_dropped, one-dropped}
use Rattle.slot_sets.proofs.masks.dropped.Goals as goal

pub returns-then-m-gt0 : goal.returns-then-m-gt0
returns-then-m-gt0 c =
    let m = c.args.m in
    one-dropped m _ (mask-drop m c.if-m-gt0.true)

pub returns : goal.returns
returns c = none_dropped c.args.m (omega (arith, c.if-m-gt0.false))
