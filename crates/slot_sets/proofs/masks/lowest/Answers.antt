-- `lowest`: what the turns leave is the mask without its k lowest slots, and the rest of it is those.
-- Assumes nothing.
use mathlib.Core.Path.{◌≡◌, refl, ap, ◌∙◌}
use Prim.Native.Nat.{ℕ}
use native.Mathlib.Omega.{arith}
use Rattle.slot_sets.specs.Sets.{slots_of, minus}
use Rattle.slot_sets.proofs.DropLaws.{without_lowest, minus-left}
use Rattle.slot_sets.proofs.TurnLaws.{turned, all_dropped}
use Rattle.slot_sets.proofs.masks.lowest.Goals as goal

pub loop-init : goal.loop-init
unfolding without_lowest
loop-init c = refl

pub returns-then-left-eq0 : goal.returns-then-left-eq0
returns-then-left-eq0 c = all_dropped c.args.m c.args.k c.loop.left c.loop.counter c.loop.invariant c.if-left-eq0.true c.loop-test.true

pub loop-preserved : goal.loop-preserved
loop-preserved c = turned c.args.m c.loop.left c.loop.counter c.loop.invariant c.if-left-eq0.false

pub returns : goal.returns
returns c =
    let set = slots_of c.args.m in
    let all : c.loop.counter ≡ c.args.k = omega arith in
    c.without.ensures ∙ ap (minus set) (c.loop.invariant ∙ ap (λ (n : ℕ). without_lowest n set) all) ∙ minus-left c.args.k set
