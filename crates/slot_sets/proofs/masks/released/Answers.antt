-- `released`: to keep all but k of the slots as the lowest is to release the k highest.
-- Assumes nothing.
use mathlib.Core.Path.{sym, ap, ◌∙◌}
use Prim.Native.Nat.{ℕ, ◌-◌}
use native.Mathlib.Omega.{arith}
use Rattle.slot_sets.specs.Sets.{slots_of, lowest}
use Rattle.slot_sets.proofs.LowestLaws.{releasing_keeps, none_kept}
use Rattle.slot_sets.proofs.MaskLaws.{mask-nothing}
use Rattle.slot_sets.proofs.masks.released.Goals as goal

pub returns-then-held-k : goal.returns-then-held-k
returns-then-held-k c =
    let few = c.if-held-k.true in
    mask-nothing
    ∙ none_kept c.args.k (slots_of c.args.m) (omega (arith, few, c.size-held.ensures))

pub returns : goal.returns
returns c =
    let k = c.args.k in
    let set = slots_of c.args.m in
    c.lowest.ensures
    ∙ ap (λ (held : ℕ). lowest (held - k) set) c.size-held.ensures
    ∙ sym (releasing_keeps 64 k set)
