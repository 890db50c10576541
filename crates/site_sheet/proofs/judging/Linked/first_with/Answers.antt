-- `first_with`: the first of the pairs with the rows from the place on.
-- Assumes nothing.
use Rattle.octets.proofs.Words.{arith}
use Rattle.site_sheet.proofs.JudgeLaws.{none_with, with_passed, with_taken}
use Rattle.site_sheet.proofs.judging.Linked.first_with.Goals as goal

pub loop-place-init : goal.loop-place-init
loop-place-init c = none_with _ _ _ c.args.one _ c.args.self.now.sheet.counted

pub loop-place-preserved-then-not-clashes : goal.loop-place-preserved-then-not-clashes
loop-place-preserved-then-not-clashes c =
    let l = c.loop-place in
    with_passed _ _ l.place c.args.one _ c.known_at-other.result _ _ c.loop-place-test.true (omega (arith, c.args.self.now.sheet.counted)) l.invariant c.known_at-other.ensures c.clashes.ensures c.if-not-clashes.true

pub loop-place-preserved : goal.loop-place-preserved
loop-place-preserved c =
    let l = c.loop-place in
    with_taken _ _ l.place c.args.one _ c.known_at-other.result _ _ c.loop-place-test.true (omega (arith, c.args.self.now.sheet.counted)) l.invariant c.known_at-other.ensures c.clashes.ensures c.if-not-clashes.false _ c.sooner.ensures
