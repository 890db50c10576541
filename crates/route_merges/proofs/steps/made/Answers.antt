-- `made`: the row withdrawn, or the candidate's.
-- Assumes nothing.
use Rattle.octets.proofs.Words.{sym, ◌∙◌, arith, Fits-under}
use Rattle.route_merges.proofs.CandidateLaws.{good-hops}
use Rattle.route_merges.proofs.steps.made.Goals as goal

pub returns-then-bad : goal.returns-then-bad
returns-then-bad c = rw (← c.bad.ensures, c.if-bad.true)

pub overflow_cast-result : goal.overflow_cast-result
overflow_cast-result c =
    let few = good-hops c.args.candidate (sym c.bad.ensures ∙ c.if-bad.false) in
    Fits-under _ _ 17 (omega (arith, few)) _

pub returns : goal.returns
returns c = rw (← c.bad.ensures, c.if-bad.false)
