-- `check_sheet`: why the sheet is refused, or what is judged.
-- Assumes nothing.
use Rattle.std.proofs.Common.{Err}
use Rattle.octets.proofs.Words.{◌≡◌, arith}
use Rattle.site_sheet.proofs.CheckLaws.{says-unfit, few-units, listed-once, says_unlinked, says-judged}
use Rattle.site_sheet.proofs.checking.check_sheet.Goals as goal

pub returns-in_err-refuse_unfit : goal.returns-in_err-refuse_unfit
returns-in_err-refuse_unfit c =
    let e : c.from_residual.result ≡ Err c.in_err-refuse_unfit.field-0.0 = grind arith in
    rw (e, ← c.new-sheet.ensures) (says-unfit _ _ _ c.in_err-refuse_unfit.field-0.0 c.in_err-refuse_unfit.ensures)

pub neighbours_of-requires : goal.neighbours_of-requires
neighbours_of-requires c =
    let held = c.in_ok-refuse_unfit.ensures in
    (few-units c.args.plan c.args.links.now _ held _ c.new-sheet.result.counted, listed-once c.args.plan c.args.links.now _ held)

pub returns-in_default : goal.returns-in_default
returns-in_default c = rw (← c.new-sheet.ensures) (says_unlinked _ _ _ c.in_ok-refuse_unfit.ensures c.in_default.ensures)

pub invariant_of-linked : goal.invariant_of-linked
invariant_of-linked c = record { few = few-units c.args.plan c.args.links.now _ c.in_ok-refuse_unfit.ensures _ c.new-sheet.result.counted }

pub returns : goal.returns
returns c = rw (← c.new-sheet.ensures) (says-judged _ _ _ c.in_ok-refuse_unfit.ensures c.in-Some.masks c.in-Some.ensures _ c.judge.ensures)
