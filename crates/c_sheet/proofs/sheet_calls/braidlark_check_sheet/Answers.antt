-- `braidlark_check_sheet`: buffers of another length, a sheet that is refused, or what was found.
-- Assumes nothing.
use Rattle.c_sheet.proofs.SheetCallLaws.{not-judged, judged}
use Rattle.c_sheet.proofs.sheet_calls.braidlark_check_sheet.Goals as goal

pub returns-in-Ok : goal.returns-in-Ok
returns-in-Ok c = judged _ _ _ _ _ _ _ _ c.numbers.ensures c.in-Ok.ensures

pub returns-in-Err : goal.returns-in-Err
returns-in-Err c = not-judged _ _ _ _ _ _ c.in-Err.refusal _ c.number.ensures c.in-Err.ensures
