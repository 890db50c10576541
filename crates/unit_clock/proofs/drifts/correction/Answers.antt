-- `correction`: each return is one side of a limit.
-- Assumes nothing.
use Rattle.octets.proofs.Words.{sym, ap, ◌∙◌, arith, rules}
use Rattle.unit_clock.specs.Clock.{signed, wrapped}
use Rattle.unit_clock.proofs.CorrectionLaws.{hard, by-half, kept}
use Rattle.unit_clock.proofs.SignLaws.{wrapped-signed, above, sized, half-cast}
use Rattle.unit_clock.proofs.drifts.correction.Goals as goal

pub returns-then-size-gt-LARGE_MS : goal.returns-then-size-gt-LARGE_MS
returns-then-size-gt-LARGE_MS c =
    let bits = c.args.bits in
    let size = c.unsigned_abs-size.ensures.value ∙ sized bits _ (search rules) c.cast_signed-drift.ensures in
    sym (wrapped-signed bits (search rules)) ∙ ap wrapped (sym (hard (signed bits) _ size (omega (arith, c.if-size-gt-LARGE_MS.true))))

pub returns-then-size-gt-SMALL_MS : goal.returns-then-size-gt-SMALL_MS
returns-then-size-gt-SMALL_MS c =
    let bits = c.args.bits in
    let size = c.unsigned_abs-size.ensures.value ∙ sized bits _ (search rules) c.cast_signed-drift.ensures in
    c.cast_unsigned.ensures ∙ half-cast bits _ (search rules) c.cast_signed-drift.ensures ∙
    ap wrapped (sym (by-half (signed bits) _ size (omega (arith, c.if-size-gt-LARGE_MS.false)) (omega (arith, c.if-size-gt-SMALL_MS.true))))

pub returns-else-size-gt-SMALL_MS : goal.returns-else-size-gt-SMALL_MS
returns-else-size-gt-SMALL_MS c =
    let bits = c.args.bits in
    let size = c.unsigned_abs-size.ensures.value ∙ sized bits _ (search rules) c.cast_signed-drift.ensures in
    sym (above 0) ∙ ap wrapped (sym (kept (signed bits) _ size (omega (arith, c.if-size-gt-SMALL_MS.false))))
