-- `write`: no numbers are refused, and so is a type that no kind has.
-- Assumes nothing.
use Rattle.octets.proofs.Words.{◌≡◌, ap, ◌∙◌, ◌<◌, arith, rules, length}
use Rattle.std.specs.Prelude.{Err}
use Rattle.octets.specs.declared.refusals.Refusal.TheVariants.{Length, WrongType}
use Rattle.frames.specs.Layout.{layout_of}
use Rattle.frames.proofs.ListedLaws.{none-listed}
use Rattle.frame_writing.proofs.KnownLaws.{too_large, unknown}
use Rattle.frame_writing.proofs.numbers.write.Goals as goal

pub returns-in_err-refuse_if : goal.returns-in_err-refuse_if
returns-in_err-refuse_if c =
    let a = c.args in
    let e : c.from_residual.result ≡ Err Length = search rules in
    let h : length a.numbers.now ≡ 0 = search rules in
    rw e (none-listed a.part.now a.out.now a.numbers.now h)

pub returns-in_default : goal.returns-in_default
returns-in_default c =
    let a = c.args in
    let some : 0 < length a.numbers.now = search rules in
    too_large a.numbers.now a.part.now a.out.now (λ z. omega (arith, some)) (omega (arith, c.in_default.ensures))

pub returns-in_err-refuse_if-2 : goal.returns-in_err-refuse_if-2
returns-in_err-refuse_if-2 c =
    let a = c.args in
    let e : c.from_residual-in_err-refuse_if-2.result ≡ Err WrongType = search rules in
    let some : 0 < length a.numbers.now = search rules in
    let h : c.layout_of-layout.result.count ≡ 0 = search rules in
    rw e (unknown a.numbers.now a.part.now a.out.now (λ z. omega (arith, some)) c.layout_of-layout.result
    (c.layout_of-layout.ensures ∙ ap layout_of c.in-Ok.ensures.1) h)
