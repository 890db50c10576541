-- `braidlark_write`: what the writer answers.
-- Assumes nothing.
use Rattle.octets.proofs.Words.{sym, ap, ◌∙◌, ℕ, arith}
use Rattle.std.specs.Prelude.{Result}
use Rattle.octets.specs.Told.{wrote}
use Rattle.octets.specs.declared.refusals.Refusal.{Refusal}
use Rattle.c_frames.proofs.FrameCallLaws.{written_short, done, undone}
use Rattle.c_frames.proofs.frame_calls.braidlark_write.Goals as goal

pub overflow_cast-written : goal.overflow_cast-written
overflow_cast-written c =
    let a = c.args in
    let e = ap (λ (r : Result ℕ Refusal). wrote r c.write.new.out) (sym c.in-Ok.is) ∙ c.write.ensures in
    omega (arith, written_short a.fields.now a.part.now a.out.now c.write.new.out 0 c.in-Ok.size e)

pub returns-in-Ok : goal.returns-in-Ok
returns-in-Ok c =
    let a = c.args in
    done a.fields.now a.part.now a.out.now c.write.new.out _ c.in-Ok.size
    (ap (λ (r : Result ℕ Refusal). wrote r c.write.new.out) (sym c.in-Ok.is) ∙ c.write.ensures)

pub returns-in-Err : goal.returns-in-Err
returns-in-Err c =
    let a = c.args in
    rw c.number.ensures
    (undone a.fields.now a.part.now a.out.now c.write.new.out _ c.in-Err.refusal
    (ap (λ (r : Result ℕ Refusal). wrote r c.write.new.out) (sym c.in-Err.is) ∙ c.write.ensures))
