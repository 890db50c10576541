-- `Draft::emit`: nothing is written where a reason holds, else the whole frame.
-- Assumes nothing.
use Rattle.octets.proofs.Words.{◌≡◌, refl, sym, ap, ◌∙◌, List, ℕ, ◌+◌, arith, rules, length, sets}
use Rattle.std.specs.Prelude.{Err}
use Rattle.frame_kinds.proofs.WritingLaws.{put}
use Rattle.frame_kinds.proofs.StoredLaws.{frame-length, unwritten, stored, sealed-stored}
use Rattle.frame_writing.proofs.emitting.Draft.emit.Goals as goal

pub returns-in_err-why_unwritten : goal.returns-in_err-why_unwritten
returns-in_err-why_unwritten c =
    let a = c.args in
    let d = a.self in
    let l = frame-length d.widths.now d.values.now d.part.now a.out.now d.head d.laid.0 d.laid.1 in
    let e : c.from_residual.result ≡ Err c.in_err-why_unwritten.field-0.0 = search rules in
    rw e (unwritten a.due a.good _ a.out.now _ (rw l c.in_err-why_unwritten.ensures))

pub returns : goal.returns
returns c =
    let a = c.args in
    let d = a.self in
    let l = frame-length d.widths.now d.values.now d.part.now a.out.now d.head d.laid.0 d.laid.1 in
    let held = c.put_bytes.ensures ∙ ap (λ (o : List ℕ). sets o d.head d.part.now) c.put_layout.ensures in
    let z = c.in_ok-why_unwritten.ensures in
    let fits = (put a.due (d.head + length d.part.now + 1) a.good (length a.out.now) (sym z)).fits in
    stored a.due a.good _ a.out.now _ _ (rw l z) (sym l)
    (c.seal.ensures ∙ rw held (sealed-stored d.widths.now d.values.now d.part.now a.out.now d.head d.laid.0 d.laid.1 _ (omega (arith, fits)) refl))
