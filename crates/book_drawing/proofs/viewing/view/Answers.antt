-- `view`: the text of the book that an image restores, or that it is refused.
-- Assumes nothing.
use Rattle.std.proofs.Common.{Ok, Err}
use Rattle.octets.proofs.Words.{refl, arith}
use Rattle.octets.proofs.RefusalLaws.{refusal_some}
use Rattle.book.specs.Books.{contents, changed, no_book}
use Rattle.book_drawing.specs.Views.{book_text, refused_text}
use Rattle.book_drawing.proofs.ViewLaws.{view-refused, view-accepted, viewed}
use Rattle.book_drawing.proofs.viewing.view.Goals as goal

pub returns-in-Ok : goal.returns-in-Ok
returns-in-Ok c =
    let a = c.args in
    rw (view-accepted a.image.now (changed no_book (Ok c.in-Ok.book)) c.in-Ok.ensures refl)
    (viewed a.out.now (book_text (contents c.in-Ok.book)) _ _ c.put_book.ensures.0 (rw c.put_book.ensures.1 at c.min.ensures))

pub returns-in-Err : goal.returns-in-Err
returns-in-Err c =
    let a = c.args in
    rw (view-refused a.image.now (changed no_book (Err c.in-Err.field-0)) c.in-Err.ensures (refusal_some c.in-Err.field-0))
    (viewed a.out.now refused_text _ _ c.put_bytes.ensures (omega (arith, c.min-in-Err.ensures)))
