-- `put_book`: the head line, and a line per member behind it.
-- Assumes nothing.
use Rattle.octets.proofs.Words.{refl, rules}
use Rattle.book.specs.Books.{contents}
use Rattle.book_drawing.proofs.LineLaws.{book-told}
use Rattle.book_drawing.proofs.drawing.put_book.Goals as goal

pub returns : goal.returns
returns c =
    let b = contents c.args.book in
    let told = book-told b _ _ _ refl c.put_head_line.ensures.0 (rw c.used.ensures.0 at c.put_rows.ensures) in
    search rules
