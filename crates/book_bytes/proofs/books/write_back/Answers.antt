-- `write_back`: nothing is written where a reason refuses it, else the book.
-- Assumes nothing.
use Rattle.octets.proofs.Words.{refl, ◌∙◌, length-map}
use Rattle.book_members.specs.Members.{row_of, rows_of}
use Rattle.book.specs.Books.{contents}
use Rattle.book_bytes.proofs.BookByteLaws.{length-book}
use Rattle.book_bytes.proofs.books.write_back.Goals as goal

pub returns : goal.returns
unfolding rows_of
returns c =
    let new = c.in_ok-next.field-0 in
    let put = c.put_book.ensures in
    rw c.in_ok-next.was (refl, put.0, λ b z. length-book (contents new) (length-map new.rows row_of ∙ put.1))
