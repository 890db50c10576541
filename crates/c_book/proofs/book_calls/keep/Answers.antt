-- `keep`: the new book, over as many bytes as it has.
-- Assumes nothing.
use Rattle.octets.proofs.Words.{◌≡◌, arith, length}
use Rattle.std.proofs.lemmas.Bool.Decides.{nat_tests}
use Rattle.book_bytes.specs.BookBytes.{book_size}
use Rattle.c_book.proofs.BookCallLaws.{kept}
use Rattle.c_book.proofs.book_calls.keep.Goals as goal

pub returns : goal.returns
returns c =
    let a = c.args in
    let w = c.write_back.ensures in
    let size : length a.book.now ≡ book_size = grind (arith, nat_tests) in
    λ b. kept b a.book.now _ _ a.next size w.0 w.1 w.2
