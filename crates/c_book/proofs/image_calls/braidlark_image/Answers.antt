-- `braidlark_image`: the image that was written, or why none was.
-- Assumes nothing.
use Rattle.octets.proofs.Words.{◌≡◌, ap, ◌∙◌}
use Rattle.octets.specs.Told.{wrote}
use Rattle.book_image.specs.Images.{image_written}
use Rattle.book_bytes.specs.BookBytes.{book_in}
use Rattle.c_book.specs.BookCalls.{image_call}
use Rattle.c_book.proofs.BookCallLaws.{image_answered, few-bytes, told}
use Rattle.c_book.proofs.image_calls.braidlark_image.Goals as goal
use Rattle.c_book.proofs.image_calls.braidlark_image.Goals.{After-write_image}

-- the answer is the definition's
defined : (d : After-write_image) → wrote d.write_image.result d.write_image.new.out ≡ image_written (book_in d.args.book.now) d.args.time d.args.out.now
defined d =
    let a = d.args in
    d.write_image.ensures ∙ ap (λ b. image_written b a.time a.out.now) d.book_of.ensures

pub tell-requires : goal.tell-requires
tell-requires c =
    let d = (goal.at.tell-requires c).After-write_image in
    let a = d.args in
    few-bytes (book_in a.book.now) a.time a.out.now d.write_image.new.out d.write_image.result (defined d)

pub returns : goal.returns
unfolding image_call
returns c =
    let d = (goal.at.returns c).After-write_image in
    let a = d.args in
    told a.book.now a.out.now _ _ (image_answered (book_in a.book.now) a.time a.out.now) d.if-book-ne-BOOK_SIZE.false d.write_image.result d.write_image.new.out (defined d) _ _
    (c.status.ensures ∙ c.tell.ensures.0) c.tell.ensures.1
