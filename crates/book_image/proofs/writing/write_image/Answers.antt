-- `write_image`: the head, the plan behind it, and the rows behind that.
-- Assumes nothing.
use Rattle.octets.proofs.Words.{ap, ◌∙◌, rules, take}
use Rattle.book_members.specs.Members.{rows_of}
use Rattle.book.specs.Books.{contents}
use Rattle.book.proofs.VisitLaws.{take-current}
use Rattle.book_image.specs.Images.{image_written}
use Rattle.book_image.proofs.WritingLaws.{image_put}
use Rattle.book_image.proofs.writing.write_image.Goals as goal

pub returns : goal.returns
unfolding image_written
returns c =
    let a = c.args in
    let count = a.book.plan.rows in
    let rows = c.used.ensures.0 ∙ (ap (take count) c.current-live.ensures ∙ take-current a.time count (rows_of a.book.rows)) in
    let whole = image_put (contents a.book) a.time a.out.now _ _ rows (c.put_rows.ensures ∙ rw (c.put_section.ensures, c.put_head.ensures)) in
    rw (whole, c.size_for-size.ensures) (search rules)
