-- `member_at`: the numbers of a row in a part of the bytes are those in all of them.
-- Assumes nothing.
use Rattle.octets.proofs.Words.{ap, ◌∙◌, ◌+◌, ◌*◌, ◌-◌, arith}
use Rattle.octets.specs.Parts.{Lent}
use Rattle.octets.proofs.LayoutLaws.{fields-part}
use Rattle.book_bytes.specs.BookBytes.{row_widths, row_from, row_at}
use Rattle.book_bytes.proofs.books.member_at.Goals as goal

pub returns-in-Some : goal.returns-in-Some
unfolding row_at
returns-in-Some c =
    let a = c.args in
    let start = 14 + 14 * a.place in
    c.member_in.ensures ∙ rw c.in-Some.ensures.lookup.0.2 (ap row_from (fields-part row_widths a.s.now start (start + 14 - start) (omega arith)))

pub returns-in-None : goal.returns-in-None
unfolding row_at
returns-in-None c =
    let a = c.args in
    c.member_in-in-None.ensures ∙ rw (ap (λ (l : Lent). l.bytes) c.part.ensures) (ap row_from (fields-part row_widths a.s.now (14 + 14 * a.place) 14 (omega arith)))
