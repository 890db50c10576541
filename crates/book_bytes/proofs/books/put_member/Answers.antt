-- `put_member`: the row's numbers, one behind the other from a place on.
-- Assumes nothing.
use Rattle.octets.proofs.Words.{refl, ◌^◌, ◌<◌, arith, rules}
use Rattle.octets.proofs.StoreLaws.{all-put, put, done}
use Rattle.slot_sets.proofs.MaskLaws.{mask_back}
use Rattle.book_members.specs.Members.{row_of}
use Rattle.book_bytes.specs.BookBytes.{row_widths, row_values}
use Rattle.book_bytes.proofs.books.put_member.Goals as goal
use Rattle.book_bytes.proofs.books.put_member.Goals.{Start}

below : (d : Start) → d.args.member.slots < 2 ^ 64
below d = search rules

pub returns : goal.returns
returns c =
    let start = (goal.at.returns c).Start in
    let a = start.args in
    all-put a.out.now a.at row_widths (row_values (row_of a.member)) _
    (put c.store.ensures refl
    (put (rw (← mask_back a.member.slots (below start)) at c.store-2.ensures) (omega arith)
    (put c.store-3.ensures refl done)))
