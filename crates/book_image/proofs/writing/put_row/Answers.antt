-- `put_row`: the unit, and the slots behind it.
-- Assumes nothing.
use Rattle.octets.proofs.Words.{refl, ◌^◌, ◌<◌, rules}
use Rattle.octets.proofs.StoreLaws.{all-put, put, done}
use Rattle.slot_sets.proofs.MaskLaws.{mask_back}
use Rattle.book_members.specs.Members.{row_of}
use Rattle.book_image.specs.Images.{row_widths, row_values}
use Rattle.book_image.proofs.writing.put_row.Goals as goal
use Rattle.book_image.proofs.writing.put_row.Goals.{Start}

below : (d : Start) → d.args.member.slots < 2 ^ 64
below d = search rules

pub returns : goal.returns
returns c =
    let start = (goal.at.returns c).Start in
    let a = start.args in
    all-put a.out.now 0 row_widths (row_values (row_of a.member)) _
    (put c.store.ensures refl
    (put (rw (← mask_back a.member.slots (below start)) at c.store-2.ensures) refl done))
