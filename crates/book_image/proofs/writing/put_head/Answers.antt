-- `put_head`: how many sections, and of each its number, its offset and its length.
-- Assumes nothing.
use Rattle.octets.proofs.Words.{refl}
use Rattle.octets.proofs.StoreLaws.{all-put, put, done}
use Rattle.book_image.specs.Forms.{head_widths, head_values}
use Rattle.book_image.specs.Images.{sections}
use Rattle.book_image.proofs.writing.put_head.Goals as goal

pub returns : goal.returns
returns c =
    let a = c.args in
    all-put a.out.now 0 (head_widths (sections a.rows)) (head_values (sections a.rows)) _
    (put c.store.ensures refl
    (put c.store-2.ensures refl
    (put c.store-3.ensures refl
    (put c.store-4.ensures refl
    (put c.store-5.ensures refl
    (put c.store-6.ensures refl
    (put (rw c.from.ensures at c.store-7.ensures) refl done)))))))
