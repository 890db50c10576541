-- An image in a buffer, written whole.
-- Assumes nothing.
use Rattle.octets.proofs.Words.{◌≡◌, List, ℕ, sets}
use Rattle.book_members.specs.Members.{Row}
use Rattle.book.specs.Books.{Contents, rows_at}
use Rattle.site_plan.specs.PlanBytes.{section_bytes}
use Rattle.book_image.specs.Forms.{head_bytes}
use Rattle.book_image.specs.Images.{sections, rows_bytes, image_of}
use Rattle.book_image.proofs.ImageLaws.{head_first}

pub image_put : (b : Contents) (time : ℕ) (out held : List ℕ) (rows : List Row) → rows ≡ rows_at b time
    → held ≡ sets (sets (sets out 0 (head_bytes (sections b.plan.rows))) 11 (section_bytes b.plan)) 20 (rows_bytes rows) → held ≡ sets out 0 (image_of b time)
unfolding image_of
image_put b time out held rows r h = rw (h, r, head_first out b.plan (rows_at b time))
