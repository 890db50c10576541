-- What the calls on a stored book return and leave.
-- Assumes nothing.
use Rattle.std.specs.Prelude.{ℕ, List}
use Rattle.octets.specs.Calls.{after, stored, WriteLeft, write_left}
use Rattle.octets.specs.Told.{Wrote, written_in}
use Rattle.book.specs.Books.{BookChange, fresh_of, heard_of, leave_of}
use Rattle.book.specs.Schedules.{schedule_of}
use Rattle.book_image.specs.Images.{image_written, restore_of}
use Rattle.site_plan.specs.PlanBytes.{plan_size, plan_at}
use Rattle.book_bytes.specs.BookBytes.{book_size, book_in, bytes_of_book}

-- ---- a changing call: the status, and the bytes of the plan or the book
pub record BookLeft : Type 0 where
  pub status : ℕ
  pub book : List ℕ

abbrev pub book_left : ℕ → List ℕ → BookLeft
book_left status book = record { status = status; book = book }

-- a call over a buffer that answers so: 14 where the buffer has not a book's size, else the answer's number, and the new book where that is 0
abbrev pub leaves : List ℕ → BookChange → BookLeft
leaves s new =
    let status = stored book_size s new.refused in
    book_left status (after status s (bytes_of_book new.book))

-- a fresh book of a stored plan; a plan of another length is 14 too
unfoldable pub fresh_call : List ℕ → List ℕ → ℕ → BookLeft
fresh_call s plan time =
    let fresh = fresh_of (plan_at plan 0) time in
    leaves s (record { refused = stored plan_size plan fresh.refused; book = fresh.book })

unfoldable pub heard_call : List ℕ → ℕ → ℕ → BookLeft
heard_call s unit time = leaves s (heard_of (book_in s) unit time)

unfoldable pub leave_call : List ℕ → ℕ → ℕ → BookLeft
leave_call s unit time = leaves s (leave_of (book_in s) unit time)

-- a restore: only the number of the book's bytes matters, not what they were
unfoldable pub restore_call : List ℕ → List ℕ → ℕ → BookLeft
restore_call s image time = leaves s (restore_of image time)

-- ---- a schedule or an image: the status, the buffer, and the number of bytes written
abbrev pub wrote_to : List ℕ → List ℕ → ℕ → Wrote → WriteLeft
wrote_to s out written wrote =
    let status = stored book_size s wrote.said.refusal in
    write_left status (after status out wrote.held) (after status written (written_in wrote))

unfoldable pub schedule_call : List ℕ → ℕ → ℕ → ℕ → List ℕ → ℕ → WriteLeft
schedule_call s unit hop time out written = wrote_to s out written (schedule_of (book_in s) unit hop time out)

unfoldable pub image_call : List ℕ → ℕ → List ℕ → ℕ → WriteLeft
image_call s time out written = wrote_to s out written (image_written (book_in s) time out)
