-- What holds of books and their bytes, there and back.
-- Assumes nothing.
use Rattle.std.specs.Prelude.{◌≡◌, List, ℕ, ◌^◌, ◌<◌, length}
use Rattle.octets.specs.Layouts.{Fit, Bytes}
use Rattle.octets.specs.Lists.{Each}
use Rattle.site_plan.specs.Plans.{plan_values}
use Rattle.book_members.specs.Members.{Row}
use Rattle.book.specs.Books.{Contents}
use Rattle.site_plan.specs.PlanBytes.{plan_widths}
use Rattle.book_bytes.specs.BookBytes.{row_widths, row_values, book_size, book_in, bytes_of_book}

-- the numbers of a row fit their bytes
abbrev pub RowFits : Row → Type 0
RowFits r = Fit row_widths (row_values r)

-- a book as the code can have it: 21 places, and every number fits its bytes
pub record Sized (b : Contents) : Type 0 where
  pub places : length b.places ≡ 21
  pub plan : Fit plan_widths (plan_values b.plan)
  pub time : b.time < 256 ^ 4
  pub rows : Each RowFits b.places

-- reading what was written gives the book, and as many bytes as a book has
abbrev pub ReadsBack : Type 0
ReadsBack = (b : Contents) → Sized b → (book_in (bytes_of_book b) ≡ b) × (length (bytes_of_book b) ≡ book_size)

-- writing what was read gives the same bytes
abbrev pub WritesBack : Type 0
WritesBack = (s : List ℕ) → Bytes s → length s ≡ book_size → bytes_of_book (book_in s) ≡ s
