-- The bytes of a book: its rows one behind the other, how many they all are, and all of it stored.
-- Assumes nothing.
use Rattle.octets.proofs.Words.{◌≡◌, refl, sym, List, ◌++◌, ℕ, length, length-append, sets}
use Rattle.std.specs.Prelude.{Result, Ok, Err}
use Rattle.octets.specs.Calls.{after}
use Rattle.octets.specs.Numbers.{digits}
use Rattle.octets.specs.Refusals.{number_of, status_of}
use Rattle.octets.specs.declared.refusals.Refusal.{Refusal}
use Rattle.octets.proofs.CallLaws.{after-refused}
use Rattle.octets.proofs.RefusalLaws.{refusal_some}
use Rattle.octets.proofs.NumberLaws.{length_digits}
use Rattle.octets.proofs.StoreLaws.{sets_append}
use Rattle.site_plan.proofs.PlanByteLaws.{length-plan}
use Rattle.book_members.specs.Members.{row_of, rows_of}
use Rattle.book.specs.declared.book.Book.{Book}
use Rattle.book.specs.Books.{Contents, changed}
use Rattle.site_plan.specs.PlanBytes.{bytes_of_plan}
use Rattle.book_bytes.specs.BookBytes.{row_widths, row_values, rows_bytes, book_size, bytes_of_book, book_over}
use Rattle.octets.proofs.RunLaws.{Run, run_length}

-- ---- rows, as stated and as the code has them
pub rows_run : Run row_widths row_values rows_bytes
rows_run = record { none = refl; more = λ r rs. refl; full = λ r. refl }

pub members_run : Run row_widths (λ m. row_values (row_of m)) (λ ms. rows_bytes (rows_of ms))
unfolding rows_of
members_run = record { none = refl; more = λ m ms. refl; full = λ m. refl }

-- ---- all of it
pub length_front : (b : Contents) → length (bytes_of_plan b.plan ++ digits 4 b.time) ≡ 14
length_front b = rw (length-append (bytes_of_plan b.plan) (digits 4 b.time), length-plan b.plan, length_digits 4 b.time)

pub length-book : (b : Contents) → length b.places ≡ 21 → length (bytes_of_book b) ≡ book_size
unfolding bytes_of_book
length-book b e =
    let front = bytes_of_plan b.plan ++ digits 4 b.time in
    rw (length-append front (rows_bytes b.places), length_front b, run_length rows_run b.places, e)

-- the plan, the time behind it, and the rows behind that
pub plan-first : (l : List ℕ) (b : Contents)
    → sets (sets (sets l 0 (bytes_of_plan b.plan)) 10 (digits 4 b.time)) 14 (rows_bytes b.places) ≡ sets l 0 (bytes_of_book b)
unfolding bytes_of_book
plan-first l b =
    let plan = bytes_of_plan b.plan in
    let time = digits 4 b.time in
    let rows = rows_bytes b.places in
    rw (sets_append (plan ++ time) rows l 0, length_front b, sets_append plan time l 0, length-plan b.plan)

-- ---- a new book written over the old one, said by its number
pub over-after : (held : List ℕ) (b : Contents) (next : Result Book Refusal)
    → book_over held next ≡ after (status_of next) held (sets held 0 (bytes_of_book (changed b next).book))
over-after held b (Ok new) = refl
over-after held b (Err r) = sym (after-refused (number_of r) held (sets held 0 (bytes_of_book b)) (refusal_some r))
