-- A book as 308 bytes: the plan 10, the last accepted time 4, then 21 rows: unit 2, slots 8 (bit i is data slot i), time 4.
-- Assumes nothing.
use Rattle.std.specs.Prelude.{ℕ, ◌+◌, ◌*◌, List, [], ◌∷◌, ◌++◌, Result, Ok, Err, get_or}
use Rattle.std.proofs.lemmas.List.Edits.{sets}
use Rattle.octets.specs.Layouts.{total, fields, in_turn}
use Rattle.octets.specs.Lists.{tab}
use Rattle.octets.specs.Numbers.{num, digits}
use Rattle.octets.specs.declared.refusals.Refusal.{Refusal}
use Rattle.slot_sets.specs.Sets.{slots_of, mask_of}
use Rattle.book_members.specs.Members.{Row, member_with}
use Rattle.book.specs.declared.book.Book.{Book}
use Rattle.book.specs.Books.{Contents, contents}
use Rattle.site_plan.specs.PlanBytes.{plan_size, plan_at, bytes_of_plan}

-- ---- a row
abbrev pub row_widths : List ℕ
row_widths = 2 ∷ 8 ∷ 4 ∷ []

abbrev pub row_values : Row → List ℕ
row_values r = r.unit ∷ mask_of r.slots ∷ r.time ∷ []

abbrev pub row_from : List ℕ → Row
row_from vs = member_with (get_or vs 0 0) (slots_of (get_or vs 1 0)) (get_or vs 2 0)

-- where the rows start: 14
abbrev pub rows_at : ℕ
rows_at = plan_size + 4

-- the row at a place, counted from 0, of a book's bytes
unfoldable pub row_at : List ℕ → ℕ → Row
row_at s i = row_from (fields row_widths s (rows_at + total row_widths * i))

-- the bytes of rows, one behind the other
abbrev pub rows_bytes : List Row → List ℕ
rows_bytes rs = in_turn row_widths row_values rs

-- ---- a book
-- how many bytes a book has: 308
abbrev pub book_size : ℕ
book_size = rows_at + total row_widths * 21

-- the book that bytes say; a byte past the end is 0
unfoldable pub book_in : List ℕ → Contents
book_in s = record { plan = plan_at s 0; time = num 4 s plan_size; places = tab 21 (row_at s) }

unfoldable pub bytes_of_book : Contents → List ℕ
bytes_of_book b = bytes_of_plan b.plan ++ digits 4 b.time ++ rows_bytes b.places

-- what a buffer then holds that held a book and is to hold the new one, where there is one
abbrev pub book_over : List ℕ → Result Book Refusal → List ℕ
book_over held (Ok b) = sets held 0 (bytes_of_book (contents b))
book_over held (Err r) = held
