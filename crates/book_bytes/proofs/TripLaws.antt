-- The round trips of a book and its bytes.
-- Assumes nothing.
use Rattle.octets.proofs.Words.{◌≡◌, refl, ap, ◌∙◌, List, ◌++◌, append_assoc, ℕ, ◌+◌, ◌*◌, ◌≤◌, arith, length, take, drop, take_all, take-add}
use Rattle.octets.specs.Layouts.{fields, bytes, Bytes}
use Rattle.octets.specs.Lists.{tab, Each}
use Rattle.octets.specs.Numbers.{num, digits}
use Rattle.octets.proofs.LayoutLaws.{bytes-fields}
use Rattle.octets.proofs.NumberLaws.{num_lt, num-digits, digits-num}
use Rattle.slot_sets.specs.Sets.{Slots}
use Rattle.slot_sets.proofs.MaskLaws.{mask_back, set_back}
use Rattle.site_plan.proofs.PlanByteLaws.{length-plan, plan-read}
use Rattle.book_members.specs.Members.{Row, member_with}
use Rattle.book.specs.Books.{Contents}
use Rattle.site_plan.specs.PlanBytes.{plan_widths, plan_at, bytes_of_plan}
use Rattle.book_bytes.specs.BookBytes.{row_widths, row_values, row_from, row_at, rows_bytes, book_in, bytes_of_book}
use Rattle.book_bytes.specs.Trips.{RowFits, Sized, ReadsBack, WritesBack}
use Rattle.octets.proofs.RunLaws.{run-read, run-kept}
use Rattle.octets.proofs.ListLaws.{map_same}
use Rattle.book_bytes.proofs.BookByteLaws.{rows_run, length_front, length-book}

-- ---- what was written, read
row_back_lem : (r : Row) → row_from (row_values r) ≡ r
row_back_lem r = ap (λ (s : Slots 64). member_with r.unit s r.time) (set_back r.slots)

module _ (b : Contents) (z : Sized b) where
  time-read : num 4 (bytes_of_book b) 10 ≡ b.time
  unfolding bytes_of_book
  time-read =
      rw (append_assoc (bytes_of_plan b.plan) (digits 4 b.time) (rows_bytes b.places))
      (num-digits 4 b.time (bytes_of_plan b.plan) (rows_bytes b.places) 10 (length-plan b.plan) z.time)

  rows-read : tab 21 (row_at (bytes_of_book b)) ≡ b.places
  unfolding bytes_of_book row_at
  rows-read =
      let front = bytes_of_plan b.plan ++ digits 4 b.time in
      let read = run-read rows_run (Each RowFits) (λ r rs h. h) row_from (row_at (bytes_of_book b)) b.places front 14 (length_front b) z.rows (λ i. refl) in
      (rw z.places at read) ∙ map_same (λ r. row_from (row_values r)) row_back_lem b.places

  book-read : book_in (bytes_of_book b) ≡ b
  unfolding book_in bytes_of_book
  book-read = rw (time-read, rows-read, append_assoc (bytes_of_plan b.plan) (digits 4 b.time) (rows_bytes b.places), plan-read b.plan (digits 4 b.time ++ rows_bytes b.places) z.plan)

pub reads_back : ReadsBack
reads_back b z = (book-read b z, length-book b z.places)

-- ---- what was read, written
module _ (s : List ℕ) (b : Bytes s) where
  row_kept : (at : ℕ) → at + 14 ≤ length s → bytes row_widths (row_values (row_from (fields row_widths s at))) ≡ take 14 (drop at s)
  row_kept at l = rw (mask_back (num 8 s (at + 2)) (num_lt s b 8 (at + 2))) (bytes-fields s b row_widths at l)

  rows-kept : length s ≡ 308 → rows_bytes (tab 21 (row_at s)) ≡ take 294 (drop 14 s)
  unfolding row_at
  rows-kept l = run-kept rows_run s 21 14 (row_at s) (λ i h. row_kept (14 + 14 * i) (omega arith))

pub writes_back : WritesBack
unfolding book_in bytes_of_book plan_at bytes_of_plan
writes_back s b l =
    let long : length s ≡ 308 = l in
    rw (
      bytes-fields s b plan_widths 0 (omega arith),
      digits-num s b 4 10 (omega arith),
      rows-kept s b long,
      ← take-add 10 4 s,
      ← take-add 14 294 s,
    )
    (take_all 308 s (omega arith))
