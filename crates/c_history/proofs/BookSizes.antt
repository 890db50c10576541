-- The book of every start and after every call has 21 places and numbers that fit their bytes: what `book_bytes` and `book_history` say of books and of calls, of
-- images and starts.
-- Assumes nothing.
use Rattle.octets.proofs.Words.{Bool, true, false, cond, List, ℕ, ◌+◌, ◌*◌, ◌<◌, arith, eqb, ltb}
use Rattle.octets.specs.Layouts.{total, Fit, Bytes}
use Rattle.octets.proofs.EachLaws.{each-tab}
use Rattle.octets.proofs.ListLaws.{length-tab}
use Rattle.octets.proofs.NumberLaws.{num_lt}
use Rattle.octets.proofs.TestLaws.{of_choice}
use Rattle.book_members.specs.Members.{empty_row}
use Rattle.book.specs.Books.{Contents, no_book}
use Rattle.book_history.specs.Calls.{Call, join, ask, heard, leave, schedule, image, next, time_of}
use Rattle.book_history.proofs.SizeLaws.{keeps_size}
use Rattle.site_plan.specs.PlanBytes.{section_at, plan_at}
use Rattle.book_bytes.specs.BookBytes.{row_widths, row_values}
use Rattle.book_bytes.specs.Trips.{RowFits, Sized}
use Rattle.site_plan.proofs.PlanByteLaws.{plan-fits, section-fits}
use Rattle.book_bytes.proofs.SizeLaws.{row_fits, empty_fits, either-sized, none-sized, fresh-sized}
use Rattle.book_image.specs.Images as images
use Rattle.book_image.specs.Images.{plan_place, rows_place, row_in, restore_of}
use Rattle.book_history.specs.Histories.{begun}
use Rattle.c_history.specs.HeldBooks.{StartInC, fresh, restored, MachineStart, start_of, Machine}
use Rattle.c_history.specs.BookLaws.{SizedKept}

-- ---- the start
row-restored : (s : List ℕ) (time i : ℕ) → Bytes s → time < 0x100000000 → Fit row_widths (row_values (row_in s time i))
unfolding row_in
row-restored s time i b t = row_fits _ (row_in s time i).slots _ (num_lt s b 2 (rows_place + total images.row_widths * i)) (of_choice (λ n. n < 0x100000000) (eqb (row_in s time i).unit 0) (omega arith) t)

restored-sized : (s : List ℕ) (time : ℕ) → Bytes s → time < 0x100000000 → Sized (restore_of s time).book
unfolding restore_of images.image_book
restored-sized s time b t =
    either-sized (restore_of s time).refused no_book (images.image_book s time) none-sized (
    record {
      places = length-tab 21 _;
      plan = section-fits s plan_place b;
      time = t;
      rows = each-tab RowFits 21 _ (λ i. go i (ltb i (section_at s plan_place).rows));
    }
    )
  where
    go : (i : ℕ) (x : Bool) → Fit row_widths (row_values (cond x (row_in s time i) empty_row))
    go i true = row-restored s time i b t
    go i false = empty_fits

pub begun_sized : (start : StartInC) → MachineStart start → Sized (begun (start_of start)).book
begun_sized (fresh plan time) (b, t) = fresh-sized (plan_at plan 0) time (plan-fits plan 0 b) t
begun_sized (restored bytes time) (b, t) = restored-sized bytes time b t

-- ---- any call
machine_time : (c : Call) → Machine c → time_of c < 0x100000000
machine_time (join frame time out) (f, t, o) = t
machine_time (ask frame time out) (f, t, o) = t
machine_time (heard unit time) (u, t) = t
machine_time (leave unit time) (u, t) = t
machine_time (schedule unit hop time out) (u, h, t, o) = t
machine_time (image time out) (t, o) = t

pub sized-next : (b : Contents) (c : Call) → Machine c → Sized b → Sized (next b c)
sized-next b c m = keeps_size b c (machine_time c m)

pub sized-kept : SizedKept
sized-kept = (begun_sized, sized-next)
