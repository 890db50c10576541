-- Books whose numbers fit their bytes: those that are read from bytes, and those in which a row is written. A set of 64 slots always fits its 8 bytes.
-- Assumes nothing.
use Rattle.octets.proofs.Words.{refl, ◌∙◌, List, [], ◌∷◌, ℕ, ◌+◌, ◌*◌, ◌<◌, arith, eqb, length-set}
use Rattle.octets.specs.Calls.{after}
use Rattle.octets.specs.Layouts.{total, Fit, Bytes}
use Rattle.octets.specs.Lists.{Each}
use Rattle.octets.proofs.LayoutLaws.{fields_fit}
use Rattle.octets.proofs.ListLaws.{length-tab}
use Rattle.octets.proofs.NumberLaws.{num_lt}
use Rattle.octets.proofs.EachLaws.{each-replicate, each-tab, each_set, each_map}
use Rattle.octets.proofs.TestLaws.{of_choice}
use Rattle.slot_sets.specs.Sets.{Slots, no_slots, firsts}
use Rattle.slot_sets.proofs.BitLaws.{set_of_mask}
use Rattle.site_plan.specs.declared.plan.Plan.{Plan}
use Rattle.site_plan.specs.Plans.{plan_values}
use Rattle.site_plan.proofs.PlanByteLaws.{plan-fits}
use Rattle.book_members.specs.Members.{Row, empty_row, kept, current, member_with}
use Rattle.book_members.proofs.RowLaws.{kept_either, length-current}
use Rattle.book.specs.Books.{Contents, with_row, no_book, fresh_book, fresh_of}
use Rattle.site_plan.specs.PlanBytes.{plan_widths, plan_size}
use Rattle.book_bytes.specs.BookBytes.{row_widths, rows_at, row_at, book_in}
use Rattle.book_bytes.specs.Trips.{RowFits, Sized}

-- ---- rows
pub row_fits : (unit : ℕ) (own : Slots 64) (time : ℕ) → unit < 0x10000 → time < 0x100000000 → RowFits (member_with unit own time)
row_fits unit own time u t = (u, ((set_of_mask 64 own).1, (t, tt)))

pub empty_fits : RowFits empty_row
empty_fits = row_fits 0 no_slots 0 (omega arith) (omega arith)

current-fits : (time : ℕ) (rs : List Row) → Each RowFits rs → Each RowFits (current time rs)
unfolding current
current-fits time [] f = tt
current-fits time (r ∷ rs) f = (f.0, each_map RowFits (kept time) (λ s h. kept_either RowFits time s (λ e. h) empty_fits) rs f.1)

-- ---- what is read from bytes
row_read : (s : List ℕ) (i : ℕ) → Bytes s → RowFits (row_at s i)
unfolding row_at
row_read s i b =
    let row = fields_fit s b row_widths (rows_at + total row_widths * i) in
    row_fits (row_at s i).unit (row_at s i).slots (row_at s i).time row.0 row.1.1.0

pub book-sized : (s : List ℕ) → Bytes s → Sized (book_in s)
unfolding book_in
book-sized s b =
    record {
      places = length-tab 21 (row_at s);
      plan = plan-fits s 0 b;
      time = num_lt s b 4 plan_size;
      rows = each-tab RowFits 21 (row_at s) (λ i. row_read s i b);
    }

-- ---- what a call gives
-- the book as it was, or another
pub either-sized : (n : ℕ) (b new : Contents) → Sized b → Sized new → Sized (after n b new)
either-sized n b new z y = of_choice Sized (eqb n 0) y z

-- one row written
pub sized-written : (b : Contents) (time at : ℕ) (r : Row) → Sized b → time < 0x100000000 → RowFits r → Sized (with_row b time at r)
sized-written b time at r z t h =
    record {
      places = length-set (current time b.places) at r ∙ (length-current time b.places ∙ z.places);
      plan = z.plan;
      time = t;
      rows = each_set RowFits (current time b.places) at r (current-fits time b.places z.rows) h;
    }

-- no book, and a fresh one
pub none-sized : Sized no_book
none-sized = record { places = refl; plan = omega arith; time = omega arith; rows = each-replicate RowFits 21 empty_row empty_fits }

pub fresh-sized : (p : Plan) (time : ℕ) → Fit plan_widths (plan_values p) → time < 0x100000000 → Sized (fresh_of p time).book
unfolding fresh_of
fresh-sized p time f t =
    either-sized (fresh_of p time).refused no_book (fresh_book p time) none-sized
    (record { places = refl; plan = f; time = t; rows = (row_fits p.manager (firsts 1) time f.1.0 t, each-replicate RowFits 20 empty_row empty_fits) })
