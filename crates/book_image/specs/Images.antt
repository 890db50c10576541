-- Document 01's stored image, form 1: section 1 is the plan, section 2 its rows, 10 bytes each; what is written of a book, and what bytes restore.
-- Assumes nothing.
use Rattle.std.specs.Prelude.{ℕ, ◌+◌, ◌*◌, Bool, not, ◌&&◌, cond, List, [], ◌∷◌, ◌++◌, eqb, ltb, length, get_or}
use Rattle.std.proofs.lemmas.List.Edits.{sets}
use Rattle.octets.specs.Answers.{Reason, accepted, reason, first, unless}
use Rattle.octets.specs.Calls.{after}
use Rattle.octets.specs.Layouts.{total, fields, in_turn}
use Rattle.octets.specs.Lists.{tab}
use Rattle.octets.specs.Told.{Wrote}
use Rattle.moments.specs.Moments.{in_order}
use Rattle.slot_sets.specs.Sets.{slots_of, mask_of}
use Rattle.site_plan.specs.declared.plan.Plan.{Plan}
use Rattle.site_plan.specs.Plans.{long_beacons}
use Rattle.book_members.specs.Members.{Row, member_with, empty_row, restored_at}
use Rattle.book.specs.Books.{Contents, within_rule, rows_at, BookChange, change_to, no_book}
use Rattle.site_plan.specs.PlanBytes.{section_size, section_at, section_bytes}
use Rattle.book_image.specs.Forms.{Section, section, head_bytes, form_size, place_at, fits}

-- ---- the form
-- a row: unit 2, slots 8 (bit i is data slot i)
abbrev pub row_widths : List ℕ
row_widths = 2 ∷ 8 ∷ []

-- the sections for a plan with so many rows
abbrev pub sections : ℕ → List Section
sections rows = section 1 section_size ∷ section 2 (total row_widths * rows) ∷ []

-- where their bodies start, however many rows there are: 11 and 20
abbrev pub plan_place : ℕ
plan_place = place_at (sections 0) 0

abbrev pub rows_place : ℕ
rows_place = place_at (sections 0) 1

-- and where the row at a place among them starts, counted from 0
abbrev pub row_place : ℕ → ℕ
row_place i = rows_place + total row_widths * i

-- ---- writing
abbrev pub row_values : Row → List ℕ
row_values r = r.unit ∷ mask_of r.slots ∷ []

abbrev pub rows_bytes : List Row → List ℕ
rows_bytes rs = in_turn row_widths row_values rs

-- the image of a book at a time: only live members are written, an empty row is zeros
unfoldable pub image_of : Contents → ℕ → List ℕ
image_of b time = head_bytes (sections b.plan.rows) ++ section_bytes b.plan ++ rows_bytes (rows_at b time)

-- 14 8, 14 for a plan with short beacons, which form 1 cannot say, 5, in a buffer with this room
abbrev pub image_reasons : Contents → ℕ → ℕ → List Reason
image_reasons b time room =
    reason (not (within_rule b)) 14 ∷
    reason (not (in_order b.time time)) 8 ∷
    reason (not (eqb b.plan.beacon_type long_beacons)) 14 ∷
    reason (ltb room (form_size (sections b.plan.rows))) 5 ∷
    []

unfoldable pub image_written : Contents → ℕ → List ℕ → Wrote
image_written b time out =
    let refusal = first (image_reasons b time (length out)) in
    record { said = unless refusal (accepted (form_size (sections b.plan.rows) ∷ [])); held = after refusal out (sets out 0 (image_of b time)) }

-- ---- restoring
-- the plan in an image: its manager sends document 01's beacons
abbrev pub plan_in : List ℕ → Plan
plan_in s = section_at s plan_place

-- a row of an image, restored at a time
unfoldable pub row_in : List ℕ → ℕ → ℕ → Row
row_in s time i =
    let vs = fields row_widths s (row_place i) in
    restored_at time (member_with (get_or vs 0 0) (slots_of (get_or vs 1 0)) 0)

-- the book that an image says, restored at a time: as many rows as its plan has, then zeros
unfoldable pub image_book : List ℕ → ℕ → Contents
image_book s time =
    record {
      plan = plan_in s;
      time = time;
      places = tab 21 (λ i. cond (ltb i (plan_in s).rows) (row_in s time i) empty_row);
    }

-- an image is accepted exactly if contents and length fit and the book that it says is within rule
unfoldable pub accepted_image : List ℕ → ℕ → Bool
accepted_image s time = fits (sections (plan_in s).rows) s && within_rule (image_book s time)

-- else it is 14, and all is zeros
unfoldable pub restore_of : List ℕ → ℕ → BookChange
restore_of s time = change_to (first (reason (not (accepted_image s time)) 14 ∷ [])) no_book (image_book s time)
