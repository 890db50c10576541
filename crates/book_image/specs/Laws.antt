-- What holds of images, as statements.
-- Assumes nothing.
use Rattle.std.specs.Prelude.{◌≡◌, true, List, [], ◌∷◌, map, ◌⊎◌, ℕ, ◌+◌, ◌*◌, ◌<◌, ◌≤◌, length}
use Rattle.octets.specs.Layouts.{Fit, Bytes, fields}
use Rattle.octets.specs.Lists.{tab}
use Rattle.moments.specs.Moments.{in_order}
use Rattle.slot_sets.specs.Sets.{Apart, count}
use Rattle.site_plan.specs.Plans.{plan_rule, plan_values, long_beacons}
use Rattle.book_members.specs.Members.{empty_row, restored_at, free, vacant}
use Rattle.book_members.specs.Rules.{Used}
use Rattle.book.specs.Books.{Contents, within_rule, rows_at, rows_in}
use Rattle.site_plan.specs.PlanBytes.{plan_widths}
use Rattle.book_image.specs.Images.{plan_in, row_in, image_book, image_of, accepted_image}

-- an image that is accepted and written again at once gives the same bytes
abbrev pub WrittenAgain : Type 0
WrittenAgain = (s : List ℕ) (time : ℕ) → Bytes s → accepted_image s time ≡ true → image_of (image_book s time) time ≡ s

-- a book as the code can have it: 21 places, and the plan's numbers fit their bytes
pub record Sized (b : Contents) : Type 0 where
  pub places : length b.places ≡ 21
  pub plan : Fit plan_widths (plan_values b.plan)

-- a book whose plan form 1 can say, written and restored at one time, is accepted: it is the book with its silent members dropped and every time the
-- restore's
pub record RestoredAs (b : Contents) (time : ℕ) : Type 0 where
  pub accepted : accepted_image (image_of b time) time ≡ true
  pub plan : (image_book (image_of b time) time).plan ≡ b.plan
  pub began : (image_book (image_of b time) time).time ≡ time
  pub rows : rows_in (image_book (image_of b time) time) ≡ map (restored_at time) (rows_at b time)

abbrev pub Restored : Type 0
Restored =
    (b : Contents) (time : ℕ) → Sized b → within_rule b ≡ true → in_order b.time time ≡ true → b.plan.beacon_type ≡ long_beacons → RestoredAs b time

-- document 01's list of what an accepted image keeps
pub record Acceptable (s : List ℕ) : Type 0 where
  -- 02; (01, offset 11, length 9); (02, offset 20, length 10M)
  pub contents : fields (1 ∷ 1 ∷ 2 ∷ 2 ∷ 1 ∷ 2 ∷ 2 ∷ []) s 0 ≡ 2 ∷ 1 ∷ 11 ∷ 9 ∷ 2 ∷ 20 ∷ 10 * (plan_in s).rows ∷ []
  pub size : length s ≡ 20 + 10 * (plan_in s).rows
  pub plan : plan_rule (plan_in s) ≡ true
  pub manager : (row_in s 0 0).unit ≡ (plan_in s).manager
  pub rows : (i : ℕ) → i < (plan_in s).rows → (row_in s 0 i ≡ empty_row) ⊎ Used (plan_in s).data_slots (row_in s 0 i)
  pub distinct : (i j : ℕ) → i < (plan_in s).rows → j < (plan_in s).rows → ((row_in s 0 i).unit ≡ 0 → ⊥) → (row_in s 0 i).unit ≡ (row_in s 0 j).unit → i ≡ j
  pub disjoint : (i j : ℕ) → i < (plan_in s).rows → j < (plan_in s).rows → (i ≡ j → ⊥) → Apart (row_in s 0 i).slots (row_in s 0 j).slots
  -- free slots are at least free rows
  pub room : vacant (tab (plan_in s).rows (row_in s 0)) ≤ count (free (plan_in s).data_slots (tab (plan_in s).rows (row_in s 0)))

-- an image is accepted, at any time, exactly if all of that holds
abbrev pub AcceptedExactly : Type 0
AcceptedExactly = (s : List ℕ) (time : ℕ) → (accepted_image s time ≡ true → Acceptable s) × (Acceptable s → accepted_image s time ≡ true)
