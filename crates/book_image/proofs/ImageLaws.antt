-- The bytes of an image: its rows one behind the other, how many bytes its parts have, and all of it stored.
-- Assumes nothing.
use Rattle.octets.proofs.Words.{◌≡◌, refl, Bool, true, false, ◌&&◌, List, ◌++◌, ℕ, eqb, length, length-append, sets}
use Rattle.octets.specs.Numbers.{num}
use Rattle.octets.proofs.LayoutLaws.{length-bytes}
use Rattle.octets.proofs.RunLaws.{Run}
use Rattle.octets.proofs.StoreLaws.{sets_append}
use Rattle.site_plan.specs.declared.plan.Plan.{Plan}
use Rattle.site_plan.specs.PlanBytes.{section_bytes}
use Rattle.site_plan.proofs.PlanByteLaws.{length-section}
use Rattle.book_members.specs.Members.{Row, row_of, rows_of}
use Rattle.book_image.specs.Forms.{head_widths, head_values, head_bytes}
use Rattle.book_image.specs.Images.{row_widths, row_values, sections, rows_bytes}

-- ---- rows
pub rows_run : Run row_widths row_values rows_bytes
rows_run = record { none = refl; more = λ r rs. refl; full = λ r. refl }

pub members_run : Run row_widths (λ m. row_values (row_of m)) (λ ms. rows_bytes (rows_of ms))
unfolding rows_of
members_run = record { none = refl; more = λ m ms. refl; full = λ m. refl }

-- ---- all of it
pub length-head : (rows : ℕ) → length (head_bytes (sections rows)) ≡ 11
length-head rows = length-bytes (head_widths (sections rows)) (head_values (sections rows)) refl

pub length_front : (p : Plan) → length (head_bytes (sections p.rows) ++ section_bytes p) ≡ 20
length_front p = rw (length-append (head_bytes (sections p.rows)) (section_bytes p), length-head p.rows, length-section p)

-- the head, the plan behind it, and the rows behind that
pub head_first : (l : List ℕ) (p : Plan) (rs : List Row)
    → sets (sets (sets l 0 (head_bytes (sections p.rows))) 11 (section_bytes p)) 20 (rows_bytes rs)
    ≡ sets l 0 ((head_bytes (sections p.rows) ++ section_bytes p) ++ rows_bytes rs)
head_first l p rs =
    let head = head_bytes (sections p.rows) in
    rw (sets_append (head ++ section_bytes p) (rows_bytes rs) l 0, length_front p, sets_append head (section_bytes p) l 0, length-head p.rows)

-- ---- the tests of a form
-- one behind the other, as the code makes them, and one inside the other
regroup : (a b c d e f g h : Bool) → (a && b && c && d && e && f && g && h) ≡ ((a && (b && (c && (d && (e && (f && (g && true))))))) && h)
regroup false b c d e f g h = refl
regroup true false c d e f g h = refl
regroup true true false d e f g h = refl
regroup true true true false e f g h = refl
regroup true true true true false f g h = refl
regroup true true true true true false g h = refl
regroup true true true true true true false h = refl
regroup true true true true true true true h = refl

module _ (s : List ℕ) (rows : ℕ) where
  abbrev is : ℕ → ℕ → ℕ → Bool
  is width at n = eqb (num width s at) n
