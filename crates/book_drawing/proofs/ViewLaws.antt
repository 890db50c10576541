-- The text of an image, from what restoring it answers.
-- Assumes nothing.
use Rattle.octets.proofs.Words.{◌≡◌, refl, sym, ap, ◌∙◌, Bool, true, false, not, cond, List, [], ◌∷◌, ◌++◌, ℕ, suc, ◌+◌, ◌*◌, ◌≤◌, min, arith, length, take, length-append, length-take, sets, length-sets}
use Rattle.octets.proofs.ListLaws.{length-tab}
use Rattle.octets.proofs.TestLaws.{of_choice}
use Rattle.site_plan.specs.declared.plan.Plan.{Plan}
use Rattle.site_plan.specs.Plans.{active, slots}
use Rattle.site_plan.proofs.PlanLaws.{few-slots}
use Rattle.book_members.specs.Members.{Row, vacant_row}
use Rattle.book.specs.Books.{Contents, BookChange, rows_in}
use Rattle.book_image.specs.Images.{image_book, accepted_image, restore_of}
use Rattle.book_drawing.specs.Views.{head_line, member_line, member_lines, book_text, refused_text, view_of, ViewFits}
use Rattle.book_drawing.proofs.TextLaws.{decimal_short}

module _ (s : List ℕ) (r : BookChange) (e : r ≡ restore_of s 0) where
  number : r.refused ≡ cond (not (accepted_image s 0)) 14 0
  unfolding restore_of
  number = ap (λ (x : BookChange). x.refused) e

  pub view-refused : (r.refused ≡ 0 → ⊥) → view_of s ≡ refused_text
  unfolding view_of
  view-refused z = go (accepted_image s 0) refl
    where
      go : (t : Bool) → accepted_image s 0 ≡ t → cond t (book_text (image_book s 0)) refused_text ≡ refused_text
      go true q = absurd (z (number ∙ rw q))
      go false q = refl

  pub view-accepted : r.refused ≡ 0 → view_of s ≡ book_text r.book
  unfolding view_of restore_of
  view-accepted z = go (accepted_image s 0) refl
    where
      go : (t : Bool) → accepted_image s 0 ≡ t → cond t (book_text (image_book s 0)) refused_text ≡ book_text r.book
      go true q = sym (ap (λ (x : BookChange). book_text x.book) e ∙ rw q)
      go false q =
          let fourteen : r.refused ≡ 14 = number ∙ rw q in
          absurd (omega (arith, z, fourteen))

-- a text in a buffer, and how many bytes of it are there
abbrev pub Viewed : List ℕ → List ℕ → List ℕ → ℕ → Type 0
Viewed out text held n = (held ≡ sets out 0 text) × (n ≡ min (length text) (length out)) × (n ≤ length held) × (n ≡ length (take n held))

pub viewed : (out text held : List ℕ) (n : ℕ) → held ≡ sets out 0 text → n ≡ min (length text) (length out) → Viewed out text held n
viewed out text held n e m =
    let inside : n ≤ length held = omega (arith, m, ap length e, length-sets out 0 text) in
    (e, m, inside, omega (arith, inside, length-take n held))

-- ---- how long it can be
both_short : (a b : List ℕ) (m n k : ℕ) → length a ≤ m → length b ≤ n → m + n ≤ k → length (a ++ b) ≤ k
both_short a b m n k h l e = omega (arith, length-append a b, h, l, e)

head_short : (p : Plan) → length (head_line p) ≤ 21
head_short p = simp length-append (omega (arith, decimal_short (slots p), decimal_short (active p)))

line_short : (p : Plan) (row : ℕ) (r : Row) → length (member_line p row r) ≤ 106
line_short p row r = simp (length-append, length-tab) (omega (arith, few-slots p))

lines_short : (p : Plan) (row : ℕ) (rs : List Row) → length (member_lines p row rs) ≤ 106 * length rs
lines_short p row [] = omega arith
lines_short p row (r ∷ rs) = go (vacant_row r) (lines_short p (suc row) rs)
  where
    go : (t : Bool) → length (member_lines p (suc row) rs) ≤ 106 * length rs
        → length (cond t (member_lines p (suc row) rs) (member_line p row r ++ member_lines p (suc row) rs)) ≤ 106 * length (r ∷ rs)
    go true h = omega (arith, h)
    go false h = both_short (member_line p row r) (member_lines p (suc row) rs) 106 (106 * length rs) _ (line_short p row r) h (omega arith)

-- a book of 21 places has at most as many lines
text_short : (b : Contents) → length b.places ≡ 21 → length (book_text b) ≤ 2247
unfolding book_text
text_short b e =
    both_short (head_line b.plan) (member_lines b.plan 0 (rows_in b)) 21 (106 * length (rows_in b)) 2247 (head_short b.plan) (lines_short b.plan 0 (rows_in b))
    (omega (arith, length-take b.plan.rows b.places, e))

places : (s : List ℕ) → length (image_book s 0).places ≡ 21
unfolding image_book
places s = length-tab 21 _

pub view-fits : ViewFits
unfolding view_of
view-fits s = of_choice (λ l. length l ≤ 2247) (accepted_image s 0) {y = refused_text} (text_short (image_book s 0) (places s)) (omega arith)
