-- Lines: the letters of all slots, the head line, a row in use or not, the rows that are left, and the whole.
-- Assumes nothing.
use Rattle.octets.proofs.Words.{◌≡◌, refl, sym, ap, ◌∙◌, Bool, true, false, cond, List, [], ◌∷◌, ◌++◌, ℕ, suc, ◌+◌, ◌≤◌, ◌<◌, add-one, arith, eq-eqb, ne_eqb, length, get_or, drop, length-append, sets}
use Rattle.octets.proofs.StoreLaws.{sets_append}
use Rattle.site_plan.specs.declared.plan.Plan.{Plan}
use Rattle.book_members.specs.declared.member.Member.{Member}
use Rattle.book_members.specs.Members.{Row, row_of, rows_of, vacant_row}
use Rattle.book_members.proofs.RowLoopLaws.{nobody, row_and_rest, none_left}
use Rattle.book.specs.Books.{Contents, rows_in}
use Rattle.book_drawing.specs.Views.{head_line, member_line, member_lines, book_text}
use Rattle.book_drawing.specs.declared.text.Text.{Text}
use Rattle.book_drawing.specs.Texts.{Put}
use Rattle.book_drawing.proofs.TextLaws.{then_put}

-- ---- the rows that are left
-- to put what is left is to put it all
pub record Left (start : Text) (all : List ℕ) (here : Text) (rest : List ℕ) : Type 0 where
  pub same : here.out.ghost_name ≡ start.out.ghost_name
  pub stored : sets here.out.now here.place rest ≡ sets start.out.now start.place all
  pub behind : here.place + length rest ≡ start.place + length all

left-turn : (start : Text) (all s rest : List ℕ) (mid next : Text) → Left start all mid (s ++ rest) → Put mid s next → Left start all next rest
left-turn start all s rest mid next left p =
    record {
      same = p.same ∙ left.same;
      stored = rw (p.stored, p.behind) (sym (sets_append s rest mid.out.now mid.place) ∙ left.stored);
      behind = omega (arith, left.behind, p.behind, length-append s rest);
    }

-- a line, or nothing where the row is empty
abbrev pub row_text : Plan → ℕ → Row → List ℕ
row_text p row r = cond (vacant_row r) [] (member_line p row r)

first-line : (p : Plan) (row : ℕ) (r : Row) (rs : List Row) → member_lines p row (r ∷ rs) ≡ row_text p row r ++ member_lines p (suc row) rs
first-line p row r rs = go (vacant_row r)
  where
    go : (b : Bool) → cond b (member_lines p (suc row) rs) (member_line p row r ++ member_lines p (suc row) rs) ≡ cond b [] (member_line p row r) ++ member_lines p (suc row) rs
    go true = refl
    go false = refl

-- the lines from a row on
abbrev pub lines_from : Plan → List Member → ℕ → List ℕ
lines_from p ms row = member_lines p row (drop row (rows_of ms))

module _ (start : Text) (p : Plan) (ms : List Member) (row : ℕ) (mid : Text) (left : Left start (lines_from p ms 0) mid (lines_from p ms row)) where
  here : row < length ms → lines_from p ms row ≡ row_text p row (row_of (get_or ms row nobody)) ++ lines_from p ms (row + 1)
  here h =
      ap (member_lines p row) (row_and_rest ms row h) ∙
      (first-line p row (row_of (get_or ms row nobody)) (drop (suc row) (rows_of ms)) ∙ ap (λ (k : ℕ). row_text p row (row_of (get_or ms row nobody)) ++ lines_from p ms k) (sym (add-one row)))

  pub row-drawn : (next : Text) → row < length ms → ((get_or ms row nobody).unit ≡ 0 → ⊥) → Put mid (member_line p row (row_of (get_or ms row nobody))) next
      → Left start (lines_from p ms 0) next (lines_from p ms (row + 1))
  row-drawn next h e w =
      let lines : lines_from p ms row ≡ member_line p row (row_of (get_or ms row nobody)) ++ lines_from p ms (row + 1) = here h ∙ rw (ne_eqb (get_or ms row nobody).unit 0 e) in
      left-turn start (lines_from p ms 0) _ _ mid next (rw lines at left) w

  pub row-passed : row < length ms → (get_or ms row nobody).unit ≡ 0 → Left start (lines_from p ms 0) mid (lines_from p ms (row + 1))
  row-passed h e =
      let lines : lines_from p ms row ≡ lines_from p ms (row + 1) = here h ∙ rw (eq-eqb (get_or ms row nobody).unit 0 e) in
      rw (← lines) left

  pub rows_end : length ms ≤ row → Put start (lines_from p ms 0) mid
  rows_end h =
      let left = rw (none_left ms row h) at left in
      record { same = left.same; stored = left.stored; behind = omega (arith, left.behind) }

-- ---- the whole
pub book-told : (b : Contents) (start mid next : Text) → start.place ≡ 0 → Put start (head_line b.plan) mid → Put mid (member_lines b.plan 0 (rows_in b)) next
    → (next.out.now ≡ sets start.out.now 0 (book_text b)) × (next.place ≡ length (book_text b))
unfolding book_text
book-told b start mid next z p q =
    let whole = then_put (head_line b.plan) (member_lines b.plan 0 (rows_in b)) start mid next p q in
    (whole.stored ∙ rw z, omega (arith, whole.behind, z))
