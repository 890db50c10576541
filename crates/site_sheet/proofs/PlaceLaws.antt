-- The place of a unit on a sheet: found or not, and where no unit is listed twice the only one.
-- Assumes nothing.
use Rattle.std.proofs.Common.{Option, Some, None}
use Rattle.std.specs.Option.{is_some}
use Rattle.octets.proofs.Words.{subst, le-ltb, ◌≡◌, refl, sym, ap, ap₂, ◌∙◌, Bool, true, false, not, ◌&&◌, ◌||◌, cond, and-eq-true_iff, List, [], ◌∷◌, ℕ, zero, suc, ◌+◌, ◌-◌, ◌/◌, ◌<◌, ◌≤◌, not-suc-le-zero, le_of_suc-le-suc, arith, eq-eqb, ne_eqb, eqb-true, lt-ltb, not-true, eqb, eqb-suc-suc, ltb, leb-suc-suc, length, get_or, drop, length-drop}
use Rattle.octets.specs.Lists.{some}
use Rattle.octets.proofs.TestLaws.{neither}
use Rattle.site_sheet.specs.declared.rows.Row.{Row}
use Rattle.site_sheet.specs.Seen.{row_at, place_of, Searched}
use Rattle.site_sheet.specs.SheetBytes.{row_size, proposed_at, sheet_in}
use Rattle.site_sheet.specs.Sheets.{Proposed, listed, distinct}
use Rattle.site_sheet.proofs.RowLaws.{one_here, none_left, one_more, rows-length}

-- ---- on a list
module _ (u : ℕ) where
  -- a unit is listed where its place is not past the end
  pub listed-place : (l : List Proposed) → listed l u ≡ ltb (place_of l u) (length l)
  unfolding place_of listed some
  listed-place [] = refl
  listed-place (g ∷ l) = go (eqb g.unit u) (listed-place l)
    where
      go : (b : Bool) → listed l u ≡ ltb (place_of l u) (length l) → (b || listed l u) ≡ ltb (cond b 0 (suc (place_of l u))) (suc (length l))
      go true h = sym (lt-ltb 0 (suc (length l)) (omega arith))
      go false h = h ∙ sym (leb-suc-suc (suc (place_of l u)) (length l))

  unlisted_at : (l : List Proposed) (d : Proposed) (i : ℕ) → listed l u ≡ false → i < length l → eqb (get_or l i d).unit u ≡ false
  unfolding listed some
  unlisted_at [] d i e h = absurd (not-suc-le-zero h)
  unlisted_at (g ∷ l) d zero e h = (neither (eqb g.unit u) (listed l u) e).0
  unlisted_at (g ∷ l) d (suc i) e h = unlisted_at l d i (neither (eqb g.unit u) (listed l u) e).1 (le_of_suc-le-suc h)

  -- where no unit is listed twice, a place is that of a unit exactly if the unit stands there
  pub only-place : (l : List Proposed) (d : Proposed) (i : ℕ) → distinct l ≡ true → i < length l → eqb i (place_of l u) ≡ eqb (get_or l i d).unit u
  unfolding place_of distinct
  only-place [] d i e h = absurd (not-suc-le-zero h)
  only-place (g ∷ l) d i e h =
      let (once, later) = (and-eq-true_iff (not (listed l g.unit)) (distinct l)).0 e in
      go i h (eqb g.unit u) refl (not-true (listed l g.unit) once) (λ k s. only-place l d k later s)
    where
      go : (i : ℕ) → i < suc (length l) → (b : Bool) → eqb g.unit u ≡ b → listed l g.unit ≡ false
          → ((k : ℕ) → k < length l → eqb k (place_of l u) ≡ eqb (get_or l k d).unit u) → eqb i (cond b 0 (suc (place_of l u))) ≡ eqb (get_or (g ∷ l) i d).unit u
      go zero h true q once later = eq-eqb 0 0 refl ∙ sym q
      go zero h false q once later = ne_eqb 0 (suc (place_of l u)) (λ z. omega (arith, z)) ∙ sym q
      go (suc k) h true q once later =
          ne_eqb (suc k) 0 (λ z. omega (arith, z))
          ∙ sym (unlisted_at l d k (ap (listed l) (sym (eqb-true g.unit u q)) ∙ once) (le_of_suc-le-suc h))
      go (suc k) h false q once later = eqb-suc-suc k (place_of l u) ∙ later k (le_of_suc-le-suc h)

-- ---- the search for a unit
module _ (s : List ℕ) (u place all : ℕ) where
  pub place_found : (row : Row) → place < length s / row_size → place + place_of (drop place (sheet_in s)) u ≡ all → row ≡ row_at s place → row.unit ≡ u → place ≡ all
  unfolding sheet_in place_of
  place_found row h e at same =
      let here : (row_at s place).unit ≡ u = sym (ap (λ (x : Row). x.unit) at) ∙ same in
      let none : place_of (drop place (sheet_in s)) u ≡ 0 = ap (λ (l : List Proposed). place_of l u) (one_here (length s / row_size) (proposed_at s) place h) ∙ rw (eq-eqb (row_at s place).unit u here) in
      omega (arith, e, none)

  pub place_further : (row : Row) → place < length s / row_size → place + place_of (drop place (sheet_in s)) u ≡ all → row ≡ row_at s place → (row.unit ≡ u → ⊥)
      → place + 1 + place_of (drop (place + 1) (sheet_in s)) u ≡ all
  unfolding sheet_in place_of
  place_further row h e at other =
      let here : (row_at s place).unit ≡ u → ⊥ = λ q. other (ap (λ (x : Row). x.unit) at ∙ q) in
      let more : place_of (drop place (sheet_in s)) u ≡ suc (place_of (drop (place + 1) (sheet_in s)) u) = ap (λ (l : List Proposed). place_of l u) (one_here (length s / row_size) (proposed_at s) place h) ∙ rw (ne_eqb (row_at s place).unit u here) in
      omega (arith, e, more)

-- a search that comes to the end finds nobody
pub not-there : (s : List ℕ) (u from place : ℕ) → length s / row_size ≤ place → place + place_of (drop place (sheet_in s)) u ≡ from + place_of (drop from (sheet_in s)) u
    → listed (drop from (sheet_in s)) u ≡ false
unfolding place_of
not-there s u from place h e =
    let count = rows-length s in
    let rest = length-drop from (sheet_in s) in
    listed-place u (drop from (sheet_in s)) ∙ le-ltb (place_of (drop from (sheet_in s)) u) (length (drop from (sheet_in s))) (omega (arith, e, h, count, rest))

-- a unit is found exactly if it is listed from the place on
pub searched-listed : (s : List ℕ) (from u : ℕ) (r : Option ℕ) → Searched s from u r → is_some r ≡ listed (drop from (sheet_in s)) u
searched-listed s from u None h = sym h
searched-listed s from u (Some place) h =
    let count = rows-length s in
    let rest = length-drop from (sheet_in s) in
    let (there, e) = h in
    sym (listed-place u (drop from (sheet_in s)) ∙ lt-ltb (place_of (drop from (sheet_in s)) u) (length (drop from (sheet_in s))) (omega (arith, there, e, count, rest)))

turned_over : (a b : Bool) → not a ≡ b → a ≡ not b
turned_over true b e = ap not e
turned_over false b e = ap not e

-- ---- no unit is listed twice
module _ (s : List ℕ) (i : ℕ) where
  pub distinct_none : i ≡ length s / row_size → true ≡ distinct (drop i (sheet_in s))
  unfolding sheet_in distinct
  distinct_none e = none_left (length s / row_size) (proposed_at s) distinct i e

  pub distinct-turn : (row : Row) (r : Option ℕ) (none good : Bool) → 0 < i → i ≤ length s / row_size → good ≡ distinct (drop i (sheet_in s)) → row ≡ row_at s (i - 1)
      → Searched s (i - 1 + 1) row.unit r → is_some r ≡ not none → (none && good) ≡ distinct (drop (i - 1) (sheet_in s))
  unfolding sheet_in distinct
  distinct-turn row r none good z h e at ended said =
      let back : i - 1 + 1 ≡ i = omega arith in
      let found = searched-listed s i row.unit r (subst (λ (k : ℕ). Searched s k row.unit r) back ended) in
      one_more (length s / row_size) (proposed_at s) distinct i _ z h
      (ap₂ ◌&&◌ (turned_over none _ (sym said ∙ found) ∙ ap (λ (x : Row). not (listed (drop i (sheet_in s)) x.unit)) at) e)
