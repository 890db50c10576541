-- Rows and links in bytes, and a loop over a list from its end.
-- Assumes nothing.
use Rattle.octets.proofs.Words.{◌≡◌, sym, ap, ap₂, ◌∙◌, List, [], ◌∷◌, ℕ, suc, ◌+◌, ◌-◌, ◌*◌, ◌/◌, ◌<◌, ◌≤◌, arith, length, get_or, take, drop, drop_of_length-le, drop-cons}
use Rattle.octets.specs.Lists.{tab}
use Rattle.octets.specs.Numbers.{num}
use Rattle.octets.proofs.LayoutLaws.{fields-part}
use Rattle.octets.proofs.ListLaws.{length-tab, get_or-tab}
use Rattle.site_sheet.specs.declared.rows.Row.{Row}
use Rattle.site_sheet.specs.declared.rows.Ends.{Ends}
use Rattle.site_sheet.specs.Seen.{row_at, ends_at}
use Rattle.site_sheet.specs.SheetBytes.{row_widths, row_size, link_widths, link_size, proposed_at, sheet_in, link_at, links_in}

pub rows-length : (s : List ℕ) → length s / 10 ≡ length (sheet_in s)
unfolding sheet_in
rows-length s = sym (length-tab (length s / row_size) (proposed_at s))

pub links-length : (s : List ℕ) → length s / 4 ≡ length (links_in s)
unfolding links_in
links-length s = sym (length-tab (length s / link_size) (link_at s))

-- the numbers in a part are those of the row or the link
module _ (s : List ℕ) (k part a b : ℕ) where
  pub row_read : row_size ≤ part → a ≡ num 2 (take part (drop (row_size * k) s)) 0 → b ≡ num 8 (take part (drop (row_size * k) s)) 2
      → ◌≡◌ {A = Row} (record { unit = a; slots = b }) (row_at s k)
  row_read h p q =
      let whole = fields-part row_widths s (row_size * k) part h in
      let unit : a ≡ num 2 s (row_size * k) = p ∙ ap (λ (vs : List ℕ). get_or vs 0 0) whole in
      let slots : b ≡ num 8 s (row_size * k + 2) = q ∙ ap (λ (vs : List ℕ). get_or vs 1 0) whole in
      λ i. record { unit = unit i; slots = slots i }

  pub ends_read : link_size ≤ part → a ≡ num 2 (take part (drop (link_size * k) s)) 0 → b ≡ num 2 (take part (drop (link_size * k) s)) 2
      → ◌≡◌ {A = Ends} (record { one = a; other = b }) (ends_at s k)
  ends_read h p q =
      let whole = fields-part link_widths s (link_size * k) part h in
      let one : a ≡ num 2 s (link_size * k) = p ∙ ap (λ (vs : List ℕ). get_or vs 0 0) whole in
      let other : b ≡ num 2 s (link_size * k + 2) = q ∙ ap (λ (vs : List ℕ). get_or vs 1 0) whole in
      λ i. record { one = one i; other = other i }

-- ---- place by place
module _ {A : Type 0} (n : ℕ) (f : ℕ → A) where
  -- what stands from a place on is the element there, and what stands behind it
  pub one_here : (i : ℕ) → i < n → drop i (tab n f) ≡ f i ∷ drop (i + 1) (tab n f)
  one_here i h =
      let all = length-tab n f in
      let next : suc i ≡ i + 1 = omega arith in
      drop-cons (tab n f) i (f 0) (omega (arith, all, h)) ∙ ap₂ ◌∷◌ (get_or-tab n f i (f 0) h) (ap (λ (k : ℕ). drop k (tab n f)) next)

  -- what a loop from the last element on computes: at first nothing is left, each turn takes one element more
  pub one-before : (i : ℕ) → 0 < i → i ≤ n → drop (i - 1) (tab n f) ≡ f (i - 1) ∷ drop i (tab n f)
  one-before i z h =
      let back : i - 1 + 1 ≡ i = omega arith in
      one_here (i - 1) (omega arith) ∙ ap (λ (k : ℕ). f (i - 1) ∷ drop k (tab n f)) back

  pub none_left : {B : Type 0} (F : List A → B) (i : ℕ) → i ≡ n → F [] ≡ F (drop i (tab n f))
  none_left F i e = let all = length-tab n f in sym (ap F (drop_of_length-le (tab n f) {i = i} (omega (arith, all, e))))

  pub one_more : {B : Type 0} (F : List A → B) (i : ℕ) (r : B) → 0 < i → i ≤ n → r ≡ F (f (i - 1) ∷ drop i (tab n f)) → r ≡ F (drop (i - 1) (tab n f))
  one_more F i r z h e = e ∙ sym (ap F (one-before i z h))
