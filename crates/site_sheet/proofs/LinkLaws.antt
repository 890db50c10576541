-- The loop that takes the neighbours from the links, a link more a turn.
-- Assumes nothing.
use Rattle.std.proofs.Common.{None, Some}
use Rattle.octets.proofs.Words.{◌≡◌, refl, sym, ap, ap₂, subst, ◌∙◌, Bool, true, false, not, ◌&&◌, and-false, false≢true, List, ℕ, ◌+◌, ◌-◌, ◌/◌, ◌<◌, ◌≤◌, zero-add, arith, eq-eqb, ne_eqb, eqb, ltb, length, get_or, set, drop, replicate, length-set}
use lib.ListN.{get_or-replicate}
use Rattle.octets.specs.Lists.{every, some}
use Rattle.octets.proofs.ListLaws.{every-at, get_or-tab, length-tab}
use Rattle.octets.proofs.TestLaws.{by_bool}
use Rattle.slot_sets.specs.Sets.{Slots, slots_of, has, union}
use Rattle.slot_sets.proofs.SetLaws.{nothing-has}
use Rattle.slot_sets.proofs.MaskLaws.{mask-nothing}
use Rattle.site_sheet.specs.declared.rows.Ends.{Ends}
use Rattle.site_sheet.specs.Seen.{row_at, ends_at, place_of, Single, Neighbouring, Searched}
use Rattle.site_sheet.specs.SheetBytes.{row_size, link_size, proposed_at, sheet_in, link_at, links_in}
use Rattle.site_sheet.specs.Sheets.{Proposed, Link, linked, listed, distinct, link_rule}
use Rattle.site_sheet.proofs.NeighbourLaws.{Placed, link_more}
use Rattle.site_sheet.proofs.PlaceLaws.{only-place, searched-listed}
use Rattle.site_sheet.proofs.RowLaws.{none_left, one-before, one_more, rows-length}

-- what is known at a link: those behind it name units of the sheet, and who is linked by them
pub record SoFar (links s : List ℕ) (count : ℕ) (masks : List ℕ) (i : ℕ) : Type 0 where
  pub all : count ≡ length s / row_size
  pub few : count ≤ 21
  pub once : distinct (sheet_in s) ≡ true
  pub left : i ≤ length links / link_size
  pub room : length masks ≡ 21
  pub good : every (link_rule (sheet_in s)) (drop i (links_in links)) ≡ true
  pub known : Neighbouring (drop i (links_in links)) count (λ k. (row_at s k).unit) masks

-- at the start none is linked
pub none-linked : (links s : List ℕ) (count i : ℕ) → count ≡ length s / row_size → count ≤ 21 → distinct (sheet_in s) ≡ true → i ≡ length links / link_size
    → SoFar links s count (replicate 21 0) i
unfolding linked some every links_in
none-linked links s count i all few once e =
    record {
      all = all;
      few = few;
      once = once;
      left = omega (arith, e);
      room = refl;
      good = sym (none_left (length links / link_size) (link_at links) (every (link_rule (sheet_in s))) i e);
      known =
          record {
            known = λ k j h.
                ap (λ (m : ℕ). has (slots_of m) j) (get_or-replicate 21 k 0 0 (omega (arith, h, all, few)))
                ∙ (ap (λ (set : Slots 64). has set j) mask-nothing
                ∙ (nothing-has 64 j
                ∙ sym (ap (λ (l : List Link). ltb j count && linked l (row_at s k).unit (row_at s j).unit) (sym (none_left (length links / link_size) (link_at links) (λ l. l) i e)) ∙ and-false (ltb j count))));
          };
    }

module _ (links s masks : List ℕ) (count i : ℕ) (so : SoFar links s count masks i) (z : 0 < i) (ends : Ends) (at : ends ≡ ends_at links (i - 1)) where
  abbrev link : Link
  link = link_at links (i - 1)

  abbrev rule : Ends → Bool
  rule x = listed (sheet_in s) x.one && listed (sheet_in s) x.other && not (eqb x.one x.other)

  -- a link that breaks the rule
  link_bad : rule ends ≡ false → every (link_rule (sheet_in s)) (links_in links) ≡ false
  unfolding links_in
  link_bad t =
      let n = length links / link_size in
      let all-links = length-tab n (link_at links) in
      by_bool _ (every (link_rule (sheet_in s)) (links_in links))
      (λ q.
      let here = every-at (link_rule (sheet_in s)) (links_in links) (i - 1) link q (omega (arith, all-links, so.left, z)) in
      let kept : link_rule (sheet_in s) link ≡ true = sym (ap (link_rule (sheet_in s)) (get_or-tab n (link_at links) (i - 1) link (omega (arith, so.left, z)))) ∙ here in
      absurd (false≢true (sym t ∙ (ap rule at ∙ kept))))
      (λ q. q)

  pub one_missing : Searched s 0 ends.one None → every (link_rule (sheet_in s)) (links_in links) ≡ false
  one_missing h = link_bad (rw h)

  pub other_missing : Searched s 0 ends.other None → every (link_rule (sheet_in s)) (links_in links) ≡ false
  other_missing h = link_bad (rw (h, and-false (listed (sheet_in s) ends.one)))

  pub to_itself : ends.one ≡ ends.other → every (link_rule (sheet_in s)) (links_in links) ≡ false
  to_itself e = link_bad (rw (eq-eqb ends.one ends.other e) (and-false (listed (sheet_in s) ends.one && listed (sheet_in s) ends.other)))

  module _ (one other : ℕ) (found : Searched s 0 ends.one (Some one)) (found' : Searched s 0 ends.other (Some other)) where
    pub one_found : one < count
    one_found = omega (arith, found.0, so.all)

    pub other-found : other < count
    other-found = omega (arith, found'.0, so.all)

    -- where a unit is found is the one place that it stands at
    stands : (place u : ℕ) → place ≡ 0 + place_of (drop 0 (sheet_in s)) u → (k : ℕ) → k < count → eqb k place ≡ eqb (row_at s k).unit u
    unfolding sheet_in
    stands place u e k h =
        let n = length s / row_size in
        let all-rows = rows-length s in
        let same : place ≡ place_of (sheet_in s) u = e ∙ zero-add (place_of (sheet_in s) u) in
        ap (eqb k) same ∙ (only-place u (sheet_in s) (proposed_at s 0) k so.once (omega (arith, all-rows, h, so.all))
        ∙ ap (λ (g : Proposed). eqb g.unit u) (get_or-tab n (proposed_at s) k (proposed_at s 0) (omega (arith, h, so.all))))

    pub link_turn : (ends.one ≡ ends.other → ⊥) → (w m v k : ℕ) → Single other w → slots_of m ≡ union (slots_of (get_or masks one 0)) (slots_of w) → Single one v
        → slots_of k ≡ union (slots_of (get_or (set masks one m) other 0)) (slots_of v) → SoFar links s count (set (set masks one m) other k) (i - 1)
    unfolding links_in every
    link_turn apart w m v k sw em sv ek =
        let n = length links / link_size in
        let units : ℕ → ℕ = λ j. (row_at s j).unit in
        let listed-one = searched-listed s 0 ends.one (Some one) found in
        let listed-other = searched-listed s 0 ends.other (Some other) found' in
        let here : rule ends ≡ true = rw (← listed-one, ← listed-other, ne_eqb ends.one ends.other apart) in
        let kept : link_rule (sheet_in s) link ≡ true = sym (ap rule at) ∙ here in
        let placed : Placed count units link one other =
        record { one-there = one_found; other-there = other-found; is_one = stands' one (λ x. x.one) found.1; is_other = stands' other (λ x. x.other) found'.1 } in
        record {
          all = so.all;
          few = so.few;
          once = so.once;
          left = omega (arith, so.left);
          room = length-set (set masks one m) other k ∙ (length-set masks one m ∙ so.room);
          good = sym (one_more n (link_at links) (every (link_rule (sheet_in s))) i true z so.left (ap₂ ◌&&◌ (sym kept) (sym so.good)));
          known =
              subst (λ (l : List Link). Neighbouring l count units (set (set masks one m) other k)) (sym (one-before n (link_at links) i z so.left))
              (link_more count units link (drop i (links_in links)) masks one other placed (omega (arith, so.few, so.room)) so.known w m v k sw em sv ek);
        }
      where
        stands' : (place : ℕ) (end_of_lem : Ends → ℕ) → place ≡ 0 + place_of (drop 0 (sheet_in s)) (end_of_lem ends) → (j : ℕ) → j < count → eqb j place ≡ eqb (row_at s j).unit (end_of_lem (ends_at links (i - 1)))
        stands' place end_of_lem e j h = stands place (end_of_lem ends) e j h ∙ ap (λ (x : Ends). eqb (row_at s j).unit (end_of_lem x)) at
