-- The tests of a sheet say what the sentence says: of a unit, of two that are near, of two that share a slot.
-- Assumes nothing.
use Rattle.octets.proofs.Words.{◌≡◌, sym, subst, ◌∙◌, Bool, true, false, not, ◌&&◌, and-eq-true_iff, or_comm, false≢true, List, [], ◌∷◌, Memᴰ, inl, inr, ℕ, arith, le-leb, leb-true, lt-ltb, ltb-true, ltb-false, eqb-true, not-true, eqb, leb, ltb}
use Rattle.octets.specs.Lists.{every}
use Rattle.octets.proofs.ListLaws.{every_in, some_in, in_some}
use Rattle.octets.proofs.TestLaws.{or_elim, or_left, or_right, by_bool, all_hold}
use Rattle.slot_sets.specs.Sets.{has, count, is_empty, minus, disjoint, firsts}
use Rattle.slot_sets.proofs.SetLaws.{disjoint_is_apart, subset_by_minus, firsts-has}
use Rattle.slot_sets.proofs.MaskLaws.{has-past}
use Rattle.site_sheet.specs.Sheets.{Proposed, Link, joins, linked, between, common, near, is_for, listed, link_rule}
use Rattle.site_sheet.specs.Verdicts.{unit_rule, clash}
use Rattle.site_sheet.specs.Laws.{Allotted, Near, Clash}

-- ---- a unit by itself
module _ (d : ℕ) (g : Proposed) where
  pub rule_allotted : unit_rule d g ≡ true → Allotted d g
  rule_allotted e =
      let n = count g.slots in
      let hold = all_hold (leb 1 n ∷ leb n 4 ∷ is_empty (minus g.slots (firsts d)) ∷ []) e in
      record {
        some-slots = omega (arith, leb-true 1 n (hold 0));
        few-slots = omega (arith, leb-true n 4 (hold 1));
        within = λ i h.
            let low = sym (firsts-has d i) ∙ (subset_by_minus 64 g.slots (firsts d)).0 (hold 2) i h in
            ltb-true i d ((and-eq-true_iff (ltb i d) (ltb i 64)).0 low).0;
      }

  pub allotted_rule : Allotted d g → unit_rule d g ≡ true
  allotted_rule a =
      let n = count g.slots in
      let inside = (subset_by_minus 64 g.slots (firsts d)).1 (λ i h. firsts-has d i ∙ rw (lt-ltb i d (a.within i h)) (in_width i h)) in
      rw (le-leb 1 n (omega (arith, a.some-slots)), le-leb n 4 (omega (arith, a.few-slots)), inside)
    where
      in_width : (i : ℕ) → has g.slots i ≡ true → ltb i 64 ≡ true
      in_width i h = by_bool _ (ltb i 64) (λ e. e) (λ e. absurd (false≢true (sym (has-past g.slots i (ltb-false i 64 e)) ∙ h)))

-- ---- two that are near
module _ (links : List Link) where
  linked_back : (u v : ℕ) → linked links u v ≡ true → linked links v u ≡ true
  unfolding linked
  linked_back u v e =
      let (l, m, t) = some_in (joins u v) links e in
      in_some (joins v u) links m (or_comm (eqb l.one v && eqb l.other u) (eqb l.one u && eqb l.other v) ∙ t)

  pub near_back : (u v : ℕ) → Near links u v → Near links v u
  near_back u v (inl l) = inl (linked_back u v l)
  near_back u v (inr (w, p, q)) = inr (w, q, p)

module _ (links : List Link) (sheet : List Proposed) where
  near-says : (u v : ℕ) → near links sheet u v ≡ true → Near links u v
  unfolding common
  near-says u v e =
      or_elim _ (linked links u v) (common links sheet u v) e (λ l. inl l)
      (λ c.
      let (g, m, t) = some_in (between links u v) sheet c in
      let (p, q) = (and-eq-true_iff (linked links u g.unit) (linked links v g.unit)).0 t in
      inr (g.unit, p, q))

  -- whom a link names is on the sheet
  module _ (good : every (link_rule sheet) links ≡ true) where
    linked-listed : (u w : ℕ) → linked links u w ≡ true → listed sheet w ≡ true
    unfolding linked
    linked-listed u w e =
        let (l, m, t) = some_in (joins u w) links e in
        let rule = every_in (link_rule sheet) links good m in
        let hold = all_hold (listed sheet l.one ∷ listed sheet l.other ∷ not (eqb l.one l.other) ∷ []) rule in
        or_elim _ (eqb l.one u && eqb l.other w) (eqb l.one w && eqb l.other u) t
        (λ k. ends l.other ((and-eq-true_iff (eqb l.one u) (eqb l.other w)).0 k).1 (hold 1))
        (λ k. ends l.one ((and-eq-true_iff (eqb l.one w) (eqb l.other u)).0 k).0 (hold 0))
      where
        ends : (x : ℕ) → eqb x w ≡ true → listed sheet x ≡ true → listed sheet w ≡ true
        ends x q h = subst (λ (y : ℕ). listed sheet y ≡ true) (eqb-true x w q) h

    says-near : (u v : ℕ) → Near links u v → near links sheet u v ≡ true
    unfolding common listed
    says-near u v (inl l) = or_left (linked links u v) (common links sheet u v) l
    says-near u v (inr (w, p, q)) =
        let (g, m, t) = some_in (is_for w) sheet (linked-listed u w p) in
        let e = eqb-true g.unit w t in
        or_right (linked links u v) (common links sheet u v) (in_some (between links u v) sheet m (rw (e, p, q)))

-- ---- two that share a slot
module _ (links : List Link) (sheet : List Proposed) (g h : Proposed) where
  abbrev apart : Bool
  apart = disjoint g.slots h.slots

  pub clash-says : Memᴰ g sheet → Memᴰ h sheet → clash links sheet g h ≡ true → Clash links sheet g h
  clash-says m n e =
      let hold = all_hold (ltb g.unit h.unit ∷ not apart ∷ near links sheet g.unit h.unit ∷ []) e in
      record {
        lower-there = m;
        higher-there = n;
        ascending = ltb-true g.unit h.unit (hold 0);
        near = near-says links sheet g.unit h.unit (hold 2);
        shared = λ none. false≢true (sym (not-true apart (hold 1)) ∙ (disjoint_is_apart 64 g.slots h.slots).1 none);
      }

  pub says-clash : every (link_rule sheet) links ≡ true → Clash links sheet g h → clash links sheet g h ≡ true
  says-clash good k =
      let shared = by_bool (apart ≡ false) apart (λ e. absurd (k.shared ((disjoint_is_apart 64 g.slots h.slots).0 e))) (λ e. e) in
      rw (lt-ltb g.unit h.unit k.ascending, shared, says-near links sheet good g.unit h.unit k.near)
