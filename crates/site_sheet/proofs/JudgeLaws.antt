-- The loops that look for who offends: a row more from the end of the sheet on.
-- Assumes nothing.
use Rattle.octets.proofs.Words.{◌≡◌, refl, sym, ap, ap₂, ◌∙◌, Bool, true, false, not, cond, List, [], ◌∷◌, ◌++◌, ℕ, ◌-◌, ◌/◌, ◌<◌, ◌≤◌, length, drop}
use Rattle.slot_sets.specs.Sets.{slots_of}
use Rattle.site_sheet.specs.declared.rows.Row.{Row}
use Rattle.site_sheet.specs.declared.judging.Known.{Known}
use Rattle.site_sheet.specs.Seen.{row_at, known_at, known_in, clashing, known_unit, soonest_with}
use Rattle.site_sheet.specs.SheetBytes.{row_size, proposed_at, sheet_in}
use Rattle.site_sheet.specs.Verdicts.{unit_rule, Named, both, alone, gather, only, bad_unit, bad_units, pairs_with, Found, nobody, found, sooner, soonest}
use Rattle.site_sheet.proofs.RowLaws.{none_left, one_more}

-- ---- the units from the end on
one_or_not : (t : Bool) (n : Named) (l : List Named) → soonest (only t n ++ l) ≡ cond t (found (sooner n (soonest l))) (soonest l)
unfolding soonest
one_or_not true n l = refl
one_or_not false n l = refl

module _ (d : ℕ) (s : List ℕ) (i : ℕ) where
  pub none-bad : i ≡ length s / row_size → nobody ≡ soonest (bad_units d (drop i (sheet_in s)))
  unfolding sheet_in bad_units gather soonest
  none-bad e = none_left (length s / row_size) (proposed_at s) (λ l. soonest (bad_units d l)) i e

  unit-turn : (row : Row) (good : Bool) (b r : Found) → 0 < i → i ≤ length s / row_size → b ≡ soonest (bad_units d (drop i (sheet_in s)))
      → row ≡ row_at s (i - 1) → good ≡ unit_rule d (record { unit = row.unit; slots = slots_of row.slots })
      → r ≡ cond (not good) (found (sooner (alone row.unit) b)) b → r ≡ soonest (bad_units d (drop (i - 1) (sheet_in s)))
  unfolding sheet_in bad_units gather
  unit-turn row good b r z h e at rule er =
      let bad : Row → List Named = λ x. bad_unit d (record { unit = x.unit; slots = slots_of x.slots }) in
      let rest = bad_units d (drop i (sheet_in s)) in
      one_more (length s / row_size) (proposed_at s) (λ l. soonest (bad_units d l)) i r z h
      (er ∙ (rw (rule, e) (sym (one_or_not (not (unit_rule d (record { unit = row.unit; slots = slots_of row.slots }))) (alone row.unit) rest))
      ∙ ap (λ (x : Row). soonest (bad x ++ rest)) at))

  module _ (row : Row) (good : Bool) (b : Found) (z : 0 < i) (h : i ≤ length s / row_size) (e : b ≡ soonest (bad_units d (drop i (sheet_in s)))) (at : row ≡ row_at s (i - 1))
      (rule : good ≡ unit_rule d (record { unit = row.unit; slots = slots_of row.slots })) where
    pub unit-passed : good ≡ true → b ≡ soonest (bad_units d (drop (i - 1) (sheet_in s)))
    unit-passed t = unit-turn row good b b z h e at rule (rw t)

    pub unit-taken : good ≡ false → (r : Found) → r ≡ found (sooner (alone row.unit) b) → r ≡ soonest (bad_units d (drop (i - 1) (sheet_in s)))
    unit-taken t r er = unit-turn row good b r z h e at rule (er ∙ rw t)

-- ---- the pairs from the end on
with_or_not : (t : Bool) (n : Named) (l : List Named) (f : Found) → soonest_with (only t n ++ l) f ≡ cond t (found (sooner n (soonest_with l f))) (soonest_with l f)
unfolding soonest_with
with_or_not true n l f = refl
with_or_not false n l f = refl

joined-soonest : (l k : List Named) → soonest_with l (soonest k) ≡ soonest (l ++ k)
unfolding soonest soonest_with
joined-soonest [] k = refl
joined-soonest (n ∷ l) k = ap (λ (f : Found). found (sooner n f)) (joined-soonest l k)

module _ (s masks : List ℕ) (i : ℕ) where
  module _ (one : Known) (f : Found) where
    pub none_with : i ≡ length s / row_size → f ≡ soonest_with (pairs_with clashing known_unit one (drop i (known_in s masks))) f
    unfolding known_in gather soonest_with
    none_with e = none_left (length s / row_size) (known_at s masks) (λ l. soonest_with (pairs_with clashing known_unit one l) f) i e

    with_turn : (other : Known) (holds : Bool) (b r : Found) → 0 < i → i ≤ length s / row_size
        → b ≡ soonest_with (pairs_with clashing known_unit one (drop i (known_in s masks))) f → other ≡ known_at s masks (i - 1)
        → holds ≡ clashing one other → r ≡ cond holds (found (sooner (both one.row.unit other.row.unit) b)) b
        → r ≡ soonest_with (pairs_with clashing known_unit one (drop (i - 1) (known_in s masks))) f
    unfolding known_in gather
    with_turn other holds b r z h e at ec er =
        let rest = pairs_with clashing known_unit one (drop i (known_in s masks)) in
        one_more (length s / row_size) (known_at s masks) (λ l. soonest_with (pairs_with clashing known_unit one l) f) i r z h
        (er ∙ (rw (ec, e) (sym (with_or_not (clashing one other) (both one.row.unit other.row.unit) rest f))
        ∙ ap (λ (x : Known). soonest_with (only (clashing one x) (both one.row.unit x.row.unit) ++ rest) f) at))

    module _ (other : Known) (holds : Bool) (b : Found) (z : 0 < i) (h : i ≤ length s / row_size)
        (e : b ≡ soonest_with (pairs_with clashing known_unit one (drop i (known_in s masks))) f) (at : other ≡ known_at s masks (i - 1)) (ec : holds ≡ clashing one other) where
      pub with_passed : holds ≡ false → b ≡ soonest_with (pairs_with clashing known_unit one (drop (i - 1) (known_in s masks))) f
      with_passed t = with_turn other holds b b z h e at ec (rw t)

      pub with_taken : holds ≡ true → (r : Found) → r ≡ found (sooner (both one.row.unit other.row.unit) b)
          → r ≡ soonest_with (pairs_with clashing known_unit one (drop (i - 1) (known_in s masks))) f
      with_taken t r er = with_turn other holds b r z h e at ec (er ∙ rw t)

  pub none_paired : i ≡ length s / row_size → nobody ≡ soonest (gather (λ g. pairs_with clashing known_unit g (known_in s masks)) (drop i (known_in s masks)))
  unfolding known_in gather soonest
  none_paired e = none_left (length s / row_size) (known_at s masks) (λ l. soonest (gather (λ g. pairs_with clashing known_unit g (known_in s masks)) l)) i e

  pub pair_turn : (one : Known) (b r : Found) → 0 < i → i ≤ length s / row_size
      → b ≡ soonest (gather (λ g. pairs_with clashing known_unit g (known_in s masks)) (drop i (known_in s masks))) → one ≡ known_at s masks (i - 1)
      → r ≡ soonest_with (pairs_with clashing known_unit one (known_in s masks)) b
      → r ≡ soonest (gather (λ g. pairs_with clashing known_unit g (known_in s masks)) (drop (i - 1) (known_in s masks)))
  unfolding known_in gather
  pair_turn one b r z h e at er =
      let from : Known → List Named = λ g. pairs_with clashing known_unit g (known_in s masks) in
      one_more (length s / row_size) (known_at s masks) (λ l. soonest (gather from l)) i r z h
      (er ∙ (ap₂ (λ (x : Known) (y : Found). soonest_with (from x) y) at e
      ∙ joined-soonest (from (known_at s masks (i - 1))) (gather from (drop i (known_in s masks)))))
