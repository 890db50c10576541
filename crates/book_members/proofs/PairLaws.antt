-- The rule of rows place by place: who leads, and any two rows.
-- Assumes nothing.
use Rattle.octets.proofs.Words.{◌≡◌, refl, sym, ap, ◌∙◌, Bool, true, false, false≢true, List, [], ◌∷◌, ℕ, zero, suc, ◌≤◌, ◌<◌, ℕ_discrete, suc_inj, arith, eq-eqb, eqb-true, length, get_or}
use Rattle.slot_sets.specs.Sets.{Apart}
use Rattle.book_members.specs.Members.{Row, empty_row}
use Rattle.book_members.specs.Rules.{distinct, apart, led_by}
use Rattle.book_members.proofs.RowSums.{weigh, weigh_at, one, tally, tally_skip, alone_more, alone_here, alone-behind, of_unit, owns, distinct_tally, tally_distinct, apart_tally, tally_apart}

-- ---- the first row
pub led_first : (manager : ℕ) (rs : List Row) → led_by manager rs ≡ true → (get_or rs 0 empty_row).unit ≡ manager
led_first manager [] e = absurd (false≢true e)
led_first manager (r ∷ rs) e = eqb-true r.unit manager e

pub first_led : (manager : ℕ) (rs : List Row) → 0 < length rs → (get_or rs 0 empty_row).unit ≡ manager → led_by manager rs ≡ true
first_led manager [] h e = absurd (omega (arith, h))
first_led manager (r ∷ rs) h e = eq-eqb r.unit manager e

-- ---- at most one row passes a test
module _ (test : Row → Bool) where
  -- any two that pass are one
  abbrev pub OnlyOne : List Row → Type 0
  OnlyOne rs = (i j : ℕ) → i < length rs → j < length rs → test (get_or rs i empty_row) ≡ true → test (get_or rs j empty_row) ≡ true → i ≡ j

  some_passes : (rs : List Row) (i : ℕ) → i < length rs → test (get_or rs i empty_row) ≡ true → 1 ≤ tally test rs
  some_passes rs i h e = rw e at (weigh_at (one test) rs i h)

  pub tally_pairs : (rs : List Row) → tally test rs ≤ 1 → OnlyOne rs
  tally_pairs [] l i j h k p q = absurd (omega (arith, h))
  tally_pairs (r ∷ rs) l zero zero h k p q = refl
  tally_pairs (r ∷ rs) l zero (suc j) h k p q = absurd (omega (arith, alone_here test r rs l p, some_passes rs j (omega (arith, k)) q))
  tally_pairs (r ∷ rs) l (suc i) zero h k p q = absurd (omega (arith, alone_here test r rs l q, some_passes rs i (omega (arith, h)) p))
  tally_pairs (r ∷ rs) l (suc i) (suc j) h k p q = ap suc (tally_pairs rs (alone-behind test r rs l) i j (omega (arith, h)) (omega (arith, k)) p q)

  none_passes : (rs : List Row) → ((i : ℕ) → i < length rs → test (get_or rs i empty_row) ≡ true → ⊥) → tally test rs ≡ 0
  unfolding weigh
  none_passes [] h = refl
  none_passes (r ∷ rs) h = go (test r) refl (none_passes rs (λ i l p. h (suc i) (omega (arith, l)) p))
    where
      go : (b : Bool) → test r ≡ b → tally test rs ≡ 0 → tally test (r ∷ rs) ≡ 0
      go true e none = absurd (h 0 (omega arith) e)
      go false e none = tally_skip test r rs e ∙ none

  pub pairs_tally : (rs : List Row) → OnlyOne rs → tally test rs ≤ 1
  unfolding weigh
  pairs_tally [] h = omega arith
  pairs_tally (r ∷ rs) h =
      alone_more test r rs
      (λ e. none_passes rs (λ i l p. omega (arith, h 0 (suc i) (omega arith) (omega (arith, l)) e p)))
      (pairs_tally rs (λ i j l m p q. suc_inj (h (suc i) (suc j) (omega (arith, l)) (omega (arith, m)) p q)))

-- ---- units are distinct, sets are disjoint
-- two rows of a unit are one
abbrev pub Distinct : List Row → Type 0
Distinct rs = (i j : ℕ) → i < length rs → j < length rs → ((get_or rs i empty_row).unit ≡ 0 → ⊥) → (get_or rs i empty_row).unit ≡ (get_or rs j empty_row).unit → i ≡ j

abbrev pub Disjoint : List Row → Type 0
Disjoint rs = (i j : ℕ) → i < length rs → j < length rs → (i ≡ j → ⊥) → Apart (get_or rs i empty_row).slots (get_or rs j empty_row).slots

module _ (rs : List Row) where
  pub distinct-pairs : distinct rs ≡ true → Distinct rs
  distinct-pairs e i j h k some q =
      let unit = (get_or rs i empty_row).unit in
      tally_pairs (of_unit unit) rs (distinct_tally rs e unit some) i j h k (eq-eqb unit unit refl) (eq-eqb (get_or rs j empty_row).unit unit (sym q))

  pub pairs-distinct : Distinct rs → distinct rs ≡ true
  pairs-distinct d =
      tally_distinct rs
      (λ unit z. pairs_tally (of_unit unit) rs (λ i j h k p q.
      let e : (get_or rs i empty_row).unit ≡ unit = eqb-true (get_or rs i empty_row).unit unit p in
      d i j h k (λ none. z (sym e ∙ none)) (e ∙ sym (eqb-true (get_or rs j empty_row).unit unit q))))

  pub apart-pairs : apart rs ≡ true → Disjoint rs
  apart-pairs e i j h k other slot p q = other (tally_pairs (owns slot) rs (apart_tally rs e slot) i j h k p q)

  pub pairs-apart : Disjoint rs → apart rs ≡ true
  pairs-apart d = tally_apart rs (λ slot. pairs_tally (owns slot) rs (λ i j h k p q. go slot i j h k p q (ℕ_discrete i j)))
    where
      go : (slot i j : ℕ) → i < length rs → j < length rs → owns slot (get_or rs i empty_row) ≡ true → owns slot (get_or rs j empty_row) ≡ true → Dec (i ≡ j) → i ≡ j
      go slot i j h k p q (yes e) = e
      go slot i j h k p q (no n) = absurd (d i j h k n slot p q)
