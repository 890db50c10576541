-- The row of a unit: where it is found, and where it is found once a row was written.
-- Assumes nothing.
use Rattle.octets.proofs.Words.{◌≡◌, refl, sym, ap, ◌∙◌, Bool, true, false, not, ◌||◌, cond, List, [], ◌∷◌, ℕ, zero, suc, ◌+◌, ◌≤◌, ◌<◌, one-add, arith, eq-eqb, ne_eqb, eqb-true, lt-ltb, ltb-true, ltb-false, not-false, eqb, ltb, leb-suc-suc, length, set}
use Rattle.std.specs.Prelude.{Some, None}
use Rattle.book_members.specs.Members.{Row, empty_row, place_for, placed}
use Rattle.book_members.proofs.RowLaws.{row}
use Rattle.book_members.proofs.RowSums.{weigh_at, one, tally, passes_there, only_one, some_tally, of_unit}

-- a unit is found exactly if it has a row
pub found_tally : (unit : ℕ) (rs : List Row) → ltb (place_for unit rs) (length rs) ≡ not (eqb (tally (of_unit unit) rs) 0)
unfolding place_for
found_tally unit = some_tally (of_unit unit) (λ rs. ltb (place_for unit rs) (length rs)) refl (λ r rs. go (of_unit unit r) (place_for unit rs) (length rs))
  where
    go : (b : Bool) (at n : ℕ) → ltb (cond b 0 (1 + at)) (suc n) ≡ (b || ltb at n)
    go true at n = lt-ltb 0 (suc n) (omega arith)
    go false at n = rw one-add (leb-suc-suc (suc at) n)

module _ (unit : ℕ) (rs : List Row) where
  pub found-one : 1 ≤ tally (of_unit unit) rs → place_for unit rs < length rs
  found-one h = ltb-true (place_for unit rs) (length rs) (found_tally unit rs ∙ ap not (ne_eqb (tally (of_unit unit) rs) 0 (λ z. omega (arith, z))))

  pub found_none : ltb (place_for unit rs) (length rs) ≡ false → tally (of_unit unit) rs ≡ 0
  found_none e = eqb-true (tally (of_unit unit) rs) 0 (not-false (eqb (tally (of_unit unit) rs) 0) (sym (found_tally unit rs) ∙ e))

pub found-unit : (unit : ℕ) (rs : List Row) → place_for unit rs < length rs → (row rs (place_for unit rs)).unit ≡ unit
unfolding place_for
found-unit unit [] h = absurd (omega arith)
found-unit unit (r ∷ rs) h = go (of_unit unit r) refl (found-unit unit rs) h
  where
    go : (b : Bool) → of_unit unit r ≡ b → (place_for unit rs < length rs → (row rs (place_for unit rs)).unit ≡ unit)
        → cond b 0 (1 + place_for unit rs) < length (r ∷ rs) → (row (r ∷ rs) (cond b 0 (1 + place_for unit rs))).unit ≡ unit
    go true e ih l = eqb-true r.unit unit e
    go false e ih l = rw one-add (ih (omega arith))

-- where no row before has the unit, the row written is its row
pub found-set : (unit : ℕ) (rs : List Row) (at : ℕ) (r : Row) → r.unit ≡ unit → at < length rs → at ≤ place_for unit rs → place_for unit (set rs at r) ≡ at
unfolding place_for
found-set unit [] at r e h l = absurd (omega arith)
found-set unit (a ∷ rs) zero r e h l = rw (eq-eqb r.unit unit e)
found-set unit (a ∷ rs) (suc at) r e h l = go (of_unit unit a) refl (found-set unit rs at r e (omega arith)) l
  where
    go : (b : Bool) → of_unit unit a ≡ b → (at ≤ place_for unit rs → place_for unit (set rs at r) ≡ at) → suc at ≤ cond b 0 (1 + place_for unit rs) → cond b 0 (1 + place_for unit (set rs at r)) ≡ suc at
    go true q ih l = absurd (omega arith)
    go false q ih l = omega (arith, ih (omega arith))

-- where a row is written that was not the unit's, and is not then, its row is where it was
pub found-other : (unit : ℕ) (rs : List Row) (at : ℕ) (r : Row) → ((row rs at).unit ≡ unit → ⊥) → (r.unit ≡ unit → ⊥) → place_for unit (set rs at r) ≡ place_for unit rs
unfolding place_for
found-other unit [] at r old new = refl
found-other unit (a ∷ rs) zero r old new = rw (ne_eqb a.unit unit old, ne_eqb r.unit unit new)
found-other unit (a ∷ rs) (suc at) r old new = ap (λ (k : ℕ). cond (of_unit unit a) 0 (1 + k)) (found-other unit rs at r old new)

-- two units that are found at one place are one
pub found-same : (rs : List Row) (unit unit' : ℕ) → place_for unit rs < length rs → place_for unit rs ≡ place_for unit' rs → unit ≡ unit'
found-same rs unit unit' h e =
    sym (found-unit unit rs h) ∙ (ap (λ (i : ℕ). (row rs i).unit) e ∙ found-unit unit' rs (omega (arith, h, e)))

-- who has a row is found, and there if it has no other
module _ (unit : ℕ) (some : unit ≡ 0 → ⊥) (rs : List Row) (i : ℕ) (own : (row rs i).unit ≡ unit) where
  is_own : of_unit unit (row rs i) ≡ true
  is_own = eq-eqb (row rs i).unit unit own

  no_empty : of_unit unit empty_row ≡ false
  no_empty = ne_eqb 0 unit (λ e. some (sym e))

  pub found-there : place_for unit rs < length rs
  found-there =
      let there = passes_there (of_unit unit) no_empty rs i is_own in
      let one-row : 1 ≤ tally (of_unit unit) rs = rw is_own at (weigh_at (one (of_unit unit)) rs i there) in
      found-one unit rs one-row

  pub found_is : tally (of_unit unit) rs ≤ 1 → place_for unit rs ≡ i
  found_is most =
      let first = eq-eqb (row rs (place_for unit rs)).unit unit (found-unit unit rs found-there) in
      only_one (of_unit unit) no_empty rs most (place_for unit rs) i first is_own

-- ---- the place, if there is one
module _ (unit : ℕ) (rs : List Row) where
  pub placed-there : (at : ℕ) → placed unit rs ≡ Some at → (place_for unit rs ≡ at) × (at < length rs)
  placed-there at e = go (ltb (place_for unit rs) (length rs)) refl e
    where
      go : (b : Bool) → ltb (place_for unit rs) (length rs) ≡ b → cond b (Some (place_for unit rs)) None ≡ Some at → (place_for unit rs ≡ at) × (at < length rs)
      go true t q = let same : place_for unit rs ≡ at = cc in (same, omega (arith, same, ltb-true (place_for unit rs) (length rs) t))
      go false t q = cc

  pub placed-nowhere : placed unit rs ≡ None → length rs ≤ place_for unit rs
  placed-nowhere e = go (ltb (place_for unit rs) (length rs)) refl e
    where
      go : (b : Bool) → ltb (place_for unit rs) (length rs) ≡ b → cond b (Some (place_for unit rs)) None ≡ None → length rs ≤ place_for unit rs
      go true t q = cc
      go false t q = omega (arith, ltb-false (place_for unit rs) (length rs) t)
