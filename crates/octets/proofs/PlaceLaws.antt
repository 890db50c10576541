-- Places in a row are right exactly if those in use ascend and keep their rule, and empty ones stand behind them.
-- Assumes nothing.
use Rattle.octets.proofs.Words.{◌≡◌, refl, Bool, true, false, ◌&&◌, ◌||◌, cond, and-true, and-false, List, [], ◌∷◌, ℕ, ℕ_discrete, eq-eqb, ne_eqb, eqb, ltb, length, drop}
use Rattle.octets.specs.Lists.{every}
use Rattle.octets.specs.Ordered.{ascending_by, in_use_by}
use Rattle.octets.specs.Places.{first_key, ok_places_by}

regroup : (r o a e n : Bool) → (r && o && (a && e && n)) ≡ (o && a && (r && e) && n)
regroup true true a e n = refl
regroup true false a e n = refl
regroup false true true e n = refl
regroup false true false e n = refl
regroup false false a e n = refl

module _ {A : Type 0} (key : A → ℕ) where
  -- none in use stands at the front where the first key is 0
  pub none_first : (l : List A) → first_key key l ≡ 0 → in_use_by key l ≡ []
  none_first [] e = refl
  none_first (a ∷ l) e = rw (eq-eqb (key a) 0 e)

  ascending_cons : (a : A) (l : List A)
      → ascending_by key (a ∷ in_use_by key l) ≡ ((eqb (first_key key l) 0 || ltb (key a) (first_key key l)) && ascending_by key (in_use_by key l))
  ascending_cons a [] = refl
  ascending_cons a (b ∷ l) = go (eqb (key b) 0) refl
    where
      go : (t : Bool) → eqb (key b) 0 ≡ t
          → ascending_by key (a ∷ cond (eqb (key b) 0) [] (b ∷ in_use_by key l))
          ≡ ((eqb (key b) 0 || ltb (key a) (key b)) && ascending_by key (cond (eqb (key b) 0) [] (b ∷ in_use_by key l)))
      go true q = rw q
      go false q = rw q

  -- a place whose key is not 0 is not empty
  module _ (empty rule : A → Bool) (used : (a : A) → (key a ≡ 0 → ⊥) → empty a ≡ false) where
    some_first : (l : List A) → (first_key key l ≡ 0 → ⊥) → every empty l ≡ false
    unfolding every
    some_first [] e = absurd (e refl)
    some_first (a ∷ l) e = rw (used a e)

    abbrev Right : List A → Bool
    Right l = ascending_by key (in_use_by key l) && every rule (in_use_by key l) && every empty (drop (length (in_use_by key l)) l)

    pub ok_right : (l : List A) → ok_places_by key empty rule l ≡ Right l
    unfolding every
    ok_right [] = refl
    ok_right (a ∷ l) = go (eqb (key a) 0) refl (ℕ_discrete (first_key key l) 0) (ok_right l)
      where
        go : (t : Bool) → eqb (key a) 0 ≡ t → Dec (first_key key l ≡ 0) → ok_places_by key empty rule l ≡ Right l
            → ok_places_by key empty rule (a ∷ l) ≡ Right (a ∷ l)
        go true q (yes z) ih =
            let e = rw (none_first l z) at ih in
            simp (q, eq-eqb (first_key key l) 0 z, e, and-true)
        go true q (no z) ih = simp (q, ne_eqb (first_key key l) 0 z, some_first l z, and-false)
        go false q d ih =
            rw (q, ih, ascending_cons a l)
            (regroup (rule a) (eqb (first_key key l) 0 || ltb (key a) (first_key key l)) (ascending_by key (in_use_by key l)) (every rule (in_use_by key l)) _)
