-- The row for a destination among some rows, in any order: the first with it, what holds of it, and where it stands.
-- Assumes nothing.
use Rattle.octets.proofs.Words.{◌≡◌, refl, sym, ◌∙◌, Bool, true, false, cond, and-eq-true_iff, List, [], ◌∷◌, ◌⊎◌, inl, inr, ℕ, suc, ◌<◌, ℕ_discrete, arith, eqb, length, get_or}
use Rattle.octets.specs.Lists.{every, Each}
use Rattle.octets.proofs.OrderLaws.{find_first, find_behind}
use Rattle.route_table.specs.declared.row.Row.{Row}
use Rattle.route_table.specs.Rows.{none, leading_to, row_for}

-- a destination has a row
abbrev pub Has : ℕ → List Row → Type 0
Has d rs = (row_for d rs).destination ≡ d

-- what holds of each row holds of that
pub each_row : (P : Row → Type 0) (d : ℕ) → 0 < d → (rs : List Row) → Each P rs → Has d rs → P (row_for d rs)
each_row P d z [] e h = absurd (omega arith)
each_row P d z (r ∷ rs) e h = go (ℕ_discrete r.destination d) (each_row P d z rs e.1)
  where
    go : Dec (r.destination ≡ d) → (Has d rs → P (row_for d rs)) → P (row_for d (r ∷ rs))
    go (yes q) ih = rw (find_first leading_to none d r rs q) e.0
    go (no q) ih = rw (find_behind leading_to none d r rs q) (ih (rw (find_behind leading_to none d r rs q) at h))

-- what holds of every row holds of the one that is looked up, if there is one
pub row_for-every : (test : Row → Bool) (d : ℕ) (rs : List Row) → every test rs ≡ true → (test (row_for d rs) ≡ true) ⊎ (row_for d rs ≡ none)
unfolding every
row_for-every test d [] e = inr refl
row_for-every test d (r ∷ rs) e =
    let (here, later) = (and-eq-true_iff (test r) (every test rs)).0 e in
    go (eqb r.destination d) here (row_for-every test d rs later)
  where
    go : (b : Bool) → test r ≡ true → (test (row_for d rs) ≡ true) ⊎ (row_for d rs ≡ none) → (test (cond b r (row_for d rs)) ≡ true) ⊎ (cond b r (row_for d rs) ≡ none)
    go true here later = inl here
    go false here later = later

-- where it stands
pub place : (d : ℕ) → 0 < d → (rs : List Row) → Has d rs → (i : ℕ) × (i < length rs) × (get_or rs i none ≡ row_for d rs)
place d z [] h = absurd (omega arith)
place d z (r ∷ rs) h = go (ℕ_discrete r.destination d) (place d z rs)
  where
    go : Dec (r.destination ≡ d) → (Has d rs → (i : ℕ) × (i < length rs) × (get_or rs i none ≡ row_for d rs)) → (i : ℕ) × (i < suc (length rs)) × (get_or (r ∷ rs) i none ≡ row_for d (r ∷ rs))
    go (yes e) ih = (0, omega arith, sym (find_first leading_to none d r rs e))
    go (no e) ih =
        let (i, l, k) = ih (rw (find_behind leading_to none d r rs e) at h) in
        (suc i, omega arith, k ∙ sym (find_behind leading_to none d r rs e))
