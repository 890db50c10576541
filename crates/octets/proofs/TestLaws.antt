-- Tests joined by "or", lists of tests, and choices: what follows from a test follows from what it was made of.
-- Assumes nothing.
use Rattle.octets.proofs.Words.{◌≡◌, refl, sym, ap, ◌∙◌, Bool, true, false, not, ◌&&◌, ◌||◌, cond, and-eq-true_iff, false≢true, List, [], ◌∷◌, ℕ, zero, suc, get_or, set}
use Rattle.octets.specs.Lists.{all, all_from}

pub or_elim : (R : Type 0) (a b : Bool) → (a || b) ≡ true → (a ≡ true → R) → (b ≡ true → R) → R
or_elim R true b e f g = f refl
or_elim R false b e f g = g e

pub or_left : (a b : Bool) → a ≡ true → (a || b) ≡ true
or_left a b e = rw e

pub or_right : (a b : Bool) → b ≡ true → (a || b) ≡ true
or_right true b e = refl
or_right false b e = e

pub neither : (a b : Bool) → (a || b) ≡ false → (a ≡ false) × (b ≡ false)
neither true b e = absurd (false≢true (sym e))
neither false b e = (refl, e)

-- "unless a, b"
pub implied : (a b : Bool) → (not a || b) ≡ true → a ≡ true → b ≡ true
implied true b e h = e
implied false b e h = absurd (false≢true h)

pub implies : (a b : Bool) → (a ≡ true → b ≡ true) → (not a || b) ≡ true
implies true b f = f refl
implies false b f = refl

pub by_bool : (R : Type 0) (b : Bool) → (b ≡ true → R) → (b ≡ false → R) → R
by_bool R true f g = f refl
by_bool R false f g = g refl

-- what holds of a choice, by the choice
pub of-cond : {A : Type 0} (P : A → Type 0) (b : Bool) (x y : A) → (b ≡ true → P x) → (b ≡ false → P y) → P (cond b x y)
of-cond P true x y p q = p refl
of-cond P false x y p q = q refl

-- what holds of both choices holds of the one that is made
pub of_choice : {A : Type 0} (P : A → Type 0) (b : Bool) {x y : A} → P x → P y → P (cond b x y)
of_choice P true p q = p
of_choice P false p q = q

-- ---- a list of tests that all hold: each of them by its place, ..
hold_from : (so : Bool) (tests : List Bool) → all_from so tests ≡ true → (so ≡ true) × ((i : ℕ) → get_or tests i true ≡ true)
hold_from so [] e = (e, λ i. refl)
hold_from so (test ∷ tests) e =
    let (both, behind) = hold_from (so && test) tests e in
    let (before, here) = (and-eq-true_iff so test).0 both in
    (before, at here behind)
  where
    at : test ≡ true → ((i : ℕ) → get_or tests i true ≡ true) → (i : ℕ) → get_or (test ∷ tests) i true ≡ true
    at here behind zero = here
    at here behind (suc i) = behind i

pub all_hold : (tests : List Bool) → all tests ≡ true → (i : ℕ) → get_or tests i true ≡ true
all_hold tests e = (hold_from true tests e).1

-- .. and they still do with another that holds in the place of one
with_from : (so : Bool) (tests : List Bool) → all_from so tests ≡ true → (i : ℕ) (other : Bool) → other ≡ true → all_from so (set tests i other) ≡ true
with_from so [] e i other h = e
with_from so (test ∷ tests) e zero other h =
    let (before, here) = (and-eq-true_iff so test).0 (hold_from (so && test) tests e).0 in
    ap (λ (x : Bool). all_from (so && x) tests) (h ∙ sym here) ∙ e
with_from so (test ∷ tests) e (suc i) other h = with_from (so && test) tests e i other h

pub all_with : (tests : List Bool) → all tests ≡ true → (i : ℕ) (other : Bool) → other ≡ true → all (set tests i other) ≡ true
all_with tests e i other h = with_from true tests e i other h
