-- Lists that ascend by a key, no two elements alike: an element put at its place, the one with a key, and those in use in front of empty places.
-- Assumes nothing.
use Rattle.std.specs.Prelude.{ℕ, Bool, true, ◌&&◌, cond, List, [], ◌∷◌, eqb, ltb}

abbrev pub ascending_by : {A : Type 0} → (A → ℕ) → List A → Bool
ascending_by key [] = true
ascending_by key (a ∷ []) = true
ascending_by key (a ∷ b ∷ l) = ltb (key a) (key b) && ascending_by key (b ∷ l)

-- in place of the one with its key, or before the first whose key is higher
abbrev pub put_by : {A : Type 0} → (A → ℕ) → A → List A → List A
put_by key w [] = w ∷ []
put_by key w (a ∷ l) = cond (ltb (key a) (key w)) (a ∷ put_by key w l) (cond (eqb (key a) (key w)) (w ∷ l) (w ∷ a ∷ l))

-- the one with this key, `none` where there is none
abbrev pub find_by : {A : Type 0} → (A → ℕ) → A → ℕ → List A → A
find_by key none k [] = none
find_by key none k (a ∷ l) = cond (eqb (key a) k) a (find_by key none k l)

-- those in use: up to the first place whose key is 0
abbrev pub in_use_by : {A : Type 0} → (A → ℕ) → List A → List A
in_use_by key [] = []
in_use_by key (a ∷ l) = cond (eqb (key a) 0) [] (a ∷ in_use_by key l)
