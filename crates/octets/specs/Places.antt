-- Needs no belief, laws carry it to a list that ascends and empty places behind it: places in a row, each beside the next, with no order required.
-- Assumes nothing.
use Rattle.std.specs.Prelude.{ℕ, Bool, true, ◌&&◌, ◌||◌, cond, List, [], ◌∷◌, eqb, ltb}

-- the key of the first place, 0 where there is none
abbrev pub first_key : {A : Type 0} → (A → ℕ) → List A → ℕ
first_key key [] = 0
first_key key (a ∷ l) = key a

-- a place may stand before one with the key `after`, 0 for none: empty before nothing, or within rule and below it
abbrev pub ok_before : {A : Type 0} → (A → ℕ) → (A → Bool) → (A → Bool) → A → ℕ → Bool
ok_before key empty rule a after = cond (eqb (key a) 0) (empty a && eqb after 0) (rule a && (eqb after 0 || ltb (key a) after))

-- each place may stand before the next
abbrev pub ok_places_by : {A : Type 0} → (A → ℕ) → (A → Bool) → (A → Bool) → List A → Bool
ok_places_by key empty rule [] = true
ok_places_by key empty rule (a ∷ l) = ok_before key empty rule a (first_key key l) && ok_places_by key empty rule l
