-- An element put at its place in a list that ascends by a key.
-- Assumes nothing.
use Rattle.octets.proofs.Words.{◌≡◌, refl, sym, ◌∙◌, Bool, true, and-eq-true_iff, List, [], ◌∷◌, ℕ, suc, ◌+◌, ◌≤◌, ◌<◌, ℕ_discrete, dec_lt, arith, lt-ltb, le-ltb, ltb-true, eq-eqb, ne_eqb, ltb, length}
use Rattle.octets.specs.Lists.{every}
use Rattle.octets.specs.Ordered.{ascending_by, put_by, find_by}

module _ {A : Type 0} (key : A → ℕ) where
  abbrev ascending : List A → Bool
  ascending l = ascending_by key l

  abbrev put : A → List A → List A
  put w l = put_by key w l

  module _ (w a : A) (l : List A) where
    pub put_above : key a < key w → put w (a ∷ l) ≡ a ∷ put w l
    put_above h = rw (lt-ltb (key a) (key w) h)

    pub put_same : key a ≡ key w → put w (a ∷ l) ≡ w ∷ l
    put_same e = rw (le-ltb (key a) (key w) (omega arith), eq-eqb (key a) (key w) e)

    pub put-below : key w < key a → put w (a ∷ l) ≡ w ∷ a ∷ l
    put-below h = rw (le-ltb (key a) (key w) (omega arith), ne_eqb (key a) (key w) (omega arith))

  -- what holds of a list with an element before it, by where one is put
  pub by_place : (P : List A → Type 0) (w a : A) (l : List A) → (key a < key w → P (a ∷ put w l)) → (key a ≡ key w → P (w ∷ l)) → (key w < key a → P (w ∷ a ∷ l))
      → P (put w (a ∷ l))
  by_place P w a l above same below = go (dec_lt (key a) (key w)) (ℕ_discrete (key a) (key w))
    where
      go : Dec (key a < key w) → Dec (key a ≡ key w) → P (put w (a ∷ l))
      go (yes h) q = rw (put_above w a l h) (above h)
      go (no h) (yes e) = rw (put_same w a l e) (same e)
      go (no h) (no e) =
          let b : key w < key a = omega arith in
          rw (put-below w a l b) (below b)

  pub put-every : (test : A → Bool) (w : A) (l : List A) → test w ≡ true → every test l ≡ true → every test (put w l) ≡ true
  unfolding every
  put-every test w [] t e = rw t
  put-every test w (a ∷ l) t e =
      let (here, later) = (and-eq-true_iff (test a) (every test l)).0 e in
      by_place (λ k. every test k ≡ true) w a l (λ h. rw here (put-every test w l t later)) (λ h. rw (t, later)) (λ h. rw (t, here, later))

  pub put-length : (w : A) (l : List A) → length (put w l) ≤ length l + 1
  put-length w [] = omega arith
  put-length w (a ∷ l) =
      let more = put-length w l in
      by_place (λ k. length k ≤ suc (length l) + 1) w a l (λ h. omega (arith, more)) (λ h. omega arith) (λ h. omega arith)

  -- ---- ascending, place by place
  ascending-step : (a b : A) (l : List A) → ascending (a ∷ b ∷ l) ≡ true → key a < key b
  ascending-step a b l e = ltb-true _ _ ((and-eq-true_iff (ltb (key a) (key b)) (ascending (b ∷ l))).0 e).0

  ascending_cons : (a b : A) (l : List A) → key a < key b → ascending (b ∷ l) ≡ true → ascending (a ∷ b ∷ l) ≡ true
  ascending_cons a b l h e = rw (lt-ltb (key a) (key b) h) e

  pub ascending-rest : (a : A) (l : List A) → ascending (a ∷ l) ≡ true → ascending l ≡ true
  ascending-rest a [] e = refl
  ascending-rest a (b ∷ l) e = ((and-eq-true_iff (ltb (key a) (key b)) (ascending (b ∷ l))).0 e).1

  -- an element in place of one with a key that is no higher than its own
  lower-first : (a b : A) (l : List A) → key a ≤ key b → ascending (b ∷ l) ≡ true → ascending (a ∷ l) ≡ true
  lower-first a b [] h e = refl
  lower-first a b (c ∷ l) h e = ascending_cons a c l (omega (arith, h, ascending-step b c l e)) (ascending-rest b (c ∷ l) e)

  pub ascending-without : (a b : A) (l : List A) → ascending (a ∷ b ∷ l) ≡ true → ascending (a ∷ l) ≡ true
  ascending-without a b l e = lower-first a b l (omega (arith, ascending-step a b l e)) (ascending-rest a (b ∷ l) e)

  -- every element behind the first is above it
  pub ascending_above : (a : A) (l : List A) → ascending (a ∷ l) ≡ true → every (λ b. ltb (key a) (key b)) l ≡ true
  unfolding every
  ascending_above a [] e = refl
  ascending_above a (b ∷ l) e = rw (lt-ltb (key a) (key b) (ascending-step a b l e)) (ascending_above a l (ascending-without a b l e))

  -- an element that is lower than w and than the first of some stands before them when w has been put among them
  before-put : (a w : A) (l : List A) → ascending (a ∷ l) ≡ true → key a < key w → ascending (put w l) ≡ true → ascending (a ∷ put w l) ≡ true
  before-put a w [] e h p = ascending_cons a w [] h refl
  before-put a w (b ∷ l) e h p =
      let k = ascending-step a b l e in
      by_place (λ m. ascending m ≡ true → ascending (a ∷ m) ≡ true) w b l
      (λ n q. ascending_cons a b (put w l) k q)
      (λ n q. ascending_cons a w l h q)
      (λ n q. ascending_cons a w (b ∷ l) h q) p

  pub put-ascending : (w : A) (l : List A) → ascending l ≡ true → ascending (put w l) ≡ true
  put-ascending w [] e = refl
  put-ascending w (a ∷ l) e =
      let later = put-ascending w l (ascending-rest a l e) in
      by_place (λ k. ascending k ≡ true) w a l (λ h. before-put a w l e h later) (λ h. lower-first w a l (omega (arith, h)) e) (λ h. ascending_cons w a l h e)

  -- ---- the one with a key
  module _ (none : A) where
    abbrev find : ℕ → List A → A
    find k l = find_by key none k l

    pub find_first : (k : ℕ) (a : A) (l : List A) → key a ≡ k → find k (a ∷ l) ≡ a
    find_first k a l e = rw (eq-eqb (key a) k e)

    pub find_behind : (k : ℕ) (a : A) (l : List A) → (key a ≡ k → ⊥) → find k (a ∷ l) ≡ find k l
    find_behind k a l e = rw (ne_eqb (key a) k e)

    -- an element that is put is the one with its key, ..
    pub find_put : (w : A) (l : List A) → find (key w) (put w l) ≡ w
    find_put w [] = find_first (key w) w [] refl
    find_put w (a ∷ l) =
        let later = find_put w l in
        by_place (λ m. find (key w) m ≡ w) w a l
        (λ h. find_behind (key w) a (put w l) (λ e. omega arith) ∙ later)
        (λ h. find_first (key w) w l refl)
        (λ h. find_first (key w) w (a ∷ l) refl)

    -- .. and every other key has the one that it had
    pub find_other : (k : ℕ) (w : A) → (key w ≡ k → ⊥) → (l : List A) → find k (put w l) ≡ find k l
    find_other k w n [] = find_behind k w [] n
    find_other k w n (a ∷ l) =
        let later = find_other k w n l in
        by_place (λ m. find k m ≡ find k (a ∷ l)) w a l
        (λ h. go (ℕ_discrete (key a) k) later)
        (λ h. find_behind k w l n ∙ sym (find_behind k a l (λ e. n (sym h ∙ e))))
        (λ h. find_behind k w (a ∷ l) n)
      where
        go : Dec (key a ≡ k) → find k (put w l) ≡ find k l → find k (a ∷ put w l) ≡ find k (a ∷ l)
        go (yes e) later = find_first k a (put w l) e ∙ sym (find_first k a l e)
        go (no e) later = find_behind k a (put w l) e ∙ (later ∙ sym (find_behind k a l e))
