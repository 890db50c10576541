-- What holds of each element of a list, or of some, when the list is built, changed, cut, joined or tested.
-- Assumes nothing.
use Rattle.octets.proofs.Words.{◌≡◌, refl, Bool, true, List, [], ◌∷◌, ◌++◌, map, inl, inr, ⊎_elim, ℕ, zero, suc, ◌<◌, not-suc-le-zero, le_of_suc-le-suc, length, get_or, set, take, drop, replicate}
use Rattle.octets.specs.Lists.{tab, every, Each, Some}

module _ {A : Type 0} (P : A → Type 0) where
  pub each_all : ((a : A) → P a) → (l : List A) → Each P l
  each_all h [] = tt
  each_all h (a ∷ l) = (h a, each_all h l)

  pub each-replicate : (n : ℕ) (a : A) → P a → Each P (replicate n a)
  each-replicate zero a h = tt
  each-replicate (suc n) a h = (h, each-replicate n a h)

  pub each-tab : (n : ℕ) (f : ℕ → A) → ((i : ℕ) → P (f i)) → Each P (tab n f)
  unfolding tab
  each-tab zero f h = tt
  each-tab (suc n) f h = (h 0, each-tab n (λ k. f (suc k)) (λ k. h (suc k)))

  pub each_set : (l : List A) (at : ℕ) (a : A) → Each P l → P a → Each P (set l at a)
  each_set [] at a e h = tt
  each_set (b ∷ l) zero a e h = (h, e.1)
  each_set (b ∷ l) (suc at) a e h = (e.0, each_set l at a e.1 h)

  pub each_map : (f : A → A) → ((a : A) → P a → P (f a)) → (l : List A) → Each P l → Each P (map f l)
  each_map f on [] e = tt
  each_map f on (a ∷ l) e = (on a e.0, each_map f on l e.1)

  pub each_take : (n : ℕ) (l : List A) → Each P l → Each P (take n l)
  each_take zero l e = tt
  each_take (suc n) [] e = tt
  each_take (suc n) (a ∷ l) e = (e.0, each_take n l e.1)

  pub each-drop : (n : ℕ) (l : List A) → Each P l → Each P (drop n l)
  each-drop zero l e = e
  each-drop (suc n) [] e = tt
  each-drop (suc n) (a ∷ l) e = each-drop n l e.1

  pub each_also : (Q : A → Type 0) → ((a : A) → P a → Q a) → (l : List A) → Each P l → Each Q l
  each_also Q f [] e = tt
  each_also Q f (a ∷ l) e = (f a e.0, each_also Q f l e.1)

  pub each-every : (test : A → Bool) → ((a : A) → P a → test a ≡ true) → (l : List A) → Each P l → every test l ≡ true
  unfolding every
  each-every test f [] e = refl
  each-every test f (a ∷ l) e = rw (f a e.0) (each-every test f l e.1)

  pub each_append : (l k : List A) → Each P l → Each P k → Each P (l ++ k)
  each_append [] k e f = f
  each_append (a ∷ l) k e f = (e.0, each_append l k e.1 f)

  pub some_first : (l k : List A) → Some P l → Some P (l ++ k)
  some_first [] k i = absurd i
  some_first (a ∷ l) k i = ⊎_elim (λ h. inl h) (λ h. inr (some_first l k h)) i

  pub some-behind : (l k : List A) → Some P k → Some P (l ++ k)
  some-behind [] k i = i
  some-behind (a ∷ l) k i = inr (some-behind l k i)

-- an element stands at its place
pub some_at : {A : Type 0} (v d : A) (l : List A) (i : ℕ) → i < length l → get_or l i d ≡ v → Some (λ y. y ≡ v) l
some_at v d [] i h e = absurd (not-suc-le-zero h)
some_at v d (a ∷ l) zero h e = inl e
some_at v d (a ∷ l) (suc i) h e = inr (some_at v d l i (le_of_suc-le-suc h) e)
