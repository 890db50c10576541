-- Links: more are no worse, one more leads on, and what is reached is a unit of the site.
-- Assumes nothing.
use Rattle.octets.proofs.Words.{◌≡◌, refl, Bool, true, false, ◌&&◌, and-eq-true_iff, false≢true, List, [], ◌∷◌, ℕ, zero, suc, ◌≤◌, arith, eqb-true, eq-eqb, eqb}
use Rattle.octets.specs.Lists.{every, some}
use Rattle.octets.proofs.TestLaws.{or_left, or_right, or_elim}
use Rattle.site_converges.specs.Sites.{Site, Fewest, among, within}

-- ---- units
-- some number passes: one that stands in the list does
pub some_elim : (R : Type 0) (test : ℕ → Bool) (l : List ℕ) → some test l ≡ true → ((n : ℕ) → among n l ≡ true → test n ≡ true → R) → R
unfolding among some
some_elim R test [] e f = absurd (false≢true e)
some_elim R test (m ∷ l) e f =
    or_elim R (test m) (some test l) e
    (λ h. f m (or_left (eqb m m) (among m l) (eq-eqb m m refl)) h)
    (λ h. some_elim R test l h (λ n a t. f n (or_right (eqb n m) (among n l) a) t))

pub some-by : (test : ℕ → Bool) (l : List ℕ) (n : ℕ) → among n l ≡ true → test n ≡ true → some test l ≡ true
unfolding among some
some-by test [] n a e = a
some-by test (m ∷ l) n a e = grind (arith, a, e, some-by test l n)

pub among-every : (test : ℕ → Bool) (l : List ℕ) → every test l ≡ true → (n : ℕ) → among n l ≡ true → test n ≡ true
unfolding every among some
among-every test [] e n a = absurd (false≢true a)
among-every test (m ∷ l) e n a = grind (arith, e, a, among-every test l)

-- ---- links
module _ (s : Site) where
  pub within-suc : (r a b : ℕ) → within s r a b ≡ true → within s (suc r) a b ≡ true
  unfolding within
  within-suc r a b e = or_left (within s r a b) _ e

  pub within_more : (r k a b : ℕ) → r ≤ k → within s r a b ≡ true → within s k a b ≡ true
  within_more r zero a b h e =
      let z : r ≡ 0 = omega arith in
      rw z at e
  within_more r (suc k) a b h e = grind (arith, h, e, within_more r k a b, within-suc k a b)

  pub within_step : (r a n b : ℕ) → among n s.units ≡ true → s.linked a n ≡ true → within s r n b ≡ true → within s (suc r) a b ≡ true
  unfolding within
  within_step r a n b m l e = or_right (within s r a b) _ (some-by (λ n. s.linked a n && within s r n b) s.units n m (rw (l, e)))

  pub within_elim : (R : Type 0) (r a b : ℕ) → within s (suc r) a b ≡ true → (within s r a b ≡ true → R)
      → ((n : ℕ) → among n s.units ≡ true → s.linked a n ≡ true → within s r n b ≡ true → R) → R
  unfolding within
  within_elim R r a b e f g =
      or_elim R (within s r a b) _ e f
      (λ h.
      some_elim R (λ n. s.linked a n && within s r n b) s.units h
      (λ n m t.
      let (l, w) = (and-eq-true_iff (s.linked a n) (within s r n b)).0 t in
      g n m l w))

  within-start : (a : ℕ) → within s 0 a a ≡ true
  unfolding within
  within-start a = eq-eqb a a refl

  pub within_self : (r a : ℕ) → within s r a a ≡ true
  within_self r a = within_more 0 r a a (omega arith) (within-start a)

  pub within_none : (a b : ℕ) → within s 0 a b ≡ true → a ≡ b
  unfolding within
  within_none a b e = eqb-true a b e

  -- what is reached from a unit of the site is one
  pub reached : (r a b : ℕ) → among a s.units ≡ true → within s r a b ≡ true → among b s.units ≡ true
  reached zero a b m e = rw (within_none a b e) at m
  reached (suc r) a b m e = within_elim (among b s.units ≡ true) r a b e (λ w. reached r a b m w) (λ n i l w. reached r n b i w)

  pub fewest_self : (a : ℕ) → Fewest s 0 a a
  fewest_self a = record { enough = within_self 0 a; least = λ k w. omega arith }

  -- by a link to a unit from which so many are the fewest: one more are the fewest, or so many are enough from here
  pub fewest-step : (k a n b : ℕ) → among n s.units ≡ true → s.linked a n ≡ true → within s k n b ≡ true → within s k a b ≡ false → Fewest s (suc k) a b
  fewest-step k a n b m l e f = record { enough = within_step k a n b m l e; least = λ j w. grind (arith, f, w, within_more j k a b) }
