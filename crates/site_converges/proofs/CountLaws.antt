-- Ascending rows for units of a list are no more than the list has.
-- Assumes nothing.
use Rattle.octets.proofs.Words.{◌≡◌, ap, ◌∙◌, true, cond, false≢true, List, [], ◌∷◌, ℕ, suc, ◌+◌, ◌≤◌, arith, eqb, ltb, length}
use Rattle.octets.specs.Lists.{every, Each, some}
use Rattle.octets.proofs.OrderLaws.{ascending-rest, ascending_above, find_first, find_behind}
use Rattle.route_table.specs.declared.row.Row.{Row}
use Rattle.route_table.specs.Rows.{none, leading_to, ascending}
use Rattle.route_table.proofs.HasLaws.{Has}
use Rattle.site_converges.specs.Sites.{among}

-- a list without the first place where a number stands
unfoldable pub without : ℕ → List ℕ → List ℕ
without n [] = []
without n (m ∷ l) = cond (eqb n m) l (m ∷ without n l)

pub without_shorter : (n : ℕ) (l : List ℕ) → among n l ≡ true → suc (length (without n l)) ≡ length l
unfolding without among some
without_shorter n [] e = absurd (false≢true e)
without_shorter n (m ∷ l) e = grind (arith, e, without_shorter n l)

pub without_other : (n k : ℕ) → (k ≡ n → ⊥) → (l : List ℕ) → among k l ≡ true → among k (without n l) ≡ true
unfolding without among some
without_other n k d [] e = e
without_other n k d (m ∷ l) e = grind (arith, d, e, without_other n k d l)

abbrev pub For : List ℕ → Row → Type 0
For l r = among r.destination l ≡ true

behind-first : (n : ℕ) (l : List ℕ) (rs : List Row) → every (λ s. ltb n s.destination) rs ≡ true → Each (For l) rs → Each (For (without n l)) rs
unfolding every
behind-first n l [] a e = tt
behind-first n l (s ∷ rs) a e = (without_other n s.destination (grind (arith, a)) l e.0, behind-first n l rs (grind (arith, a)) e.1)

pub no_more : (rs : List Row) (l : List ℕ) → ascending rs ≡ true → Each (For l) rs → length rs ≤ length l
no_more [] l a e = omega arith
no_more (r ∷ rs) l a e =
    let n = r.destination in
    let ih = no_more rs (without n l) (ascending-rest leading_to r rs a) (behind-first n l rs (ascending_above leading_to r rs a) e.1) in
    omega (arith, ih, without_shorter n l e.0)

-- a destination that has no row is that of none
none_for : (d : ℕ) (rs : List Row) → (Has d rs → ⊥) → Each (λ r. r.destination ≡ d → ⊥) rs
none_for d [] h = tt
none_for d (r ∷ rs) h =
    let here : r.destination ≡ d → ⊥ = λ e. h (ap (λ (x : Row). x.destination) (find_first leading_to none d r rs e) ∙ e) in
    (here, none_for d rs (λ k. h (ap (λ (x : Row). x.destination) (find_behind leading_to none d r rs here) ∙ k)))

-- rows for other units of a list than u leave room for one more that has none
module _ (l : List ℕ) (u d : ℕ) (mu : among u l ≡ true) (md : among d l ≡ true) (n : d ≡ u → ⊥) where
  others : (rs : List Row) → Each (λ r. For l r × (r.destination ≡ u → ⊥)) rs → Each (λ r. r.destination ≡ d → ⊥) rs → Each (For (without d (without u l))) rs
  others [] e f = tt
  others (r ∷ rs) e f =
      (without_other d r.destination f.0 (without u l) (without_other u r.destination e.0.1 l e.0.0), others rs e.1 f.1)

  pub one_more : (rs : List Row) → ascending rs ≡ true → Each (λ r. For l r × (r.destination ≡ u → ⊥)) rs → (Has d rs → ⊥) → length rs + 2 ≤ length l
  one_more rs a e h =
      omega (arith, no_more rs (without d (without u l)) a (others rs e (none_for d rs h)), without_shorter d (without u l) (without_other u d n l md), without_shorter u l mu)
