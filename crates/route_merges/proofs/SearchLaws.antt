-- The search for a destination among ascending rows: it goes past the lower ones, and stops at the row itself or where it would stand.
-- Assumes nothing.
use Rattle.octets.proofs.Words.{◌≡◌, refl, sym, ap, ◌∙◌, Bool, true, and-eq-true_iff, List, [], ◌∷◌, ◌++◌, ℕ, zero, suc, ◌+◌, ◌≤◌, ◌<◌, add-one, arith, eq-eqb, ne_eqb, lt-ltb, ltb-true, ltb, length, get_or, take, drop, set, drop_of_length-le, drop-cons, take-suc, set_split}
use Rattle.octets.specs.Lists.{every}
use Rattle.octets.proofs.ListLaws.{every_snoc}
use Rattle.octets.proofs.OrderLaws.{put_above, put_same, put-below, ascending-rest}
use Rattle.route_table.specs.declared.row.Row.{Row}
use Rattle.route_table.specs.Rows.{leading_to, none, ascending, row_for}
use Rattle.route_merges.specs.Learning.{put}

abbrev pub below : ℕ → Row → Bool
below d r = ltb r.destination d

-- the search for a destination has come to this place: all rows before it are lower
pub record Searched (d : ℕ) (rs : List Row) (at : ℕ) : Type 0 where
  pub within : at ≤ length rs
  pub lower : every (below d) (take at rs) ≡ true

pub searched_start : (d : ℕ) (rs : List Row) → Searched d rs 0
unfolding every
searched_start d rs = record { within = omega arith; lower = refl }

-- what is left to do behind lower rows is the whole
found-behind : (d : ℕ) (rs : List Row) (at : ℕ) → every (below d) (take at rs) ≡ true → row_for d (drop at rs) ≡ row_for d rs
unfolding every
found-behind d rs zero e = refl
found-behind d [] (suc at) e = refl
found-behind d (r ∷ rs) (suc at) e =
    let (low, later) = (and-eq-true_iff (below d r) (every (below d) (take at rs))).0 e in
    rw (ne_eqb r.destination d (omega (arith, ltb-true r.destination d low))) (found-behind d rs at later)

put-behind : (d : ℕ) (rs : List Row) (at : ℕ) → every (below d) (take at rs) ≡ true → (w : Row) → w.destination ≡ d → take at rs ++ put w (drop at rs) ≡ put w rs
unfolding every
put-behind d rs zero e w q = refl
put-behind d [] (suc at) e w q = refl
put-behind d (r ∷ rs) (suc at) e w q =
    let (low, later) = (and-eq-true_iff (below d r) (every (below d) (take at rs))).0 e in
    ap (λ (l : List Row). r ∷ l) (put-behind d rs at later w q) ∙ sym (put_above leading_to w r rs (omega (arith, ltb-true r.destination d low)))

module _ (d : ℕ) (rs : List Row) (at : ℕ) (s : Searched d rs at) where
  abbrev here : Row
  here = get_or rs at none

  found : row_for d (drop at rs) ≡ row_for d rs
  found = found-behind d rs at s.lower

  puts : (w : Row) → w.destination ≡ d → take at rs ++ put w (drop at rs) ≡ put w rs
  puts = put-behind d rs at s.lower

  pub searched_on : at < length rs → here.destination < d → Searched d rs (at + 1)
  searched_on h low =
      record {
        within = omega arith;
        lower = rw (add-one, take-suc rs at none h, every_snoc (below d) (take at rs) here, s.lower, lt-ltb here.destination d low);
      }

  -- past the last row
  pub stop_end : at ≡ length rs → row_for d rs ≡ none
  stop_end e = sym found ∙ rw (drop_of_length-le rs {i = at} (omega arith))

  pub put_end : at ≡ length rs → (w : Row) → w.destination ≡ d → put w rs ≡ take at rs ++ (w ∷ drop at rs)
  put_end e w q = sym (puts w q) ∙ rw (drop_of_length-le rs {i = at} (omega arith))

  module _ (h : at < length rs) where
    -- at the row itself
    pub stop-same : here.destination ≡ d → row_for d rs ≡ here
    stop-same e = sym found ∙ rw (drop-cons rs at none h, eq-eqb here.destination d e)

    pub set_same : here.destination ≡ d → (w : Row) → w.destination ≡ d → put w rs ≡ set rs at w
    set_same e w q =
        sym (puts w q) ∙
        (rw (drop-cons rs at none h, put_same leading_to w here (drop (suc at) rs) (e ∙ sym q)) (sym (set_split rs at w h)))

    -- before the first row that is higher
    pub put-higher : d < here.destination → (w : Row) → w.destination ≡ d → put w rs ≡ take at rs ++ (w ∷ drop at rs)
    put-higher k w q =
        sym (puts w q) ∙ rw (drop-cons rs at none h, put-below leading_to w here (drop (suc at) rs) (omega arith))

-- ascending rows that begin above a destination have no row for it
pub none_above : (d : ℕ) (r : Row) (rs : List Row) → ascending (r ∷ rs) ≡ true → d < r.destination → row_for d (r ∷ rs) ≡ none
none_above d r [] e h = rw (ne_eqb r.destination d (omega arith))
none_above d r (s ∷ rs) e h =
    let k = ltb-true r.destination s.destination ((and-eq-true_iff (ltb r.destination s.destination) (ascending (s ∷ rs))).0 e).0 in
    rw (ne_eqb r.destination d (omega arith)) (none_above d s rs (ascending-rest leading_to r (s ∷ rs) e) (omega (arith, k)))

pub ascending-drop : (at : ℕ) (rs : List Row) → ascending rs ≡ true → ascending (drop at rs) ≡ true
ascending-drop zero rs e = e
ascending-drop (suc at) [] e = refl
ascending-drop (suc at) (r ∷ rs) e = ascending-drop at rs (ascending-rest leading_to r rs e)

pub stop-higher : (d : ℕ) (rs : List Row) (at : ℕ) → Searched d rs at → at < length rs → ascending rs ≡ true → d < (get_or rs at none).destination → row_for d rs ≡ none
stop-higher d rs at s h e k =
    let tail = drop-cons rs at none h in
    let a : ascending (get_or rs at none ∷ drop (suc at) rs) ≡ true = rw (← tail) (ascending-drop at rs e) in
    sym (found d rs at s) ∙ rw tail (none_above d (get_or rs at none) (drop (suc at) rs) a k)
