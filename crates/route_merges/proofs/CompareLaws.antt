-- How many rows a search compares, from where it stopped.
-- Assumes nothing.
use Rattle.octets.proofs.Words.{◌≡◌, ◌∙◌, true, false, and-eq-true_iff, List, [], ◌∷◌, ℕ, zero, suc, ◌+◌, ◌-◌, ◌≤◌, ◌<◌, dec_lt, arith, ne_eqb, lt-ltb, le-ltb, ltb-true, ltb-false, eqb-false, eqb, ltb, length, get_or, take, drop, drop_of_length-le, drop-cons, get_or-eq_default}
use mir.Val.{bool_byte}
use Rattle.octets.specs.Lists.{every}
use Rattle.octets.proofs.OrderLaws.{ascending-rest}
use Rattle.octets.proofs.TestLaws.{neither, by_bool, of_choice}
use Rattle.route_table.specs.declared.row.Row.{Row}
use Rattle.route_table.specs.Rows.{leading_to, none, ascending, pad}
use Rattle.route_merges.specs.Comparing.{lower, compared}
use Rattle.route_merges.specs.Searching.{stops}
use Rattle.route_merges.proofs.PadLaws.{pad-at, within_used}
use Rattle.route_merges.proofs.SearchLaws.{below, Searched, ascending-drop}
use Rattle.route_table.proofs.StandingLaws.{used}

-- rows as a table has them: in use, ascending, at most 48
pub record Sound (rs : List Row) : Type 0 where
  pub in_use : every used rs ≡ true
  pub ascends : ascending rs ≡ true
  pub fits : length rs ≤ 48

-- ---- what the test of a row says
module _ (d : ℕ) (some : 0 < d) (r : Row) where
  -- one that the search passes is lower
  pub lower-row : stops d r ≡ false → (0 < r.destination) × (r.destination < d)
  lower-row e =
      let (used_here, low) = neither (eqb r.destination 0) (ltb (d - 1) r.destination) e in
      (omega (arith, eqb-false r.destination 0 used_here), omega (arith, ltb-false (d - 1) r.destination low))

  -- one that ends it is not
  pub stop-row : stops d r ≡ true → 0 < r.destination → d ≤ r.destination
  stop-row e h =
      let high : ltb (d - 1) r.destination ≡ true = rw (ne_eqb r.destination 0 (omega arith)) at e in
      omega (arith, ltb-true (d - 1) r.destination high)

-- ---- the rows that are lower
pub lower-few : (d : ℕ) (rs : List Row) → lower d rs ≤ length rs
lower-few d [] = omega arith
lower-few d (r ∷ rs) =
    let few = lower-few d rs in
    of_choice (λ (n : ℕ). n ≤ suc (length rs)) (ltb r.destination d) (omega arith) (omega arith)

pub compared-few : (d : ℕ) (rs : List Row) → compared d rs ≤ length rs
compared-few d rs =
    by_bool _ (ltb (lower d rs) (length rs))
    (λ e. rw e (omega (arith, ltb-true (lower d rs) (length rs) e)))
    (λ e. rw e (omega (arith, lower-few d rs)))

-- behind lower rows only what is left matters
lower-behind : (d : ℕ) (rs : List Row) (at : ℕ) → at ≤ length rs → every (below d) (take at rs) ≡ true → lower d rs ≡ at + lower d (drop at rs)
unfolding every
lower-behind d rs zero h e = omega arith
lower-behind d [] (suc at) h e = absurd (omega arith)
lower-behind d (r ∷ rs) (suc at) h e =
    let (low, later) = (and-eq-true_iff (below d r) (every (below d) (take at rs))).0 e in
    rw low (omega (arith, lower-behind d rs at (omega arith) later))

-- of ascending rows that begin no lower than a destination, none is lower
none-lower : (d : ℕ) (r : Row) (rs : List Row) → ascending (r ∷ rs) ≡ true → d ≤ r.destination → lower d (r ∷ rs) ≡ 0
none-lower d r [] e h = rw (le-ltb r.destination d h)
none-lower d r (s ∷ rs) e h =
    let k = ltb-true r.destination s.destination ((and-eq-true_iff (ltb r.destination s.destination) (ascending (s ∷ rs))).0 e).0 in
    rw (le-ltb r.destination d h) (none-lower d s rs (ascending-rest leading_to r (s ∷ rs) e) (omega (arith, k)))

-- ---- where the search for a destination ended
-- past 48 rows
pub counted_all : (d : ℕ) (rs : List Row) → Searched d rs 48 → length rs ≡ 48 → 48 ≡ compared d rs
counted_all d rs s size =
    let all : lower d rs ≡ 48 = lower-behind d rs 48 (omega arith) s.lower ∙ rw (drop_of_length-le rs {i = 48} (omega arith)) (omega arith) in
    rw (all, size)

-- at a place that holds no lower row
module _ (d : ℕ) (some : 0 < d) (rs : List Row) (at : ℕ) (sound : Sound rs) (s : Searched d rs at) (stop : stops d (get_or (pad rs) at none) ≡ true) where
  abbrev seen : Row
  seen = get_or (pad rs) at none

  behind : lower d rs ≡ at + lower d (drop at rs)
  behind = lower-behind d rs at s.within s.lower

  -- so many rows were compared as the search had passed, and one more if there is one
  pub counted : compared d rs ≡ at + bool_byte (ltb 0 seen.destination)
  counted = go (dec_lt at (length rs))
    where
      go : Dec (at < length rs) → compared d rs ≡ at + bool_byte (ltb 0 seen.destination)
      go (yes h) =
          let used_here = within_used rs sound.in_use at h in
          let high : d ≤ (get_or rs at none).destination = rw (← pad-at rs at) (stop-row d some seen stop used_here) in
          let tail = drop-cons rs at none h in
          let rest : lower d (drop at rs) ≡ 0 = rw tail (none-lower d (get_or rs at none) (drop (suc at) rs) (rw (← tail) (ascending-drop at rs sound.ascends)) high) in
          let all : lower d rs ≡ at = omega (arith, behind, rest) in
          rw (all, lt-ltb at (length rs) h, lt-ltb 0 seen.destination used_here)
      go (no h) =
          let last : at ≡ length rs = omega (arith, s.within) in
          let empty : seen ≡ none = pad-at rs at ∙ get_or-eq_default rs none {n = at} (omega arith) in
          let all : lower d rs ≡ at = behind ∙ rw (drop_of_length-le rs {i = at} (omega arith)) (omega arith) in
          rw (all, le-ltb at (length rs) (omega arith), empty)
