-- The 48 places of a list of rows in use: what stands at a place, a store, a row moved in.
-- Assumes nothing.
use Rattle.octets.proofs.Words.{◌≡◌, refl, sym, ap, ◌∙◌, true, not, and-eq-true_iff, List, [], ◌∷◌, ◌++◌, append_assoc, ℕ, zero, suc, ◌-◌, ◌≤◌, ◌<◌, dec_lt, arith, ne_eqb, ltb-true, lt-ltb, le-ltb, ltb, length, get_or, take, drop, set, replicate, length-append, length-set, length-take, length-drop, get_or-eq_default, set-append_left, take-append-le, drop-append-le}
use Rattle.octets.specs.Lists.{every}
use Rattle.octets.proofs.ListLaws.{every_drop}
use Rattle.route_table.specs.declared.row.Row.{Row}
use Rattle.route_table.specs.Rows.{none, pad}
use Rattle.route_table.proofs.StandingLaws.{used}
use Rattle.route_merges.specs.Searching.{pushed, moved_in}

pub used_at : (rs : List Row) (at : ℕ) → every used rs ≡ true → at < length rs → 0 < (get_or rs at none).destination
unfolding every
used_at [] at e h = absurd (omega arith)
used_at (r ∷ rs) zero e h = ltb-true 0 r.destination ((and-eq-true_iff (used r) (every used rs)).0 e).0
used_at (r ∷ rs) (suc at) e h = used_at rs at ((and-eq-true_iff (used r) (every used rs)).0 e).1 (omega arith)

none-at : (k at : ℕ) → get_or (replicate k none) at none ≡ none
none-at zero zero = refl
none-at zero (suc at) = refl
none-at (suc k) zero = refl
none-at (suc k) (suc at) = none-at k at

place_at_lem : (rs : List Row) (k at : ℕ) → get_or (rs ++ replicate k none) at none ≡ get_or rs at none
place_at_lem [] k zero = none-at k zero
place_at_lem [] k (suc at) = none-at k (suc at)
place_at_lem (r ∷ rs) k zero = refl
place_at_lem (r ∷ rs) k (suc at) = place_at_lem rs k at

pub pad-at : (rs : List Row) (at : ℕ) → get_or (pad rs) at none ≡ get_or rs at none
unfolding pad
pad-at rs at = place_at_lem rs (48 - length rs) at

module _ (rs : List Row) (u : every used rs ≡ true) (at : ℕ) where
  -- a place is in use exactly if a row stands there
  pub used_within : 0 < (get_or (pad rs) at none).destination → at < length rs
  used_within h = go (dec_lt at (length rs))
    where
      go : Dec (at < length rs) → at < length rs
      go (yes k) = k
      go (no k) =
          let z : get_or rs at none ≡ none = get_or-eq_default rs none {n = at} (omega arith) in
          absurd (omega (arith, h, ap (λ (r : Row). r.destination) (pad-at rs at ∙ z)))

  pub within_used : at < length rs → 0 < (get_or (pad rs) at none).destination
  within_used h = rw (pad-at rs at) (used_at rs at u h)

-- the last place is in use exactly if 48 rows stand
pub full : (rs : List Row) → every used rs ≡ true → length rs ≤ 48 → ltb 0 (get_or (pad rs) 47 none).destination ≡ not (ltb (length rs) 48)
full rs u f = go (dec_lt 47 (length rs))
  where
    go : Dec (47 < length rs) → ltb 0 (get_or (pad rs) 47 none).destination ≡ not (ltb (length rs) 48)
    go (yes k) = rw (lt-ltb 0 (get_or (pad rs) 47 none).destination (within_used rs u 47 k), le-ltb (length rs) 48 (omega arith))
    go (no k) =
        let z : get_or rs 47 none ≡ none = get_or-eq_default rs none {n = 47} (omega arith) in
        rw (pad-at rs 47, z, lt-ltb (length rs) 48 (omega arith))

pub set-pad : (rs : List Row) (at : ℕ) (w : Row) → at < length rs → set (pad rs) at w ≡ pad (set rs at w)
unfolding pad
set-pad rs at w h = rw (set-append_left rs (replicate (48 - length rs) none) at w h, length-set)

-- a row pushed in before rows in use with a free place behind them
pushed_free : (w : Row) (xs zs : List Row) → every used xs ≡ true → pushed w (xs ++ (none ∷ zs)) ≡ w ∷ (xs ++ zs)
unfolding every
pushed_free w [] zs u = refl
pushed_free w (x ∷ xs) zs u =
    let (here, later) = (and-eq-true_iff (used x) (every used xs)).0 u in
    let k = ltb-true 0 x.destination here in
    rw (ne_eqb x.destination 0 (omega (arith, k)), pushed_free x xs zs later)

-- a row moved in where there is room
pub moved-pad : (rs : List Row) (at : ℕ) (w : Row) → every used rs ≡ true → at ≤ length rs → length rs < 48 → moved_in (pad rs) at w ≡ pad (take at rs ++ (w ∷ drop at rs))
unfolding pad
moved-pad rs at w u h room =
    let k = 48 - suc (length rs) in
    let free : 48 - length rs ≡ suc k = omega arith in
    let size : length (take at rs ++ (w ∷ drop at rs)) ≡ suc (length rs) =
    omega (arith, length-append (take at rs) (w ∷ drop at rs), length-take at rs, length-drop at rs) in
    rw (
      free,
      size,
      take-append-le at rs (none ∷ replicate k none) h,
      drop-append-le at rs (none ∷ replicate k none) h,
      pushed_free w (drop at rs) (replicate k none) (every_drop used at rs u),
    ) (sym (append_assoc (take at rs) (w ∷ drop at rs) (replicate k none)))
