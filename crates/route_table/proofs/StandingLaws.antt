-- Rows that stand: the loop that looks for a gone one, and the places when it finds none.
-- Assumes nothing.
use Rattle.octets.proofs.Words.{◌≡◌, refl, sym, ap, ◌∙◌, Bool, true, false, cond, and-eq-true_iff, List, [], ◌∷◌, ◌++◌, ℕ, zero, suc, ◌+◌, ◌-◌, ◌≤◌, ◌<◌, ℕ_discrete, arith, eq-eqb, ne_eqb, lt-ltb, ltb-true, eqb, ltb, length, get_or, drop, replicate, length-append, length-replicate, drop-append_seam}
use Rattle.octets.specs.Lists.{every}
use Rattle.octets.proofs.OrderLaws.{ascending-rest, ascending-without}
use Rattle.route_table.specs.declared.row.Row.{Row}
use Rattle.route_table.specs.Rows.{leading_to, none, stands, is_none, ascending, in_use, pad, standing, standing_places}
use Rattle.route_table.proofs.RowLaws.{in_use_end, in_use-turn}

-- ---- looking for a row that is gone
module _ (time : ℕ) (rows : List Row) (i : ℕ) (h : i < length rows) (e : every (stands time) (in_use (drop i rows)) ≡ every (stands time) (in_use rows)) where
  pub stand_end : (get_or rows i none).destination ≡ 0 → true ≡ every (stands time) (in_use rows)
  unfolding every
  stand_end z = sym (ap (every (stands time)) (in_use_end rows i h z)) ∙ e

  module _ (z : (get_or rows i none).destination ≡ 0 → ⊥) where
    turned : every (stands time) (get_or rows i none ∷ in_use (drop (i + 1) rows)) ≡ every (stands time) (in_use rows)
    turned = sym (ap (every (stands time)) (in_use-turn rows i h z)) ∙ e

    pub stand_stop : stands time (get_or rows i none) ≡ false → false ≡ every (stands time) (in_use rows)
    unfolding every
    stand_stop q = sym (rw q) ∙ turned

    pub stand_on : stands time (get_or rows i none) ≡ true → every (stands time) (in_use (drop (i + 1) rows)) ≡ every (stands time) (in_use rows)
    unfolding every
    stand_on q = sym (rw q) ∙ turned

-- ---- rows that all stand
pub standing-all : (time : ℕ) (rs : List Row) → every (stands time) rs ≡ true → standing time rs ≡ rs
unfolding every
standing-all time [] e = refl
standing-all time (r ∷ rs) e =
    let (here, later) = (and-eq-true_iff (stands time r) (every (stands time) rs)).0 e in
    rw (here, standing-all time rs later)

-- the places of a list of rows, without those that are gone
pub standing-places : (time : ℕ) (places : List Row) → places ≡ pad (in_use places) → standing_places time places ≡ pad (standing time (in_use places))
unfolding standing_places
standing-places time places e = go (every (stands time) (in_use places)) refl
  where
    go : (b : Bool) → every (stands time) (in_use places) ≡ b → cond b places (pad (standing time (in_use places))) ≡ pad (standing time (in_use places))
    go true q = e ∙ ap pad (sym (standing-all time (in_use places) q))
    go false q = refl

-- ---- what the standing rows keep
pub standing_on : (test test' : Row → Bool) (time : ℕ) → ((r : Row) → stands time r ≡ true → test r ≡ true → test' r ≡ true) → (rs : List Row)
    → every test rs ≡ true → every test' (standing time rs) ≡ true
unfolding every
standing_on test test' time on [] e = refl
standing_on test test' time on (r ∷ rs) e =
    let (here, later) = (and-eq-true_iff (test r) (every test rs)).0 e in
    go (stands time r) refl here (standing_on test test' time on rs later)
  where
    go : (b : Bool) → stands time r ≡ b → test r ≡ true → every test' (standing time rs) ≡ true → every test' (cond b (r ∷ standing time rs) (standing time rs)) ≡ true
    go true q here later = rw (on r q here, later)
    go false q here later = later

pub standing-every : (test : Row → Bool) (time : ℕ) (rs : List Row) → every test rs ≡ true → every test (standing time rs) ≡ true
standing-every test time = standing_on test test time (λ r s e. e)

pub standing_shorter : (time : ℕ) (rs : List Row) → length (standing time rs) ≤ length rs
standing_shorter time [] = omega arith
standing_shorter time (r ∷ rs) = go (stands time r) (standing_shorter time rs)
  where
    go : (b : Bool) → length (standing time rs) ≤ length rs → length (cond b (r ∷ standing time rs) (standing time rs)) ≤ suc (length rs)
    go true h = omega arith
    go false h = omega arith

before-standing : (time : ℕ) (r : Row) (rs : List Row) → ascending (r ∷ rs) ≡ true → ascending (r ∷ standing time rs) ≡ true
before-standing time r [] e = refl
before-standing time r (s ∷ rs) e =
    go (stands time s) (before-standing time s rs (ascending-rest leading_to r (s ∷ rs) e)) (before-standing time r rs (ascending-without leading_to r s rs e))
  where
    go : (b : Bool) → ascending (s ∷ standing time rs) ≡ true → ascending (r ∷ standing time rs) ≡ true → ascending (r ∷ cond b (s ∷ standing time rs) (standing time rs)) ≡ true
    go true kept dropped = rw ((and-eq-true_iff (ltb r.destination s.destination) (ascending (s ∷ rs))).0 e).0 kept
    go false kept dropped = dropped

pub standing-ascending : (time : ℕ) (rs : List Row) → ascending rs ≡ true → ascending (standing time rs) ≡ true
standing-ascending time [] e = refl
standing-ascending time (r ∷ rs) e = go (stands time r) (before-standing time r rs e) (standing-ascending time rs (ascending-rest leading_to r rs e))
  where
    go : (b : Bool) → ascending (r ∷ standing time rs) ≡ true → ascending (standing time rs) ≡ true → ascending (cond b (r ∷ standing time rs) (standing time rs)) ≡ true
    go true kept dropped = kept
    go false kept dropped = dropped

-- ---- rows in use, and places
-- a row with a destination
abbrev pub used : Row → Bool
used r = ltb 0 r.destination

pub in_use_used : (places : List Row) → every used (in_use places) ≡ true
unfolding every
in_use_used [] = refl
in_use_used (r ∷ rs) = go (ℕ_discrete r.destination 0) (in_use_used rs)
  where
    go : Dec (r.destination ≡ 0) → every used (in_use rs) ≡ true → every used (cond (eqb r.destination 0) [] (r ∷ in_use rs)) ≡ true
    go (yes z) e = rw (eq-eqb r.destination 0 z)
    go (no z) e = rw (ne_eqb r.destination 0 z, lt-ltb 0 r.destination (omega arith)) e

in_use_shorter : (places : List Row) → length (in_use places) ≤ length places
in_use_shorter [] = omega arith
in_use_shorter (r ∷ rs) = go (eqb r.destination 0) (in_use_shorter rs)
  where
    go : (b : Bool) → length (in_use rs) ≤ length rs → length (cond b [] (r ∷ in_use rs)) ≤ suc (length rs)
    go true h = omega arith
    go false h = omega arith

pub in_use-fits : (places : List Row) → length places ≡ 48 → length (in_use places) ≤ 48
in_use-fits places e = omega (arith, in_use_shorter places)

in_use-zeros : (k : ℕ) → in_use (replicate k none) ≡ []
in_use-zeros zero = refl
in_use-zeros (suc k) = refl

in_use-before : (k : ℕ) (rs : List Row) → every used rs ≡ true → in_use (rs ++ replicate k none) ≡ rs
unfolding every
in_use-before k [] u = in_use-zeros k
in_use-before k (r ∷ rs) u =
    let (here, later) = (and-eq-true_iff (used r) (every used rs)).0 u in
    let h = ltb-true 0 r.destination here in
    rw (ne_eqb r.destination 0 (omega (arith, h)), in_use-before k rs later)

-- the places of a list of rows hold these rows, and zeros behind them
pub in_use-pad : (rs : List Row) → every used rs ≡ true → in_use (pad rs) ≡ rs
unfolding pad
in_use-pad rs u = in_use-before (48 - length rs) rs u

pub pad-length : (rs : List Row) → length rs ≤ 48 → length (pad rs) ≡ 48
unfolding pad
pad-length rs h = omega (arith, length-append rs (replicate (48 - length rs) none), length-replicate (48 - length rs) none)

zeros-none : (k : ℕ) → every is_none (replicate k none) ≡ true
unfolding every
zeros-none zero = refl
zeros-none (suc k) = zeros-none k

pub pad-zeros : (rs : List Row) → every is_none (drop (length rs) (pad rs)) ≡ true
unfolding pad
pad-zeros rs = rw (drop-append_seam rs (replicate (48 - length rs) none)) (zeros-none (48 - length rs))
