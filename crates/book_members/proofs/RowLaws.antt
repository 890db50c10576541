-- Rows one by one: a test that every row passes, silent rows dropped, one row written, the rows at a time.
-- Assumes nothing.
use Rattle.octets.proofs.Words.{◌≡◌, refl, sym, ap, ap₂, ◌∙◌, Bool, true, false, cond, and-eq-true_iff, List, [], ◌∷◌, map, ◌⊎◌, inl, inr, ℕ, zero, suc, ℕ_discrete, arith, le-leb, lt-leb, leb-true, leb-false, leb, length, get_or, set, drop, length-map, get_or-map}
use Rattle.octets.specs.Lists.{every}
use Rattle.octets.proofs.ListLaws.{every_map}
use Rattle.octets.proofs.TestLaws.{of-cond}
use Rattle.moments.specs.Moments.{age_at, in_order}
use Rattle.moments.proofs.MomentLaws.{no_age, older_on}
use Rattle.book_members.specs.Members.{Row, empty_row, kept, current}

-- the row at a place, zeros past the end
abbrev pub row : List Row → ℕ → Row
row rs i = get_or rs i empty_row

-- ---- every row
pub every_set : (test : Row → Bool) (rs : List Row) (at : ℕ) (r : Row) → test r ≡ true → every test rs ≡ true → every test (set rs at r) ≡ true
unfolding every
every_set test [] at r h e = refl
every_set test (a ∷ rs) zero r h e = (and-eq-true_iff (test r) (every test rs)).1 (h, ((and-eq-true_iff (test a) (every test rs)).0 e).1)
every_set test (a ∷ rs) (suc at) r h e =
    let (here, later) = (and-eq-true_iff (test a) (every test rs)).0 e in
    (and-eq-true_iff (test a) (every test (set rs at r))).1 (here, every_set test rs at r h later)

-- ---- silent rows dropped
-- what holds of a row where it is live, and of an empty one, holds of the row that is kept
pub kept_either : (P : Row → Type 0) (time : ℕ) (r : Row) → (leb (age_at time r.time) 300000 ≡ true → P r) → P empty_row → P (kept time r)
kept_either P time r p q = of-cond P (leb (age_at time r.time) 300000) r empty_row p (λ e. q)

every-dropped : (test : Row → Bool) → test empty_row ≡ true → (time : ℕ) (rs : List Row) → every test rs ≡ true → every test (map (kept time) rs) ≡ true
every-dropped test empty time = every_map test test (kept time) (λ r here. kept_either (λ k. test k ≡ true) time r (λ e. here) empty)

pub every-current : (test : Row → Bool) → test empty_row ≡ true → (time : ℕ) (rs : List Row) → every test rs ≡ true → every test (current time rs) ≡ true
unfolding every current
every-current test empty time [] e = refl
every-current test empty time (r ∷ rs) e =
    let (here, later) = (and-eq-true_iff (test r) (every test rs)).0 e in
    (and-eq-true_iff (test r) (every test (map (kept time) rs))).1 (here, every-dropped test empty time rs later)

pub length-current : (time : ℕ) (rs : List Row) → length (current time rs) ≡ length rs
unfolding current
length-current time [] = refl
length-current time (r ∷ rs) = ap suc (length-map rs (kept time))

-- the rows behind a place stay as they must be
pub every-behind : (test : Row → Bool) → test empty_row ≡ true → (time n : ℕ) (rs : List Row) → every test (drop n rs) ≡ true → every test (drop n (current time rs)) ≡ true
unfolding current
every-behind test empty time zero rs e = every-current test empty time rs e
every-behind test empty time (suc n) [] e = e
every-behind test empty time (suc n) (r ∷ rs) e = go n rs e
  where
    go : (n : ℕ) (rs : List Row) → every test (drop n rs) ≡ true → every test (drop n (map (kept time) rs)) ≡ true
    go zero rs e = every-dropped test empty time rs e
    go (suc n) [] e = e
    go (suc n) (r ∷ rs) e = go n rs e

-- a row of this time stays
pub kept_now : (time : ℕ) (r : Row) → r.time ≡ time → kept time r ≡ r
kept_now time r e = rw (e, no_age time)

-- ---- dropped twice
pub kept_empty : (time : ℕ) → kept time empty_row ≡ empty_row
kept_empty time = kept_either (λ k. k ≡ empty_row) time empty_row (λ e. refl) refl

-- a row's time is in order with the last accepted one, or the row is empty
abbrev pub Timed : ℕ → Row → Type 0
Timed last r = (r ≡ empty_row) ⊎ (in_order r.time last ≡ true)

-- two steps from the last accepted time that are one as well
pub record Steps (last time later : ℕ) : Type 0 where
  pub one : in_order last time ≡ true
  pub two : in_order time later ≡ true
  pub both : in_order last later ≡ true

-- a row that is dropped at a time is dropped at every later one
abbrev pub DroppedOn : ℕ → ℕ → Row → Type 0
DroppedOn time later r = kept later (kept time r) ≡ kept later r

pub kept-later : (last time later : ℕ) → Steps last time later → (r : Row) → Timed last r → DroppedOn time later r
kept-later last time later s r (inl e) = rw (e, kept_empty time)
kept-later last time later s r (inr p) = go (leb (age_at time r.time) 300000) refl
  where
    go : (b : Bool) → leb (age_at time r.time) 300000 ≡ b → kept later (cond b r empty_row) ≡ kept later r
    go true e = refl
    go false e =
        let silent = lt-leb (age_at later r.time) 300000 (omega (arith, leb-false (age_at time r.time) 300000 e, older_on r.time last time later p s.one s.two s.both)) in
        kept_empty later ∙ rw silent

pub kept_again : (time : ℕ) (r : Row) → DroppedOn time time r
kept_again time r = go (leb (age_at time r.time) 300000) refl
  where
    go : (b : Bool) → leb (age_at time r.time) 300000 ≡ b → kept time (cond b r empty_row) ≡ cond b r empty_row
    go true e = rw e
    go false e = kept_empty time

cons : {a b : Row} {l m : List Row} → a ≡ b → l ≡ m → a ∷ l ≡ b ∷ m
cons p q = ap₂ ◌∷◌ p q

-- what a row written at a place is at a time: the first stays
abbrev pub kept_at : ℕ → ℕ → Row → Row
kept_at time zero r = r
kept_at time (suc at) r = kept time r

module _ (time later : ℕ) where
  dropped-later : (rs : List Row) → ((i : ℕ) → DroppedOn time later (row rs i)) → map (kept later) (map (kept time) rs) ≡ map (kept later) rs
  dropped-later [] d = refl
  dropped-later (a ∷ rs) d = cons (d 0) (dropped-later rs (λ i. d (suc i)))

  dropped-set : (rs : List Row) → ((i : ℕ) → DroppedOn time later (row rs i)) → (at : ℕ) (r : Row)
      → map (kept later) (set (map (kept time) rs) at r) ≡ set (map (kept later) rs) at (kept later r)
  dropped-set [] d at r = refl
  dropped-set (a ∷ rs) d zero r = cons refl (dropped-later rs (λ i. d (suc i)))
  dropped-set (a ∷ rs) d (suc at) r = cons (d 0) (dropped-set rs (λ i. d (suc i)) at r)

  -- the rows of a time, one of them written, are at a later time the rows of then, with the same one written
  pub current-set : (rs : List Row) → ((i : ℕ) → (i ≡ 0 → ⊥) → DroppedOn time later (row rs i)) → (at : ℕ) (r : Row)
      → current later (set (current time rs) at r) ≡ set (current later rs) at (kept_at later at r)
  unfolding current
  current-set [] d at r = refl
  current-set (a ∷ rs) d zero r = cons refl (dropped-later rs (λ i. d (suc i) (λ z. omega (arith, z))))
  current-set (a ∷ rs) d (suc at) r = cons refl (dropped-set rs (λ i. d (suc i) (λ z. omega (arith, z))) at r)

-- ---- the row at a place, at a time
pub first_stays : (time : ℕ) (rs : List Row) → row (current time rs) 0 ≡ row rs 0
unfolding current
first_stays time [] = refl
first_stays time (r ∷ rs) = refl

pub others-kept : (time : ℕ) (rs : List Row) (i : ℕ) → (i ≡ 0 → ⊥) → row (current time rs) i ≡ kept time (row rs i)
unfolding current
others-kept time [] i n = sym (kept_empty time)
others-kept time (r ∷ rs) zero n = absurd (n refl)
others-kept time (r ∷ rs) (suc i) n = ap (get_or (map (kept time) rs) i) (sym (kept_empty time)) ∙ get_or-map (kept time) rs i empty_row

-- one that is some unit's then is the row as it was
pub still : (time : ℕ) (rs : List Row) (i : ℕ) → ((row (current time rs) i).unit ≡ 0 → ⊥) → row (current time rs) i ≡ row rs i
still time rs i = go (ℕ_discrete i 0)
  where
    go : Dec (i ≡ 0) → ((row (current time rs) i).unit ≡ 0 → ⊥) → row (current time rs) i ≡ row rs i
    go (yes z) = λ n. rw z (first_stays time rs)
    go (no z) = rw (others-kept time rs i z) (kept_either (λ k. (k.unit ≡ 0 → ⊥) → k ≡ row rs i) time (row rs i) (λ e n. refl) (λ n. absurd (n refl)))

-- and is so at every time before
pub live-before : (last time later : ℕ) → Steps last time later → (rs : List Row) → ((i : ℕ) → (i ≡ 0 → ⊥) → Timed last (row rs i)) → (i : ℕ)
    → ((row (current later rs) i).unit ≡ 0 → ⊥) → row (current time rs) i ≡ row (current later rs) i
live-before last time later s rs timed zero n = first_stays time rs ∙ sym (first_stays later rs)
live-before last time later s rs timed (suc i) n =
    let now = others-kept later rs (suc i) (λ z. omega (arith, z)) in
    others-kept time rs (suc i) (λ z. omega (arith, z)) ∙ (kept-before (row rs (suc i)) (timed (suc i) (λ z. omega (arith, z))) (rw now at n) ∙ sym now)
  where
    kept-before : (r : Row) → Timed last r → ((kept later r).unit ≡ 0 → ⊥) → kept time r ≡ kept later r
    kept-before r (inl e) = λ n. rw (e, kept_empty time, kept_empty later)
    kept-before r (inr p) =
        kept_either (λ k. (k.unit ≡ 0 → ⊥) → kept time r ≡ k) later r
        (λ e n. rw (le-leb (age_at time r.time) 300000 (omega (arith, leb-true (age_at later r.time) 300000 e, older_on r.time last time later p s.one s.two s.both))))
        (λ n. absurd (n refl))
