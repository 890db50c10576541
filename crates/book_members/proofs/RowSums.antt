-- Sums over the rows of a book. Rows that are free, slots held, rows of a unit, owners of a slot are each a sum, and to write a row changes one term.
-- Assumes nothing.
use Rattle.octets.proofs.Words.{◌≡◌, refl, sym, ap, ap₂, ◌∙◌, Bool, true, false, not, ◌&&◌, ◌||◌, cond, false≢true, and-eq-true_iff, List, [], ◌∷◌, map, ℕ, zero, suc, ◌+◌, ◌≤◌, ◌<◌, ℕ_discrete, one-add, arith, eq-eqb, ne_eqb, eqb-true, eqb-false, not-true, not-false, eqb, eqb-suc-suc, length, set}
use Rattle.octets.specs.Lists.{every}
use Rattle.octets.proofs.TestLaws.{of_choice}
use Rattle.slot_sets.specs.Sets.{has, Subset, disjoint}
use Rattle.slot_sets.proofs.SetLaws.{union-has, nothing-has, disjoint_is_apart}
use Rattle.book_members.specs.Members.{Row, empty_row, vacant_row, kept, current, held_slots, vacant}
use Rattle.book_members.specs.Rules.{unknown_in, distinct, apart}
use Rattle.book_members.proofs.RowLaws.{row, kept_either}

-- the weights of all rows together
unfoldable pub weigh : (Row → ℕ) → List Row → ℕ
weigh w [] = 0
weigh w (r ∷ rs) = w r + weigh w rs

-- to write a row changes its term
pub weigh_set : (w : Row → ℕ) (rs : List Row) (at : ℕ) (r : Row) → at < length rs
    → weigh w (set rs at r) + w (row rs at) ≡ weigh w rs + w r
unfolding weigh
weigh_set w [] at r h = absurd (omega arith)
weigh_set w (a ∷ rs) zero r h = omega arith
weigh_set w (a ∷ rs) (suc at) r h = omega (arith, weigh_set w rs at r (omega arith))

-- each row's weight is among them
pub weigh_at : (w : Row → ℕ) (rs : List Row) (at : ℕ) → at < length rs → w (row rs at) ≤ weigh w rs
unfolding weigh
weigh_at w [] at h = absurd (omega arith)
weigh_at w (a ∷ rs) zero h = omega arith
weigh_at w (a ∷ rs) (suc at) h = omega (arith, weigh_at w rs at (omega arith))

-- and so are those of two rows
weigh_two : (w : Row → ℕ) (rs : List Row) (i j : ℕ) → (i ≡ j → ⊥) → i < length rs → j < length rs → w (row rs i) + w (row rs j) ≤ weigh w rs
unfolding weigh
weigh_two w [] i j n h l = absurd (omega arith)
weigh_two w (a ∷ rs) zero zero n h l = absurd (n refl)
weigh_two w (a ∷ rs) zero (suc j) n h l = omega (arith, weigh_at w rs j (omega arith))
weigh_two w (a ∷ rs) (suc i) zero n h l = omega (arith, weigh_at w rs i (omega arith))
weigh_two w (a ∷ rs) (suc i) (suc j) n h l = omega (arith, weigh_two w rs i j (λ e. n (ap suc e)) (omega arith) (omega arith))

-- rows changed in what has no weight
pub weigh_map : (w : Row → ℕ) (f : Row → Row) → ((r : Row) → w (f r) ≡ w r) → (rs : List Row) → weigh w (map f rs) ≡ weigh w rs
unfolding weigh
weigh_map w f h [] = refl
weigh_map w f h (r ∷ rs) = ap₂ ◌+◌ (h r) (weigh_map w f h rs)

-- ---- silent rows dropped
-- where no row weighs less than an empty one, dropping adds no weight
weigh_dropped : (w : Row → ℕ) (test : Row → Bool) → ((r : Row) → test r ≡ true → w empty_row ≤ w r)
    → (time : ℕ) (rs : List Row) → every test rs ≡ true → weigh w (map (kept time) rs) ≤ weigh w rs
unfolding weigh every
weigh_dropped w test least time [] e = omega arith
weigh_dropped w test least time (r ∷ rs) e =
    let (here, later) = (and-eq-true_iff (test r) (every test rs)).0 e in
    let one : w (kept time r) ≤ w r = kept_either (λ k. w k ≤ w r) time r (λ e. omega arith) (least r here) in
    omega (arith, one, weigh_dropped w test least time rs later)

pub weigh_current : (w : Row → ℕ) (test : Row → Bool) → ((r : Row) → test r ≡ true → w empty_row ≤ w r)
    → (time : ℕ) (rs : List Row) → every test rs ≡ true → weigh w (current time rs) ≤ weigh w rs
unfolding weigh current every
weigh_current w test least time [] e = omega arith
weigh_current w test least time (r ∷ rs) e =
    omega (arith, weigh_dropped w test least time rs ((and-eq-true_iff (test r) (every test rs)).0 e).1)

-- ---- how many rows pass a test
abbrev pub one : (Row → Bool) → Row → ℕ
one test r = cond (test r) 1 0

abbrev pub tally : (Row → Bool) → List Row → ℕ
tally test rs = weigh (one test) rs

-- one row more, which passes or does not
module _ (test : Row → Bool) (r : Row) (rs : List Row) where
  pub tally_pass : test r ≡ true → tally test (r ∷ rs) ≡ suc (tally test rs)
  unfolding weigh
  tally_pass e = rw e (omega arith)

  pub tally_skip : test r ≡ false → tally test (r ∷ rs) ≡ tally test rs
  unfolding weigh
  tally_skip e = rw e (omega arith)

  -- at most one passes: if it is this one, none behind it
  pub alone_more : (test r ≡ true → tally test rs ≡ 0) → tally test rs ≤ 1 → tally test (r ∷ rs) ≤ 1
  alone_more h l = go (test r) refl
    where
      go : (b : Bool) → test r ≡ b → tally test (r ∷ rs) ≤ 1
      go true e = omega (arith, tally_pass e, h e)
      go false e = omega (arith, tally_skip e)

  pub alone_here : tally test (r ∷ rs) ≤ 1 → test r ≡ true → tally test rs ≡ 0
  alone_here l e = omega (arith, tally_pass e)

  pub alone-behind : tally test (r ∷ rs) ≤ 1 → tally test rs ≤ 1
  unfolding weigh
  alone-behind l = omega arith

-- every row passes exactly if as many pass as there are
module _ (test : Row → Bool) where
  tally_most : (rs : List Row) → tally test rs ≤ length rs
  unfolding weigh
  tally_most [] = omega arith
  tally_most (r ∷ rs) = omega (arith, tally_most rs, of_choice (λ n. n ≤ 1) (test r) {x = 1} {y = 0} (omega arith) (omega arith))

  every_tally : (rs : List Row) → every test rs ≡ eqb (tally test rs) (length rs)
  unfolding every weigh
  every_tally [] = refl
  every_tally (r ∷ rs) = go (test r) (every_tally rs)
    where
      go : (b : Bool) → every test rs ≡ eqb (tally test rs) (length rs) → (b && every test rs) ≡ eqb (cond b 1 0 + tally test rs) (suc (length rs))
      go true ih = rw one-add (ih ∙ sym (eqb-suc-suc (tally test rs) (length rs)))
      go false ih = sym (ne_eqb (0 + tally test rs) (suc (length rs)) (λ z. omega (arith, z, tally_most rs)))

  pub every-many : (rs : List Row) (m n : ℕ) → m ≡ tally test rs → length rs ≡ n → every test rs ≡ eqb m n
  every-many rs m n p q = every_tally rs ∙ ap₂ eqb (sym p) q

-- where no empty row passes, the places that do are rows; and if at most one passes, they are one place
module _ (test : Row → Bool) (empty : test empty_row ≡ false) where
  pub passes_there : (rs : List Row) (i : ℕ) → test (row rs i) ≡ true → i < length rs
  passes_there [] i e = absurd (false≢true (sym empty ∙ e))
  passes_there (r ∷ rs) zero e = omega arith
  passes_there (r ∷ rs) (suc i) e = omega (arith, passes_there rs i e)

  pub only_one : (rs : List Row) → tally test rs ≤ 1 → (i j : ℕ) → test (row rs i) ≡ true → test (row rs j) ≡ true → i ≡ j
  only_one rs l i j p q = go (ℕ_discrete i j)
    where
      go : Dec (i ≡ j) → i ≡ j
      go (yes e) = e
      go (no n) =
          let two : 1 + 1 ≤ tally test rs = rw (p, q) at (weigh_two (one test) rs i j n (passes_there rs i p) (passes_there rs j q)) in
          absurd (omega (arith, two))

-- a question that asks row by row whether one passes
pub some_tally : (test : Row → Bool) (some : List Row → Bool) → some [] ≡ false → ((r : Row) (rs : List Row) → some (r ∷ rs) ≡ (test r || some rs))
    → (rs : List Row) → some rs ≡ not (eqb (tally test rs) 0)
unfolding weigh
some_tally test some none more [] = none
some_tally test some none more (r ∷ rs) = go (some_tally test some none more rs) (test r) refl
  where
    go : some rs ≡ not (eqb (tally test rs) 0) → (b : Bool) → test r ≡ b → some (r ∷ rs) ≡ not (eqb (tally test (r ∷ rs)) 0)
    go ih true e =
        let z = ne_eqb (tally test (r ∷ rs)) 0 (λ z. omega (arith, z, tally_pass test r rs e)) in
        more r rs ∙ rw (z, e)
    go ih false e = more r rs ∙ rw (tally_skip test r rs e, e, ih)

-- ---- rows of a unit
abbrev pub of_unit : ℕ → Row → Bool
of_unit unit r = eqb r.unit unit

known_tally : (unit : ℕ) (rs : List Row) → not (unknown_in unit rs) ≡ not (eqb (tally (of_unit unit) rs) 0)
known_tally unit = some_tally (of_unit unit) (λ rs. not (unknown_in unit rs)) refl (λ r rs. go (of_unit unit r) (unknown_in unit rs))
  where
    go : (a b : Bool) → not (not a && b) ≡ (a || not b)
    go true b = refl
    go false b = refl

not-not : (a b : Bool) → not a ≡ not b → a ≡ b
not-not true true e = refl
not-not true false e = absurd (false≢true e)
not-not false true e = absurd (false≢true (sym e))
not-not false false e = refl

pub unknown_tally : (unit : ℕ) (rs : List Row) → unknown_in unit rs ≡ eqb (tally (of_unit unit) rs) 0
unknown_tally unit rs = not-not _ _ (known_tally unit rs)

-- free rows are those of unit 0
pub vacant_tally : (rs : List Row) → vacant rs ≡ tally (of_unit 0) rs
unfolding weigh vacant
vacant_tally [] = refl
vacant_tally (r ∷ rs) = ap (λ (n : ℕ). one vacant_row r + n) (vacant_tally rs)

-- units are distinct exactly if each has at most one row
pub distinct_tally : (rs : List Row) → distinct rs ≡ true → (unit : ℕ) → (unit ≡ 0 → ⊥) → tally (of_unit unit) rs ≤ 1
unfolding weigh
distinct_tally [] e unit z = omega arith
distinct_tally (r ∷ rs) e unit z =
    let (here, later) = (and-eq-true_iff (vacant_row r || unknown_in r.unit rs) (distinct rs)).0 e in
    alone_more (of_unit unit) r rs (λ same. go here (eqb-true r.unit unit same)) (distinct_tally rs later unit z)
  where
    go : (vacant_row r || unknown_in r.unit rs) ≡ true → r.unit ≡ unit → tally (of_unit unit) rs ≡ 0
    go h same =
        let there : unknown_in unit rs ≡ true = rw (same, ne_eqb unit 0 z) at h in
        eqb-true (tally (of_unit unit) rs) 0 (sym (unknown_tally unit rs) ∙ there)

pub tally_distinct : (rs : List Row) → ((unit : ℕ) → (unit ≡ 0 → ⊥) → tally (of_unit unit) rs ≤ 1) → distinct rs ≡ true
tally_distinct [] h = refl
tally_distinct (r ∷ rs) h =
    (and-eq-true_iff (vacant_row r || unknown_in r.unit rs) (distinct rs)).1
    (go (vacant_row r) refl, tally_distinct rs (λ unit z. alone-behind (of_unit unit) r rs (h unit z)))
  where
    go : (b : Bool) → vacant_row r ≡ b → (b || unknown_in r.unit rs) ≡ true
    go true e = refl
    go false e =
        let none = alone_here (of_unit r.unit) r rs (h r.unit (eqb-false r.unit 0 e)) (eq-eqb r.unit r.unit refl) in
        unknown_tally r.unit rs ∙ eq-eqb (tally (of_unit r.unit) rs) 0 none

-- ---- owners of a slot
abbrev pub owns : ℕ → Row → Bool
owns slot r = has r.slots slot

pub held_tally : (slot : ℕ) (rs : List Row) → has (held_slots rs) slot ≡ not (eqb (tally (owns slot) rs) 0)
unfolding held_slots
held_tally slot = some_tally (owns slot) (λ rs. has (held_slots rs) slot) (nothing-has 64 slot) (λ r rs. union-has 64 r.slots (held_slots rs) slot)

module _ (slot : ℕ) (rs : List Row) where
  pub held-some : has (held_slots rs) slot ≡ true → 1 ≤ tally (owns slot) rs
  held-some e =
      let some = eqb-false (tally (owns slot) rs) 0 (not-true (eqb (tally (owns slot) rs) 0) (sym (held_tally slot rs) ∙ e)) in
      omega (arith, some)

  pub held_none : has (held_slots rs) slot ≡ false → tally (owns slot) rs ≡ 0
  held_none e = eqb-true (tally (owns slot) rs) 0 (not-false (eqb (tally (owns slot) rs) 0) (sym (held_tally slot rs) ∙ e))

-- what a row has is held
pub own_held : (rs : List Row) (at : ℕ) → at < length rs → Subset (row rs at).slots (held_slots rs)
own_held rs at h slot e =
    let one_owner : 1 ≤ tally (owns slot) rs = rw e at (weigh_at (one (owns slot)) rs at h) in
    held_tally slot rs ∙ ap not (ne_eqb (tally (owns slot) rs) 0 (λ z. omega (arith, z, one_owner)))

-- sets are disjoint exactly if each slot has at most one owner
pub apart_tally : (rs : List Row) → apart rs ≡ true → (slot : ℕ) → tally (owns slot) rs ≤ 1
unfolding weigh
apart_tally [] e slot = omega arith
apart_tally (r ∷ rs) e slot =
    let (here, later) = (and-eq-true_iff (disjoint r.slots (held_slots rs)) (apart rs)).0 e in
    alone_more (owns slot) r rs (λ own. held_none slot rs (go (has (held_slots rs) slot) ((disjoint_is_apart 64 r.slots (held_slots rs)).0 here slot own))) (apart_tally rs later slot)
  where
    go : (b : Bool) → (b ≡ true → ⊥) → b ≡ false
    go true h = absurd (h refl)
    go false h = refl

pub tally_apart : (rs : List Row) → ((slot : ℕ) → tally (owns slot) rs ≤ 1) → apart rs ≡ true
tally_apart [] h = refl
tally_apart (r ∷ rs) h =
    (and-eq-true_iff (disjoint r.slots (held_slots rs)) (apart rs)).1 (
      (disjoint_is_apart 64 r.slots (held_slots rs)).1 (λ slot own there. omega (arith, held-some slot rs there, alone_here (owns slot) r rs (h slot) own)),
      tally_apart rs (λ slot. alone-behind (owns slot) r rs (h slot)),
    )
