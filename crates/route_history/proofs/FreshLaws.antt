-- Freshness: a row that is not withdrawn is at least as old as the last accepted update from its next hop.
-- Assumes nothing.
use Rattle.octets.proofs.Words.{◌≡◌, refl, sym, subst, Bool, true, false, not, ◌||◌, cond, and-eq-true_iff, false≢true, List, [], ◌∷◌, ℕ, ◌+◌, ◌≤◌, arith, le-leb, leb-true, not-true, leb}
use Rattle.moments.specs.Elapsed.{now_at, Clock}
use Rattle.moments.specs.Moments.{age_at, in_order}
use Rattle.moments.proofs.MomentLaws.{ages_add}
use Rattle.route_table.specs.declared.row.Row.{Row}
use Rattle.route_table.specs.declared.table.Table.{Table}
use Rattle.route_table.specs.Rows.{left_at, row_rule, forgotten, row_for}
use Rattle.route_table.specs.Tables.{rows_of, lookup_of}
use Rattle.route_table.proofs.KeepLaws.{by-forgotten}
use Rattle.route_table.proofs.LookupLaws.{Led, led, led_every}
use Rattle.route_table.proofs.RuleLaws.{ruled}
use Rattle.route_table.proofs.TableLaws.{within}
use Rattle.route_merges.specs.declared.candidate.Candidate.{Candidate}
use Rattle.route_merges.specs.Learning.{row_by}
use Rattle.route_merges.proofs.LearnLaws.{Kept}
use Rattle.route_history.specs.TableLaws.{Times, Heard, since, borne, before, Accounts}

-- ---- time passes
since-on : (now age more : ℕ) (times : List ℕ) → since now age times ≡ true → since (now + more) (more + age) times ≡ true
since-on now age more [] b = absurd (false≢true b)
since-on now age more (last ∷ earlier) b = le-leb (now + more) (last + (more + age)) (omega (arith, leb-true now (last + age) b))

-- a row of the past stays borne, as it ages as long as time passes
pub borne-later : (now last time : ℕ) (times : Times) (r : Row) → in_order last time ≡ true → in_order r.time last ≡ true
    → borne now last times r ≡ true → borne (now + age_at time last) time times r ≡ true
borne-later now last time times r o past b = rw (ages_add r.time last time past o) (go r.withdrawn b)
  where
    go : (w : Bool) → (w || since now (age_at last r.time) (times r.next_hop)) ≡ true
        → (w || since (now + age_at time last) (age_at time last + age_at last r.time) (times r.next_hop)) ≡ true
    go true b = refl
    go false b = since-on now (age_at last r.time) (age_at time last) (times r.next_hop) b

-- ---- a unit is heard
module _ (brings : ℕ → Bool) (at time : ℕ) (times : Times) where
  abbrev pub grown : Times
  grown = λ unit. cond (brings unit) (at ∷ times unit) (times unit)

  -- a row stays borne
  pub borne-on : (r : Row) → borne at time times r ≡ true → borne at time grown r ≡ true
  borne-on r b = go r.withdrawn (brings r.next_hop) b
    where
      go : (w same : Bool) → (w || since at (age_at time r.time) (times r.next_hop)) ≡ true
          → (w || since at (age_at time r.time) (cond same (at ∷ times r.next_hop) (times r.next_hop))) ≡ true
      go true same b = refl
      go false true b = le-leb at (at + age_at time r.time) (omega arith)
      go false false b = b

  -- a row by that unit is borne by it
  pub borne-new : (from : ℕ) → brings from ≡ true → (c : Candidate) → borne at time grown (row_by from time c) ≡ true
  borne-new from e c = rw e (le-leb at (at + age_at time time) (omega arith))

  pub before_on : (unit : ℕ) → before at (times unit) ≡ true → before at (grown unit) ≡ true
  before_on unit e = go (brings unit)
    where
      go : (b : Bool) → before at (cond b (at ∷ times unit) (times unit)) ≡ true
      go true = rw (le-leb at at (omega arith)) e
      go false = e

-- a row that is withdrawn needs no bearer
pub borne-kept : (now : ℕ) (times : Times) (via time : ℕ) (c : Candidate) → borne now time times (row_by via time c) ≡ true → Kept (borne now time times) via time c
borne-kept now times via time c b = record { new = λ e. b; back = λ r e. refl }

pub borne-forgotten : (now : ℕ) (times : Times) (unit time : ℕ) (r : Row) → borne now time times r ≡ true → borne now time times (forgotten unit time r) ≡ true
borne-forgotten now times unit time r b = by-forgotten (λ x. borne now time times x ≡ true) unit time r b refl

-- ---- what was heard is past
pub before-later : (now later : ℕ) → now ≤ later → (heard : List ℕ) → before now heard ≡ true → before later heard ≡ true
before-later now later o [] e = refl
before-later now later o (last ∷ earlier) e =
    let (here, rest) = (and-eq-true_iff (leb last now) (before now earlier)).0 e in
    rw (le-leb last later (omega (arith, leb-true last now here))) (before-later now later o earlier rest)

-- ---- a lookup's next hop was heard
module _ (t : Table) (k : Clock) (times : Times) (a : Accounts t k times) (d time : ℕ) (z : (lookup_of t d time).refused ≡ 0) where
  abbrev row : Row
  row = row_for d (rows_of t)

  f : Led t d time
  f = led t d time z

  by_last : (ts : List ℕ) → times row.next_hop ≡ ts → age_at time row.time ≤ 300000 → age_at time row.time ≡ age_at time t.time + age_at t.time row.time
      → since k.elapsed (age_at t.time row.time) ts ≡ true → before k.elapsed ts ≡ true → Heard (times row.next_hop) (k.elapsed + age_at time t.time) (left_at time row)
  by_last [] q young adds b e = absurd (false≢true b)
  by_last (last ∷ earlier) q young adds b e =
      let l = leb-true last k.elapsed ((and-eq-true_iff (leb last k.elapsed) (before k.elapsed earlier)).0 e).0 in
      let m = leb-true k.elapsed (last + age_at t.time row.time) b in
      record { last = last; earlier = earlier; were = q; past = omega arith; recent = omega arith }

  pub heard : Heard (times row.next_hop) (now_at k time) (left_at time row)
  heard =
      let (live, young) = (and-eq-true_iff (not row.withdrawn) (leb (age_at time row.time) 300000)).0 f.carries in
      let past = (ruled t.own t.time row (led_every t d time z (row_rule t.own t.time) (within t f.within).rules)).past in
      let b = led_every t d time z (borne k.elapsed t.time times) a.rows in
      subst (λ (last : ℕ). Heard (times row.next_hop) (k.elapsed + age_at time last) (left_at time row)) (sym a.shown)
      (by_last (times row.next_hop) refl (leb-true _ _ young) (ages_add row.time t.time time past f.timely)
      (rw (not-true row.withdrawn live) at b) (a.past row.next_hop))
