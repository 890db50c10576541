-- A table without the rows that are gone answers as the table does.
-- Assumes nothing.
use Rattle.octets.proofs.Words.{◌≡◌, refl, sym, ap, ◌∙◌, Bool, true, false, not, ◌&&◌, cond, and-eq-true_iff, false≢true, List, [], ◌∷◌, map, ℕ, arith, eq-eqb, ne_eqb, eqb-true, ltb-true, leb-false, lt-leb, eqb, leb, ltb}
use Rattle.octets.specs.Answers.{reason, first}
use Rattle.octets.specs.Lists.{every}
use Rattle.moments.specs.Moments.{age_at, in_order}
use Rattle.octets.specs.Addresses.{address}
use Rattle.octets.proofs.AddressLaws.{address-some}
use Rattle.octets.proofs.OrderLaws.{ascending-rest, ascending_above}
use Rattle.route_table.specs.declared.row.Row.{Row}
use Rattle.route_table.specs.declared.table.Table.{Table}
use Rattle.route_table.specs.Rows.{leading_to, none, usable, left_at, leads, stands, row_rule, forgotten, ascending, standing, row_for}
use Rattle.route_table.specs.Tables.{rows_of, within_rule, with_rows, dropped, lookup_of, forget_of, found_or}
use Rattle.route_table.proofs.RuleLaws.{within-pad}
use Rattle.route_table.proofs.StandingLaws.{used, in_use_used, in_use-pad, standing-every, standing-ascending}
use Rattle.route_table.proofs.TableLaws.{within, few_stand}

-- ---- the rows
pub standing-again : (time : ℕ) (rs : List Row) → standing time (standing time rs) ≡ standing time rs
standing-again time [] = refl
standing-again time (r ∷ rs) = go (stands time r) refl (standing-again time rs)
  where
    go : (b : Bool) → stands time r ≡ b → standing time (standing time rs) ≡ standing time rs
        → standing time (cond b (r ∷ standing time rs) (standing time rs)) ≡ cond b (r ∷ standing time rs) (standing time rs)
    go true q h = rw (q, h)
    go false q h = h

pub dropped-rows : (time : ℕ) (t : Table) → rows_of (dropped time t) ≡ standing time (rows_of t)
dropped-rows time t = in_use-pad (standing time (rows_of t)) (standing-every used time (rows_of t) (in_use_used t.rows))

pub dropped-standing : (time : ℕ) (t : Table) → standing time (rows_of (dropped time t)) ≡ standing time (rows_of t)
dropped-standing time t = ap (standing time) (dropped-rows time t) ∙ standing-again time (rows_of t)

pub dropped-within : (time : ℕ) (t : Table) → within_rule t ≡ true → within_rule (dropped time t) ≡ true
dropped-within time t e =
    let w = within t e in
    within-pad t.own t.time t.forwarded t.origin t.sequence (standing time (rows_of t)) w.unit w.pair (few_stand t e time)
    (standing-ascending time (rows_of t) w.ascends) (standing-every (row_rule t.own t.time) time (rows_of t) w.rules)

-- ---- one row looked up
usable-stands : (time : ℕ) (r : Row) → stands time r ≡ false → usable time r ≡ false
usable-stands time r e = go r.withdrawn (age_at time r.time) e
  where
    go : (w : Bool) (age : ℕ) → leb age (cond w 60000 360000) ≡ false → (not w && leb age 300000) ≡ false
    go true age e = refl
    go false age e = lt-leb age 300000 (omega (arith, leb-false age 360000 e))

-- a row that is not there
absent : (d : ℕ) (rs : List Row) → every (λ s. ltb d s.destination) rs ≡ true → row_for d rs ≡ none
unfolding every
absent d [] e = refl
absent d (r ∷ rs) e =
    let (here, later) = (and-eq-true_iff (ltb d r.destination) (every (λ s. ltb d s.destination) rs)).0 e in
    rw (ne_eqb r.destination d (λ z. omega (arith, ltb-true d r.destination here)), absent d rs later)

-- two lists answer a lookup alike
record Alike (time d : ℕ) (xs ys : List Row) : Type 0 where
  test : leads d time (row_for d xs) ≡ leads d time (row_for d ys)
  row : leads d time (row_for d ys) ≡ true → row_for d xs ≡ row_for d ys

alike_none : (time d : ℕ) → (d ≡ 0 → ⊥) → leads d time none ≡ false
alike_none time d h = rw (ne_eqb 0 d (λ z. h (sym z)))

alike : (time d : ℕ) → (d ≡ 0 → ⊥) → (rs : List Row) → ascending rs ≡ true → Alike time d (standing time rs) rs
alike time d h [] e = record { test = refl; row = λ f. refl }
alike time d h (r ∷ rs) e =
    go (eqb r.destination d) (stands time r) refl refl (alike time d h rs (ascending-rest leading_to r rs e))
    (standing-every (λ s. ltb r.destination s.destination) time rs (ascending_above leading_to r rs e))
  where
    go : (same stays : Bool) → eqb r.destination d ≡ same → stands time r ≡ stays → Alike time d (standing time rs) rs
        → every (λ s. ltb r.destination s.destination) (standing time rs) ≡ true
        → Alike time d (cond stays (r ∷ standing time rs) (standing time rs)) (r ∷ rs)
    go true true p q i a = record { test = rw p; row = λ f. rw p }
    go true false p q i a =
        let z : row_for d (standing time rs) ≡ none = absent d (standing time rs) (rw (eqb-true r.destination d p) at a) in
        let u = usable-stands time r q in
        record { test = rw (z, alike_none time d h, p, p, u); row = λ f. absurd (false≢true (rw (p, p, u) at f)) }
    go false true p q i a = record { test = rw p i.test; row = λ f. rw p (i.row (rw p at f)) }
    go false false p q i a = record { test = rw p i.test; row = λ f. rw p (i.row (rw p at f)) }

-- ---- the calls
answers : (time : ℕ) (a o x y : Bool) (p q : Row) → (a ≡ true → x ≡ y) → (a ≡ true → y ≡ true → p ≡ q)
    → found_or (first (reason false 14 ∷ reason (not a) 4 ∷ reason (not o) 8 ∷ reason (not x) 11 ∷ [])) p (left_at time p)
    ≡ found_or (first (reason false 14 ∷ reason (not a) 4 ∷ reason (not o) 8 ∷ reason (not y) 11 ∷ [])) q (left_at time q)
answers time false o x y p q f g = refl
answers time true false x y p q f g = refl
answers time true true x true p q f g = rw (f refl, g refl refl)
answers time true true x false p q f g = rw (f refl)

given : (n : ℕ) (new old : Table) → n ≡ 0 → cond (eqb n 0) new old ≡ new
given n new old z = rw (eq-eqb n 0 z)

module _ (time : ℕ) (t : Table) (e : within_rule t ≡ true) where
  pub dropped-lookup : (d : ℕ) → lookup_of (dropped time t) d time ≡ lookup_of t d time
  unfolding lookup_of
  dropped-lookup d =
      let same : (d ≡ 0 → ⊥) → Alike time d (standing time (rows_of t)) (rows_of t) = λ h. alike time d h (rows_of t) (within t e).ascends in
      rw (dropped-within time t e, e, dropped-rows time t)
      (answers time (address d) (in_order t.time time) _ _ _ _ (λ a. (same (address-some d a)).test)
      (λ a. (same (address-some d a)).row))

  pub dropped-forget : (unit : ℕ) → (forget_of (dropped time t) unit time).refused ≡ (forget_of t unit time).refused
  unfolding forget_of
  dropped-forget unit = rw (dropped-within time t e, e)

  pub dropped_forgets : (unit : ℕ) → (forget_of t unit time).refused ≡ 0 → (forget_of (dropped time t) unit time).table ≡ (forget_of t unit time).table
  unfolding forget_of
  dropped_forgets unit z =
      let same = ap (λ (rs : List Row). with_rows t time (map (forgotten unit time) rs)) (dropped-standing time t) in
      given (forget_of (dropped time t) unit time).refused _ _ (dropped-forget unit ∙ z) ∙ (same ∙ sym (given (forget_of t unit time).refused _ _ z))
