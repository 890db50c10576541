-- A fresh book is within rule.
-- Assumes nothing.
use Rattle.octets.proofs.Words.{◌≡◌, refl, sym, ap, ◌∙◌, Bool, true, false, not, cond, and-eq-true_iff, or-true, [], ◌∷◌, ℕ, zero, suc, ◌-◌, ◌*◌, ◌≤◌, arith, eq-eqb, ne_eqb, lt-ltb, ltb-true, not-false, ltb, take, drop, replicate}
use Rattle.octets.specs.Answers.{reason}
use Rattle.octets.proofs.AnswerLaws.{none-holds}
use Rattle.octets.specs.Lists.{every}
use Rattle.octets.proofs.CallLaws.{after-accepted}
use Rattle.octets.specs.Addresses.{address}
use Rattle.octets.proofs.AddressLaws.{address-some}
use Rattle.slot_sets.specs.Sets.{count, Subset, firsts}
use Rattle.slot_sets.proofs.SetLaws.{firsts-has}
use Rattle.slot_sets.proofs.LowestLaws.{count_of_firsts}
use Rattle.site_plan.specs.declared.plan.Plan.{Plan}
use Rattle.site_plan.specs.Plans.{plan_rule}
use Rattle.site_plan.proofs.PlanLaws.{kept, rule_bounds}
use Rattle.book_members.specs.Members.{Row, empty_row, vacant_row}
use Rattle.book_members.specs.Rules.{empty_is, row_rule, past_time}
use Rattle.book_members.proofs.RowSums.{weigh, one, of_unit, owns}
use Rattle.book_members.proofs.RowRuleLaws.{empty_is_lem, no_count, needs, rule_empty, Ruled, units-least, owners_least, used_rule}
use Rattle.book.specs.Books.{within_rule, fresh_row, no_book, fresh_book, fresh_of}
use Rattle.book.proofs.WithinLaws.{by_parts}

-- ---- its rows
weigh_empty : (w : Row → ℕ) (k : ℕ) → w empty_row ≡ k → (m n : ℕ) → weigh w (take n (replicate m empty_row)) ≤ n * k
unfolding weigh
weigh_empty w k e m zero = omega arith
weigh_empty w k e zero (suc n) = omega arith
weigh_empty w k e (suc m) (suc n) = omega (arith, e, weigh_empty w k e m n)

pub every_empty : (test : Row → Bool) → test empty_row ≡ true → (m n : ℕ) → (every test (take n (replicate m empty_row)) ≡ true) × (every test (drop n (replicate m empty_row)) ≡ true)
unfolding every
every_empty test e zero zero = (refl, refl)
every_empty test e zero (suc n) = (refl, refl)
every_empty test e (suc m) zero = (refl, rw e (every_empty test e m zero).1)
every_empty test e (suc m) (suc n) = (rw e (every_empty test e m n).0, (every_empty test e m n).1)

one-most : (test : Row → Bool) (r : Row) → one test r ≤ 1
one-most test r = go (test r)
  where
    go : (b : Bool) → cond b 1 0 ≤ 1
    go true = omega arith
    go false = omega arith

first-inside : (dataSlots : ℕ) → 1 ≤ dataSlots → Subset (firsts 1) (firsts dataSlots)
first-inside dataSlots h i e =
    let (below, fits) = (and-eq-true_iff (ltb i 1) (ltb i 64)).0 (sym (firsts-has 1 i) ∙ e) in
    firsts-has dataSlots i ∙ (and-eq-true_iff (ltb i dataSlots) (ltb i 64)).1 (lt-ltb i dataSlots (omega (arith, ltb-true i 1 below, h)), fits)

fresh_ruled : (manager dataSlots time n : ℕ) → address manager ≡ true → suc n ≤ dataSlots
    → Ruled manager dataSlots time (fresh_row manager time ∷ take n (replicate 20 empty_row))
unfolding weigh every
fresh_ruled manager dataSlots time n unit h =
    let r = fresh_row manager time in
    let single : count (firsts 1) ≡ 1 = count_of_firsts 1 in
    let some : one vacant_row r ≡ 0 = rw (ne_eqb manager 0 (address-some manager unit)) in
    record {
      led = eq-eqb manager manager refl;
      each =
          rw (used_rule dataSlots r (record { unit = unit; least = omega (arith, single); most = omega (arith, single); inside = first-inside dataSlots (omega (arith, h)) }))
          (every_empty (row_rule dataSlots) (rule_empty dataSlots) 20 n).0;
      past = rw (eq-eqb manager manager refl, or-true) (every_empty (past_time manager time) refl 20 n).0;
      units = λ u z. omega (arith, one-most (of_unit u) r, weigh_empty (one (of_unit u)) 0 (units-least u z) 20 n);
      owners = λ slot. omega (arith, one-most (owns slot) r, weigh_empty (one (owns slot)) 0 (owners_least slot) 20 n);
      room = omega (arith, h, single, some, weigh_empty needs 1 (omega (arith, no_count)) 20 n);
    }

-- ---- the book
module _ (p : Plan) (time : ℕ) where
  fresh-plan : (fresh_of p time).refused ≡ 0 → plan_rule p ≡ true
  unfolding fresh_of
  fresh-plan e = not-false (plan_rule p) (none-holds (reason (not (plan_rule p)) 14 ∷ []) _ e).0

  pub fresh-within : (fresh_of p time).refused ≡ 0 → within_rule (fresh_of p time).book ≡ true
  unfolding fresh_of
  fresh-within e =
      let planned = fresh-plan e in
      let k = kept p planned in
      let few : p.data_slots ≤ 64 = omega (arith, (rule_bounds p planned).few_data_slots) in
      let some : p.rows ≡ suc (p.rows - 1) = omega (arith, k.rows) in
      ap within_rule (after-accepted _ no_book (fresh_book p time) e)
      ∙ by_parts (fresh_book p time) (record {
        plan = planned;
        few = few;
        rows = rw some (fresh_ruled p.manager p.data_slots time (p.rows - 1) k.manager (omega (arith, k.rows, k.data_slots)));
        behind = rw some (every_empty empty_is empty_is_lem 20 (p.rows - 1)).1;
      })
