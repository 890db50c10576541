-- Tables that are within rule: one whose places are filled from rows that are, a fresh one, and that of an accepted forget.
-- Assumes nothing.
use Rattle.octets.proofs.Words.{◌≡◌, refl, ◌∙◌, Bool, true, false, not, ◌&&◌, ◌||◌, cond, List, [], ◌∷◌, map, ℕ, arith, not-false, eqb, length-map}
use Rattle.octets.specs.Answers.{reason}
use Rattle.octets.specs.Lists.{every}
use Rattle.octets.proofs.AnswerLaws.{none-holds}
use Rattle.octets.specs.Addresses.{address}
use Rattle.octets.proofs.ListLaws.{every_map}
use Rattle.route_table.specs.declared.row.Row.{Row}
use Rattle.route_table.specs.declared.table.Table.{Table}
use Rattle.route_table.specs.Rows.{usable, row_rule, withdrawn_at, forgotten, ascending, pad, standing}
use Rattle.route_table.specs.Tables.{rows_of, within_rule, fresh_of, forget_of}
use Rattle.route_table.proofs.RuleLaws.{rule-later, rule_withdrawn, within-pad}
use Rattle.route_table.proofs.StandingLaws.{standing_on, standing-ascending}
use Rattle.route_table.proofs.TableLaws.{within, few_stand, forgettable}

-- ---- a row when a unit is forgotten: as it was, or withdrawn
pub by-forgotten : (P : Row → Type 0) (unit time : ℕ) (r : Row) → P r → P (withdrawn_at time r) → P (forgotten unit time r)
by-forgotten P unit time r same lost = go (usable time r && (eqb r.destination unit || eqb r.next_hop unit))
  where
    go : (b : Bool) → P (cond b (withdrawn_at time r) r)
    go true = lost
    go false = same

-- ---- rows within rule at a time at which they stand
module _ (own last at : ℕ) where
  rule-forgotten : (unit : ℕ) (r : Row) → row_rule own at r ≡ true → row_rule own at (forgotten unit at r) ≡ true
  rule-forgotten unit r e = by-forgotten (λ x. row_rule own at x ≡ true) unit at r e (rule_withdrawn own at r e)

  -- the rows that stand, in a table with the time at which they do
  pub standing-rules : (rs : List Row) → every (row_rule own last) rs ≡ true → every (row_rule own at) (standing at rs) ≡ true
  standing-rules = standing_on (row_rule own last) (row_rule own at) at (rule-later own last at)

  pub forgotten-rules : (unit : ℕ) (rs : List Row) → every (row_rule own last) rs ≡ true → every (row_rule own at) (map (forgotten unit at) (standing at rs)) ≡ true
  forgotten-rules unit rs e = every_map (row_rule own at) (row_rule own at) (forgotten unit at) (rule-forgotten unit) (standing at rs) (standing-rules rs e)

-- to forget a unit changes no destination
ascending-map : (f : Row → Row) → ((r : Row) → (f r).destination ≡ r.destination) → (rs : List Row) → ascending (map f rs) ≡ ascending rs
ascending-map f k [] = refl
ascending-map f k (r ∷ []) = refl
ascending-map f k (r ∷ s ∷ rs) = rw (ascending-map f k (s ∷ rs), k r, k s)

forgotten_destination : (unit time : ℕ) (r : Row) → (forgotten unit time r).destination ≡ r.destination
forgotten_destination unit time r = by-forgotten (λ x. x.destination ≡ r.destination) unit time r refl refl

-- ---- the calls
pub fresh-within : (own time : ℕ) → (fresh_of own time).refused ≡ 0 → within_rule (fresh_of own time).table ≡ true
unfolding fresh_of pad every
fresh-within own time e =
    let a = not-false (address own) (none-holds (reason (not (address own)) 4 ∷ []) _ e).0 in
    rw a (within-pad own time false 0 0 [] a refl (omega arith) refl refl)

pub forget-within : (t : Table) (unit time : ℕ) → (forget_of t unit time).refused ≡ 0 → within_rule (forget_of t unit time).table ≡ true
unfolding forget_of
forget-within t unit time e =
    let f = forgettable t unit time e in
    let w = within t f.right in
    let rs = standing time (rows_of t) in
    let up = ascending-map (forgotten unit time) (forgotten_destination unit time) rs ∙ standing-ascending time (rows_of t) w.ascends in
    rw e (within-pad t.own time t.forwarded t.origin t.sequence (map (forgotten unit time) rs) w.unit w.pair
    (omega (arith, length-map rs (forgotten unit time), few_stand t f.right time)) up
    (forgotten-rules t.own t.time time unit (rows_of t) w.rules))
