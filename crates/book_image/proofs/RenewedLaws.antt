-- Rows whose times are another: within rule, they stay so.
-- Assumes nothing.
use Rattle.octets.proofs.Words.{◌≡◌, refl, Bool, true, false, ◌||◌, cond, or-true, List, [], ◌∷◌, map, ℕ, eqb}
use Rattle.octets.proofs.ListLaws.{every_map}
use Rattle.moments.specs.Moments.{in_order}
use Rattle.moments.proofs.MomentLaws.{in_order_self}
use Rattle.book_members.specs.Members.{Row, vacant_row, restored_at}
use Rattle.book_members.specs.Rules.{row_rule, led_by, past_time}
use Rattle.book_members.proofs.RowSums.{weigh_map, one, of_unit, owns}
use Rattle.book_members.proofs.RowRuleLaws.{used_rule, rule-either, needs, empty_is_lem, Ruled}

renewed-rule : (dataSlots time : ℕ) (r : Row) → row_rule dataSlots r ≡ true → row_rule dataSlots (restored_at time r) ≡ true
renewed-rule dataSlots time r e =
    rule-either dataSlots r e (λ t none. rw (t, none) empty_is_lem)
    (λ t m. used_rule dataSlots (restored_at time r) (record { unit = m.unit; least = m.least; most = m.most; inside = m.inside }))

-- a time is in order with itself
pub renewed-past : (manager time : ℕ) (r : Row) → past_time manager time (restored_at time r) ≡ true
renewed-past manager time r = go (vacant_row r)
  where
    go : (b : Bool) → (b || (eqb r.unit manager || in_order (cond b 0 time) time)) ≡ true
    go true = refl
    go false = rw (in_order_self time, or-true)

led_renewed : (manager time : ℕ) (rs : List Row) → led_by manager rs ≡ true → led_by manager (map (restored_at time) rs) ≡ true
led_renewed manager time [] e = e
led_renewed manager time (r ∷ rs) e = e

pub ruled_renewed : {manager dataSlots last : ℕ} {rs : List Row} (time : ℕ) → Ruled manager dataSlots last rs → Ruled manager dataSlots time (map (restored_at time) rs)
ruled_renewed {manager} {dataSlots} {last} {rs} time g = record {
  led = led_renewed manager time rs g.led;
  each = every_map (row_rule dataSlots) (row_rule dataSlots) (restored_at time) (renewed-rule dataSlots time) rs g.each;
  past = every_map (row_rule dataSlots) (past_time manager time) (restored_at time) (λ r e. renewed-past manager time r) rs g.each;
  units = λ unit z. rw (weigh_map (one (of_unit unit)) (restored_at time) (λ r. refl) rs) (g.units unit z);
  owners = λ slot. rw (weigh_map (one (owns slot)) (restored_at time) (λ r. refl) rs) (g.owners slot);
  room = rw (weigh_map needs (restored_at time) (λ r. refl) rs) g.room;
}
