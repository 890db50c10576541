-- The rows that a unit may have: a live member its own, a newcomer a free one.
-- Assumes nothing.
use Rattle.octets.proofs.Words.{◌≡◌, sym, ap, ◌∙◌, true, false, false≢true, List, ℕ, ◌≤◌, ◌<◌, arith, eq-eqb, ltb-false, ltb, length}
use Rattle.slot_sets.specs.Sets.{Apart, firsts}
use Rattle.slot_sets.proofs.SetLaws.{minus-both}
use Rattle.book_members.specs.Members.{Row, vacant_row, place_for, held_slots, free, vacant}
use Rattle.book_members.proofs.RowLaws.{row}
use Rattle.book_members.proofs.RowSums.{one, of_unit, vacant_tally, own_held}
use Rattle.book_members.proofs.LookupLaws.{found-one, found_none, found-unit}
use Rattle.book_members.proofs.RowRuleLaws.{Ruled, Seat}
use Rattle.book_members.proofs.PairLaws.{led_first}

-- what a row has is not free
pub own_unfree : (dataSlots : ℕ) (rs : List Row) (at : ℕ) → at < length rs → Apart (row rs at).slots (free dataSlots rs)
own_unfree dataSlots rs at h i own spare =
    false≢true (sym (minus-both (firsts dataSlots) (held_slots rs) i spare).1 ∙ own_held rs at h i own)

module _ {manager dataSlots last : ℕ} {rs : List Row} (g : Ruled manager dataSlots last rs) where
  -- the first row's unit is the manager
  leads : (unit at : ℕ) → (row rs at).unit ≡ unit → at ≡ 0 → unit ≡ manager
  leads unit at e z = sym e ∙ (ap (λ (k : ℕ). (row rs k).unit) z ∙ led_first manager rs g.led)

  pub live-seat : (unit : ℕ) → (unit ≡ 0 → ⊥) → place_for unit rs < length rs → Seat g (place_for unit rs) unit
  live-seat unit z h =
      let found = found-unit unit rs h in
      let own : one (of_unit unit) (row rs (place_for unit rs)) ≡ 1 = rw (eq-eqb (row rs (place_for unit rs)).unit unit found) in
      record { there = h; own = λ n. found; first = omega arith; leads = leads unit (place_for unit rs) found; alone = omega (arith, own, g.units unit z) }

  module _ (some : 1 ≤ vacant rs) where
    pub free-there : place_for 0 rs < length rs
    free-there = found-one 0 rs (omega (arith, some, vacant_tally rs))

    pub free-row : vacant_row (row rs (place_for 0 rs)) ≡ true
    free-row = eq-eqb (row rs (place_for 0 rs)).unit 0 (found-unit 0 rs free-there)

    pub free-seat : (unit : ℕ) → (manager ≡ 0 → ⊥) → ltb (place_for unit rs) (length rs) ≡ false → Seat g (place_for 0 rs) unit
    free-seat unit z unknown =
        let found = found-unit 0 rs free-there in
        record {
          there = free-there;
          own = λ n. absurd (n found);
          first = omega (arith, free-there, ltb-false (place_for unit rs) (length rs) unknown);
          leads = λ e. absurd (z (sym (leads 0 (place_for 0 rs) found e)));
          alone = omega (arith, found_none unit rs unknown);
        }
