-- The slots that a unit may have with its row: its own, those that a newcomer is granted, those that a member is left with.
-- Assumes nothing.
use Rattle.octets.proofs.Words.{◌≡◌, List, ℕ, ◌+◌, ◌-◌, ◌≤◌, ◌<◌, min, arith, length}
use Rattle.slot_sets.specs.Sets.{Slots, count}
use Rattle.slot_sets.proofs.SetLaws.{in_left, in_right}
use Rattle.book_members.specs.Members.{Row, vacant_row, place_for, free, vacant, spare}
use Rattle.book_members.proofs.RowLaws.{row}
use Rattle.book_members.proofs.RowSums.{one}
use Rattle.book_members.proofs.RowRuleLaws.{Ruled, Share, member-at, vacant-free}
use Rattle.book_members.proofs.SeatLaws.{own_unfree, free-row}
use Rattle.book_joins.specs.Joins.{wish, grant_for, asks}
use Rattle.book_history.proofs.GrantLaws.{lesser, count-granted, granted-free, count-brought, brought-from}

-- a member's slots after its request are as many as it is due
pub count-asks : (dataSlots : ℕ) (rs : List Row) (at asked : ℕ) → at < length rs → let own = (row rs at).slots in
    count (asks dataSlots rs own asked) ≡ min (wish asked) (count own + spare dataSlots rs)
count-asks dataSlots rs at asked h =
    let own = (row rs at).slots in
    count-brought (min (wish asked) (count own + spare dataSlots rs)) own (free dataSlots rs) (own_unfree dataSlots rs at h)
    (enough (wish asked) (count own) (count (free dataSlots rs)) (vacant rs))
  where
    enough : (n c f v : ℕ) → min n (c + (f - v)) ≤ c + f
    enough n c f v = omega arith

module _ {manager dataSlots last : ℕ} {rs : List Row} (few : dataSlots ≤ 64) (g : Ruled manager dataSlots last rs) where
  module _ (at : ℕ) (there : at < length rs) (used : (row rs at).unit ≡ 0 → ⊥) where
    abbrev own : Slots 64
    own = (row rs at).slots

    pub own_share : Share g at own
    own_share =
        let m = member-at g at there used in
        record { from = in_left own (free dataSlots rs); least = m.least; most = m.most; spared = omega arith }

    pub asks_share : (asked : ℕ) → Share g at (asks dataSlots rs own asked)
    asks_share asked =
        let m = member-at g at there used in
        let k = lesser asked _ (count own + spare dataSlots rs) (count-asks dataSlots rs at asked there) (omega (arith, m.least)) in
        record {
          from = brought-from (min (wish asked) (count own + spare dataSlots rs)) own (free dataSlots rs);
          least = k.least;
          most = k.most;
          spared = omega (arith, k.spared);
        }

  pub granted_share : (asked : ℕ) → 1 ≤ vacant rs → Share g (place_for 0 rs) (grant_for dataSlots rs asked)
  granted_share asked some =
      let old = row rs (place_for 0 rs) in
      let k = lesser asked _ (spare dataSlots rs + 1) (count-granted dataSlots rs asked some (vacant-free few g)) (omega arith) in
      let empty : one vacant_row old ≡ 1 = rw (free-row g some) in
      record {
        from = λ i h. in_right old.slots (free dataSlots rs) i (granted-free dataSlots rs asked i h);
        least = k.least;
        most = k.most;
        spared = omega (arith, k.spared, empty);
      }
