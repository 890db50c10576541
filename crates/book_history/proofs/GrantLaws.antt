-- How many slots are granted to a newcomer and to a member that asks, and where they come from.
-- Assumes nothing.
use Rattle.octets.proofs.Words.{◌≡◌, refl, ◌∙◌, Bool, true, false, cond, List, ℕ, ◌+◌, ◌-◌, ◌≤◌, min, arith, leb-true, leb-false, leb}
use Rattle.slot_sets.specs.Sets.{Slots, count, Subset, Apart, union, lowest, without_highest}
use Rattle.slot_sets.proofs.SetLaws.{disjoint_is_apart, in_left, in_right, in_union}
use Rattle.slot_sets.proofs.CountLaws.{count_of_union}
use Rattle.slot_sets.proofs.LowestLaws.{lowest_is, without_highest-inside, count_of_without_highest}
use Rattle.book_members.specs.Members.{Row, free, vacant, spare}
use Rattle.book_joins.specs.Joins.{wish, grant_for, brought}

-- ---- the lesser of a wish and of what there is
pub record Lesser (wished n there : ℕ) : Type 0 where
  pub least : 1 ≤ n
  pub within-wish : n ≤ wished
  pub most : n ≤ 4
  pub spared : n ≤ there

pub lesser : (asked n there : ℕ) → n ≡ min (wish asked) there → 1 ≤ there → Lesser (wish asked) n there
lesser asked n there e h = go (wish asked) (omega arith) (omega arith) e
  where
    go : (wished : ℕ) → 1 ≤ wished → wished ≤ 4 → n ≡ min wished there → Lesser wished n there
    go wished p q e = record { least = omega (arith, p, e, h); within-wish = omega (arith, e); most = omega (arith, q, e); spared = omega (arith, e) }

-- ---- a newcomer
module _ (dataSlots : ℕ) (rs : List Row) (asked : ℕ) where
  -- where a row is free, and each free row has a free slot, it gets what is due
  pub count-granted : 1 ≤ vacant rs → vacant rs ≤ count (free dataSlots rs) → count (grant_for dataSlots rs asked) ≡ min (wish asked) (spare dataSlots rs + 1)
  count-granted some fits =
      (lowest_is 64 (min (wish asked) (spare dataSlots rs + 1)) (free dataSlots rs)).many
      ∙ enough (wish asked) (vacant rs) (count (free dataSlots rs)) some fits
    where
      enough : (n v f : ℕ) → 1 ≤ v → v ≤ f → min (min n (f - v + 1)) f ≡ min n (f - v + 1)
      enough n v f p q = omega arith

  pub granted-free : Subset (grant_for dataSlots rs asked) (free dataSlots rs)
  granted-free = (lowest_is 64 (min (wish asked) (spare dataSlots rs + 1)) (free dataSlots rs)).inside

-- ---- a member
module _ (to : ℕ) (own spaces : Slots 64) where
  abbrev added : Slots 64
  added = lowest (to - count own) spaces

  inside : Subset added spaces
  inside = (lowest_is 64 (to - count own) spaces).inside

  pub count-brought : Apart own spaces → to ≤ count own + count spaces → count (brought to own spaces) ≡ to
  count-brought apart h = go (leb (count own) to) refl
    where
      go : (b : Bool) → leb (count own) to ≡ b → count (cond b (union own added) (without_highest (count own - to) own)) ≡ to
      go true e =
          let fewer = leb-true (count own) to e in
          let parted = (disjoint_is_apart 64 own added).1 (λ i p q. apart i p (inside i q)) in
          omega (arith, fewer, h, count_of_union 64 own added parted, (lowest_is 64 (to - count own) spaces).many)
      go false e =
          let more = leb-false (count own) to e in
          omega (arith, more, count_of_without_highest 64 (count own - to) own)

  pub brought-from : Subset (brought to own spaces) (union own spaces)
  brought-from = go (leb (count own) to)
    where
      go : (b : Bool) → Subset (cond b (union own added) (without_highest (count own - to) own)) (union own spaces)
      go true = in_union own added (union own spaces) (in_left own spaces) (λ i h. in_right own spaces i (inside i h))
      go false = λ i h. in_left own spaces i (without_highest-inside 64 (count own - to) own i h)
