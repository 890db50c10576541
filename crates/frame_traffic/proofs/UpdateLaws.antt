-- What is known of bytes that are an update: its origin and its entries keep their rules, and it has at most 24 entries.
-- Assumes nothing.
use Rattle.octets.proofs.Words.{◌≡◌, true, and-eq-true_iff, List, ℕ, ◌≤◌, arith}
use Rattle.octets.specs.Addresses.{address}
use Rattle.octets.specs.Lists.{every}
use Rattle.frame_kinds.specs.Reading.{refusal_as}
use Rattle.frame_kinds.specs.Shape.{length_of, values_in, part_in}
use Rattle.frame_kinds.proofs.ReadingLaws.{passed}
use Rattle.frame_traffic.specs.Traffic.{update, update_from, entry_rule, entries_of}

module _ (s : List ℕ) where
  pub record Updating : Type 0 where
    pub origin : address (update_from (values_in update s)).origin ≡ true
    pub entries : every entry_rule (entries_of (update_from (values_in update s)).count (part_in update s)) ≡ true
    pub few : (update_from (values_in update s)).count ≤ 24

  pub updating : refusal_as update s ≡ 0 → Updating
  updating z =
      let h = update_from (values_in update s) in
      let p = passed update.code (length_of update (update.extent (values_in update s))) (update.rule (values_in update s) (part_in update s)) s z in
      let (origin, entries) = (and-eq-true_iff (address h.origin) (every entry_rule (entries_of h.count (part_in update s)))).0 p.kept in
      let short = p.short in
      let sized = p.sized in
      record { origin = origin; entries = entries; few = omega (arith, short, sized) }
