-- A route that a lookup from C answers lasts as long as it says.
-- Assumes nothing.
use Rattle.octets.proofs.Words.{◌≡◌, ◌∙◌, true, List, ℕ, suc, ◌-◌, ◌≤◌}
use Rattle.octets.specs.Calls.{after}
use Rattle.octets.proofs.CallLaws.{stored-none}
use Rattle.moments.specs.Moments.{age_at}
use Rattle.route_table.specs.Outcomes.{Found}
use Rattle.route_table.specs.Tables.{lookup_of}
use Rattle.route_table.proofs.LeftLaws.{lasts_so_long, ends_then}
use Rattle.route_bytes.specs.TableBytes.{table_in, is_table}
use Rattle.c_routes.specs.TableCalls.{lookup_left, lookup_call}
use Rattle.c_history.specs.TableLaws.{LastsInC}

module _ (s : List ℕ) (d time : ℕ) where
  abbrev found : ℕ → Found
  found at = lookup_of (table_in s) d at

  -- a call that is answered was put to a table, which answers
  both : (next_hop hops left : ℕ) → (lookup_call s d time next_hop hops left).status ≡ 0 → (is_table s ≡ true) × ((found time).refused ≡ 0)
  unfolding lookup_call
  both next_hop hops left q = stored-none (is_table s) (found time).refused q

  -- what it leaves is what the table answers at that time
  by-table : is_table s ≡ true → (at next_hop hops left : ℕ)
      → lookup_call s d at next_hop hops left
      ≡ (let f = found at in lookup_left f.refused (after f.refused next_hop f.next_hop) (after f.refused hops f.hops) (after f.refused left f.left))
  unfolding lookup_call
  by-table known at next_hop hops left = rw known

  module _ (next_hop hops left : ℕ) (q : (lookup_call s d time next_hop hops left).status ≡ 0) where
    told : lookup_call s d time next_hop hops left ≡ lookup_left 0 (found time).next_hop (found time).hops (found time).left
    told = let (known, none) = both next_hop hops left q in by-table known time next_hop hops left ∙ rw none

    module _ (again nextHop' hops' left' : ℕ) where
      still : age_at again time ≤ (lookup_call s d time next_hop hops left).left
          → let first = lookup_call s d time next_hop hops left in
          lookup_call s d again nextHop' hops' left' ≡ lookup_left 0 first.next_hop first.hops (first.left - age_at again time)
      still l =
          let (known, none) = both next_hop hops left q in
          by-table known again nextHop' hops' left' ∙ rw (told, lasts_so_long (table_in s) d time again none (rw told at l))

      over : age_at again time ≡ suc (lookup_call s d time next_hop hops left).left → lookup_call s d again nextHop' hops' left' ≡ lookup_left 11 nextHop' hops' left'
      over l =
          let (known, none) = both next_hop hops left q in
          by-table known again nextHop' hops' left' ∙ rw (ends_then (table_in s) d time again none (rw told at l))

pub lasts-in_c : LastsInC
lasts-in_c s d time =
    record {
      lasts = λ again next_hop hops left nextHop' hops' left' q l. still s d time next_hop hops left q again nextHop' hops' left' l;
      ends = λ again next_hop hops left nextHop' hops' left' q l. over s d time next_hop hops left q again nextHop' hops' left' l;
    }
