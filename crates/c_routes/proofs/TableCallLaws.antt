-- The calls on a stored table, from what the core answers.
-- Assumes nothing.
use Rattle.octets.proofs.Words.{◌≡◌, sym, ap, Bool, true, false, cond, List, [], ℕ, arith, eq-eqb, ne_eqb, length}
use Rattle.std.specs.Prelude.{Ok, Err}
use Rattle.octets.specs.Refusals.{number_of}
use Rattle.octets.specs.declared.refusals.Refusal.{Refusal}
use Rattle.octets.proofs.RefusalLaws.{refusal_some}
use Rattle.route_table.specs.declared.table.Table.{Table}
use Rattle.octets.specs.Calls.{after}
use Rattle.route_table.specs.Outcomes.{Changed, changed, Found}
use Rattle.route_table.specs.declared.table.Head.{Head}
use Rattle.route_table.specs.Rows.{pad, none}
use Rattle.route_table.specs.Tables.{head_of, table_of, empty_table, fresh_of, lookup_of, found_or}
use Rattle.route_bytes.specs.StoredTables.{table_left}
use Rattle.route_bytes.specs.TableBytes.{table_in, table_bytes, table_over, is_table}
use Rattle.route_in_place.specs.Lookups.{lookup_in}
use Rattle.c_routes.specs.TableCalls.{fresh_call, LookupLeft, lookup_left, lookup_call}

-- ---- looking up, in bytes that are a table or in others
module _ (destination time next_hop hops left : ℕ) (s : List ℕ) (found : Found) (e : found ≡ lookup_in s destination time) where
  abbrev inside : Found
  inside = lookup_of (table_in s) destination time

  abbrev leaves : Bool → LookupLeft
  leaves known =
      let status = cond known inside.refused 14 in
      lookup_left status (after status next_hop inside.next_hop) (after status hops inside.hops) (after status left inside.left)

  pub hop_found : found.refused ≡ 0 → lookup_left 0 found.next_hop found.hops found.left ≡ lookup_call s destination time next_hop hops left
  unfolding lookup_call lookup_in
  hop_found z = go (is_table s) e
    where
      go : (b : Bool) → found ≡ cond b inside (found_or 14 none 0) → lookup_left 0 found.next_hop found.hops found.left ≡ leaves b
      go true q = rw (← q, z)
      go false q = absurd (omega (arith, z, ap (λ (f : Found). f.refused) q))

  pub none_found : (found.refused ≡ 0 → ⊥) → lookup_left found.refused next_hop hops left ≡ lookup_call s destination time next_hop hops left
  unfolding lookup_call lookup_in
  none_found z = go (is_table s) e
    where
      go : (b : Bool) → found ≡ cond b inside (found_or 14 none 0) → lookup_left found.refused next_hop hops left ≡ leaves b
      go true q = rw (← q, ne_eqb found.refused 0 z)
      go false q = ap (λ (f : Found). lookup_left f.refused next_hop hops left) q

-- ---- a fresh table, over as many bytes as it has
pub fresh-short : (s : List ℕ) (own time : ℕ) → (length s ≡ 539 → ⊥) → table_left 14 s ≡ fresh_call s own time
unfolding fresh_call
fresh-short s own time z = rw (ne_eqb (length s) 539 z)

module _ (s : List ℕ) (own time : ℕ) (long : length s ≡ 539) where
  pub fresh-refused : (r : Refusal) → changed (empty_table 0 0) (Err r) ≡ fresh_of own time → table_left (number_of r) s ≡ fresh_call s own time
  unfolding fresh_call
  fresh-refused r e = rw (eq-eqb (length s) 539 long, ← e, ne_eqb (number_of r) 0 (refusal_some r))

  -- it has no rows
  fresh_over : (fresh_of own time).refused ≡ 0 → table_over s (table_of (head_of (fresh_of own time).table) []) ≡ table_bytes (fresh_of own time).table
  unfolding table_over fresh_of pad
  fresh_over none = rw (eq-eqb (length s) 539 long, none)

  pub fresh-written : (t : Table) → changed (empty_table 0 0) (Ok t) ≡ fresh_of own time → (h : Head) → h ≡ head_of t → (last : List ℕ) → last ≡ table_over s (table_of h [])
      → table_left 0 last ≡ fresh_call s own time
  unfolding fresh_call
  fresh-written t e h q last l =
      let none : (fresh_of own time).refused ≡ 0 = ap (λ (x : Changed). x.refused) (sym e) in
      let new : t ≡ (fresh_of own time).table = ap (λ (x : Changed). x.table) e in
      rw (l, q, new, fresh_over none, eq-eqb (length s) 539 long, none)
