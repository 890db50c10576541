-- The rows of a table that lies in bytes, place by place: the standing ones gathered; and a lookup.
-- Assumes nothing.
use Rattle.octets.proofs.Words.{◌≡◌, refl, sym, ◌∙◌, true, false, cond, List, [], ℕ, ◌+◌, ◌≤◌, ◌<◌, arith, length, get_or, set}
use Rattle.octets.specs.Lists.{tab}
use Rattle.octets.proofs.ListLaws.{length-tab, get_or-tab}
use Rattle.route_table.specs.declared.row.Row.{Row}
use Rattle.route_table.specs.Rows.{none, stands, pad, standing, row_for}
use Rattle.route_table.specs.Tables.{found_or, found_by, lookup_of}
use Rattle.route_table.proofs.LookupLaws.{looked_up, not_looked_up}
use Rattle.route_table.proofs.RowLaws.{Gathered, gathered_end, gathered-last, gathered_skip, gathered_push}
use Rattle.route_bytes.specs.TableBytes.{place_of, rows_in, table_in, is_table, holds_table}
use Rattle.route_bytes.proofs.TableByteLaws.{rows_in_lem}
use Rattle.route_in_place.specs.Lookups.{lookup_in}
use Rattle.route_in_place.proofs.JudgedLaws.{judged-table, judged-rule, judged-length}

-- one of 48 places
module _ (f : ℕ → Row) (i : ℕ) (h : i < 48) where
  pub at_place : (r : Row) → r ≡ f i → get_or (tab 48 f) i none ≡ r
  at_place r here = get_or-tab 48 f i none h ∙ sym here

  pub a_place : i < length (tab 48 f)
  a_place = omega (arith, length-tab 48 f, h)

-- the places as a table's bytes have them
abbrev pub places : List ℕ → List Row
places s = tab 48 (place_of s)

module _ (s : List ℕ) (i : ℕ) (h : i < 48) (r : Row) (here : r ≡ place_of s i) where
  there : get_or (places s) i none ≡ r
  there = at_place (place_of s) i h r here

  inside : i < length (places s)
  inside = a_place (place_of s) i h

  -- ---- the rows that stand
  module _ (time n : ℕ) (out : List Row) (g : Gathered time (places s) i n out) where
    pub gather_end : r.destination ≡ 0 → out ≡ pad (standing time (rows_in s))
    gather_end z = gathered_end time (places s) (length-tab 48 (place_of s)) i n out g h (rw there z)

    pub gather_skip : (r.destination ≡ 0 → ⊥) → stands time r ≡ false → Gathered time (places s) (i + 1) n out
    gather_skip z q = gathered_skip time (places s) (length-tab 48 (place_of s)) i n out g h (rw there z) (rw there q)

    pub gather_push : (r.destination ≡ 0 → ⊥) → stands time r ≡ true → Gathered time (places s) (i + 1) (n + 1) (set out n r)
    gather_push z q = rw there at (gathered_push time (places s) (length-tab 48 (place_of s)) i n out g h (rw there z) (rw there q))

pub gather-last : (s : List ℕ) (i time n : ℕ) (out : List Row) → Gathered time (places s) i n out → 48 ≤ i → out ≡ pad (standing time (rows_in s))
gather-last s i time n out g h = gathered-last time (places s) (length-tab 48 (place_of s)) i n out g h

pub gather-first : (s : List ℕ) (time : ℕ) → Gathered time (places s) 0 0 (pad [])
gather-first s time = record { within = omega arith; few = omega arith; counted = refl; held = refl; rest = refl }

-- ---- a lookup
module _ (s : List ℕ) (d time : ℕ) where
  pub lookup-none : holds_table s ≡ false → lookup_in s d time ≡ found_or 14 none 0
  unfolding lookup_in holds_table
  lookup-none e = go (is_table s) refl
    where
      go : (b : _) → is_table s ≡ b → cond b (lookup_of (table_in s) d time) (found_or 14 none 0) ≡ found_or 14 none 0
      go true q = not_looked_up (table_in s) d time (rw q at e)
      go false q = refl

  pub lookup-by : holds_table s ≡ true → lookup_in s d time ≡ found_by (table_in s).time (row_for d (rows_in s)) d time
  unfolding lookup_in
  lookup-by e = rw (judged-table s e, rows_in_lem s (judged-length s e)) (looked_up (table_in s) d time (judged-rule s e))
