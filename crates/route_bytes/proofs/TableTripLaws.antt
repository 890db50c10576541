-- The round trips of a table and its bytes.
-- Assumes nothing.
use Rattle.octets.proofs.Words.{◌≡◌, refl, sym, ap, ap₂, ◌∙◌, Bool, true, false, ◌&&◌, and-eq-true_iff, List, [], ◌∷◌, map, ℕ, ◌+◌, ◌*◌, ◌≤◌, ◌<◌, ℕ_discrete, arith, eq-eqb, ne_eqb, eqb-true, leb-true, eqb, leb, length, get_or, take, drop, take_all, take-add}
use Rattle.octets.specs.Layouts.{fields, bytes, Bytes}
use Rattle.octets.specs.Lists.{tab, every, Each}
use Rattle.octets.specs.Numbers.{num}
use Rattle.octets.proofs.LayoutLaws.{fields-bytes, bytes-fields}
use Rattle.octets.proofs.ListLaws.{length-tab, get_or-tab, every-at, map_same}
use Rattle.octets.proofs.RunLaws.{run-read, run-kept}
use Rattle.route_table.specs.declared.row.Row.{Row}
use Rattle.route_table.specs.declared.table.Table.{Table}
use Rattle.route_table.specs.Tables.{head_of}
use Rattle.route_bytes.specs.TableBytes.{flag, row_widths, row_values, row_from, row_at, rows_bytes, head_widths, head_values, table_from, table_in, table_bytes, flags_ok, is_table}
use Rattle.route_bytes.specs.TableTrips.{RowFits, Sized, ReadsBack, WritesTables, WritesBack}
use Rattle.route_bytes.proofs.TableByteLaws.{rows_run, length-head, length-table}

-- ---- flags
flag_back : (b : Bool) → eqb (flag b) 1 ≡ b
flag_back true = refl
flag_back false = refl

flag_small : (b : Bool) → leb (flag b) 1 ≡ true
flag_small true = refl
flag_small false = refl

flag-kept : (v : ℕ) → leb v 1 ≡ true → flag (eqb v 1) ≡ v
flag-kept v h = go (ℕ_discrete v 1)
  where
    go : Dec (v ≡ 1) → flag (eqb v 1) ≡ v
    go (yes e) = rw (eq-eqb v 1 e) (sym e)
    go (no e) = rw (ne_eqb v 1 e) (omega (arith, leb-true v 1 h))

-- where the flag of a row stands
flag-place : (s : List ℕ) (i : ℕ) → num 1 s (21 + 11 * i) ≡ get_or (fields row_widths s (11 + 11 * i)) 5 0
flag-place s i =
    let q : 11 + 11 * i + 2 + 2 + 1 + 1 + 4 ≡ 21 + 11 * i = omega arith in
    rw q

-- ---- what was written, read
row_back_lem : (r : Row) → row_from (row_values r) ≡ r
row_back_lem r = rw (flag_back r.withdrawn)

flags_small : (rs : List Row) → every (λ v. leb v 1) (map (λ r. flag r.withdrawn) rs) ≡ true
unfolding every
flags_small [] = refl
flags_small (r ∷ rs) = rw (flag_small r.withdrawn) (flags_small rs)

module _ (t : Table) (z : Sized t) where
  head_read : fields head_widths (table_bytes t) 0 ≡ head_values (head_of t)
  unfolding table_bytes
  head_read = fields-bytes head_widths (head_values (head_of t)) [] (rows_bytes t.rows) 0 refl z.head

  all_read : {A : Type 0} (say : List ℕ → A) (f : ℕ → A) → ((i : ℕ) → f i ≡ say (fields row_widths (table_bytes t) (11 + 11 * i)))
      → tab 48 f ≡ map (λ r. say (row_values r)) t.rows
  unfolding table_bytes
  all_read say f e =
      rw z.places at (run-read rows_run (Each RowFits) (λ r rs h. h) say f t.rows (bytes head_widths (head_values (head_of t))) 11 (length-head (head_of t)) z.fit e)

pub reads_back : ReadsBack
unfolding table_in row_at
reads_back t z =
    ap₂ table_from (head_read t z) (all_read t z row_from (row_at (table_bytes t)) (λ i. refl) ∙ map_same (λ r. row_from (row_values r)) row_back_lem t.rows) ∙ rw (flag_back t.forwarded)

pub writes-tables : WritesTables
unfolding is_table
writes-tables t z =
    let s = table_bytes t in
    let first : num 1 s 6 ≡ flag t.forwarded = ap (λ (vs : List ℕ). get_or vs 2 0) (head_read t z) in
    rw (eq-eqb (length s) 539 (length-table t z.places), first, flag_small t.forwarded, all_read t z (λ vs. get_or vs 5 0) (λ i. num 1 s (21 + 11 * i)) (flag-place s))
    (flags_small t.rows)

-- ---- what was read, written
module _ (s : List ℕ) (b : Bytes s) where
  pub row_kept : (at : ℕ) → at + 11 ≤ length s → leb (get_or (fields row_widths s at) 5 0) 1 ≡ true
      → bytes row_widths (row_values (row_from (fields row_widths s at))) ≡ take 11 (drop at s)
  row_kept at l h = rw (flag-kept (get_or (fields row_widths s at) 5 0) h) (bytes-fields s b row_widths at l)

  pub flagged : (n : ℕ) → flags_ok n s ≡ true → (i : ℕ) → i < n → leb (get_or (fields row_widths s (11 + 11 * i)) 5 0) 1 ≡ true
  flagged n h i l =
      let flags : ℕ → ℕ = λ i. num 1 s (21 + 11 * i) in
      rw (get_or-tab n flags i 0 l, flag-place s i) at (every-at (λ v. leb v 1) (tab n flags) i 0 h (rw (length-tab n flags) l))

  rows-kept : length s ≡ 539 → flags_ok 48 s ≡ true → rows_bytes (tab 48 (row_at s)) ≡ take 528 (drop 11 s)
  unfolding row_at
  rows-kept l h = run-kept rows_run s 48 11 (row_at s) (λ i m. row_kept (11 + 11 * i) (omega arith) (flagged 48 h i m))

pub writes_back : WritesBack
unfolding is_table table_in table_bytes
writes_back s b h =
    let (front, rows) = (and-eq-true_iff (eqb (length s) 539 && leb (num 1 s 6) 1) (flags_ok 48 s)).0 h in
    let (size, first) = (and-eq-true_iff (eqb (length s) 539) (leb (num 1 s 6) 1)).0 front in
    let l : length s ≡ 539 = eqb-true (length s) 539 size in
    rw (
      flag-kept (num 1 s 6) first,
      bytes-fields s b head_widths 0 (omega arith),
      rows-kept s b l rows,
      ← take-add 11 528 s,
    )
    (take_all 539 s (omega arith))
