-- The bytes of a table: its rows one behind the other, with zeros behind them, how many they all are, the rows behind the head, and all of it stored.
-- Assumes nothing.
use Rattle.octets.proofs.Words.{◌≡◌, refl, sym, ap, ◌∙◌, Bool, true, false, ◌&&◌, and-eq-true_iff, List, [], ◌∷◌, ◌++◌, append_assoc, ℕ, zero, suc, ◌+◌, ◌*◌, ◌-◌, ◌≤◌, ◌<◌, arith, eq-eqb, eqb-true, lt-ltb, eqb, leb, length, get_or, take, drop, replicate, length-append, drop_of_length-le, sets}
use mir.Val.{bool_byte}
use Rattle.octets.specs.Layouts.{fields, bytes}
use Rattle.octets.specs.Numbers.{num, digits}
use Rattle.octets.proofs.StoreLaws.{sets_append, sets-whole}
use Rattle.octets.proofs.LayoutLaws.{length-bytes, fields-part}
use Rattle.octets.proofs.ListLaws.{tab-same}
use Rattle.octets.proofs.RunLaws.{Run, run_length, put-turn}
use Rattle.route_table.specs.declared.row.Row.{Row}
use Rattle.route_table.specs.declared.table.Head.{Head}
use Rattle.route_table.specs.declared.table.Table.{Table}
use Rattle.route_table.specs.Rows.{none, in_use, pad}
use Rattle.route_table.specs.Tables.{rows_of, head_of, table_of}
use Rattle.route_table.proofs.RowLaws.{in_use_end, in_use-turn}
use Rattle.route_table.proofs.StandingLaws.{pad-length}
use Rattle.route_bytes.specs.TableBytes.{flag, row_widths, row_values, row_from, row_at, rows_bytes, table_in, head_widths, head_values, table_bytes, table_over, place_of, rows_in, flags_ok, is_table}

pub rows_run : Run row_widths row_values rows_bytes
rows_run = record { none = refl; more = λ r rs. refl; full = λ r. refl }

pub length-head : (h : Head) → length (bytes head_widths (head_values h)) ≡ 11
length-head h = length-bytes head_widths (head_values h) refl

pub length-table : (t : Table) → length t.rows ≡ 48 → length (table_bytes t) ≡ 539
unfolding table_bytes
length-table t e =
    omega (arith, length-append (bytes head_widths (head_values (head_of t))) (rows_bytes t.rows), length-head (head_of t), run_length rows_run t.rows)

-- a flag's byte
pub flag_byte : (b : Bool) → bool_byte b ≡ flag b
flag_byte true = refl
flag_byte false = refl

-- the rows stand behind the head
pub head_first : (l : List ℕ) (t : Table) → sets (sets l 0 (bytes head_widths (head_values (head_of t)))) 11 (rows_bytes t.rows) ≡ sets l 0 (table_bytes t)
unfolding table_bytes
head_first l t = sym (sets_append (bytes head_widths (head_values (head_of t))) (rows_bytes t.rows) l 0 ∙ rw (length-head (head_of t)))

-- ---- zeros behind the rows
rows_append : (xs ys : List Row) → rows_bytes (xs ++ ys) ≡ rows_bytes xs ++ rows_bytes ys
rows_append [] ys = refl
rows_append (x ∷ xs) ys = rw (rows_append xs ys) (sym (append_assoc (bytes row_widths (row_values x)) (rows_bytes xs) (rows_bytes ys)))

zero-rows : (k : ℕ) → rows_bytes (replicate k none) ≡ replicate (11 * k) 0
unfolding digits
zero-rows zero = refl
zero-rows (suc k) =
    let e : 11 * suc k ≡ suc (suc (suc (suc (suc (suc (suc (suc (suc (suc (suc (11 * k))))))))))) = omega arith in
    rw (e, zero-rows k)

-- rows stored behind the head, and zeros behind them up to the end, are the places of a table
pub zeros-behind : (l : List ℕ) (rs : List Row) (n : ℕ) → n ≡ length rs → n ≤ 48
    → sets (sets l 11 (rows_bytes rs)) (11 + 11 * n) (replicate (528 - 11 * n) 0) ≡ sets l 11 (rows_bytes (pad rs))
unfolding pad
zeros-behind l rs n e h =
    let k : 528 - 11 * n ≡ 11 * (48 - length rs) = omega arith in
    let at : 11 + 11 * n ≡ 11 + length (rows_bytes rs) = omega (arith, run_length rows_run rs) in
    rw (k, at, ← zero-rows (48 - length rs), ← sets_append (rows_bytes rs) (rows_bytes (replicate (48 - length rs) none)) l 11, ← rows_append rs (replicate (48 - length rs) none))

-- the head and these places are all of a buffer that has a table's length
pub all-stored : (l : List ℕ) (h : Head) (rs : List Row) → length l ≡ 539 → length (pad rs) ≡ 48
    → sets (sets l 0 (bytes head_widths (head_values h))) 11 (rows_bytes (pad rs)) ≡ table_over l (table_of h rs)
unfolding table_over
all-stored l h rs e k =
    head_first l (table_of h rs) ∙ (sets-whole l (table_bytes (table_of h rs)) (length-table (table_of h rs) k ∙ sym e) ∙ rw (eq-eqb (length l) 539 e))

-- what the head, the rows and the zeros leave, one after the other
pub whole-stored : (l : List ℕ) (h : Head) (rows : List Row) (n : ℕ) → length l ≡ 539 → (one two : List ℕ) → one ≡ sets l 0 (bytes head_widths (head_values h))
    → two ≡ sets one 11 (rows_bytes (in_use rows)) → n ≡ length (in_use rows) → n ≤ 48
    → (last : List ℕ) → last ≡ sets two (11 + 11 * n) (replicate (528 - 11 * n) 0) → last ≡ table_over l (table_of h (in_use rows))
whole-stored l h rows n k one two a b c d last e =
    let whole = all-stored l h (in_use rows) k (pad-length (in_use rows) (omega (arith, c, d))) in
    e ∙ (rw (b, zeros-behind one (in_use rows) n c d, a) whole)

pub empty_stored : (l : List ℕ) (h : Head) → length l ≡ 539 → (one : List ℕ) → one ≡ sets l 0 (bytes head_widths (head_values h))
    → (last : List ℕ) → last ≡ sets one 11 (replicate 528 0) → last ≡ table_over l (table_of h [])
empty_stored l h k one a last e = e ∙ (zeros-behind one [] 0 refl (omega arith) ∙ rw a (all-stored l h [] k (pad-length [] (omega arith))))

-- ---- the loop that stores the rows in use: the rows that are left, stored behind those passed, are all
pub record Storing (l out : List ℕ) (rows : List Row) (used : ℕ) : Type 0 where
  pub within : used ≤ 48
  pub long : length out ≡ 539
  pub rest : sets out (11 + 11 * used) (rows_bytes (in_use (drop used rows))) ≡ sets l 11 (rows_bytes (in_use rows))
  pub count : used + length (in_use (drop used rows)) ≡ length (in_use rows)

module _ (l out : List ℕ) (rows : List Row) (used : ℕ) (many : length rows ≡ 48) (g : Storing l out rows used) where
  pub stored_end : used < 48 → (get_or rows used none).destination ≡ 0 → (out ≡ sets l 11 (rows_bytes (in_use rows))) × (used ≡ length (in_use rows)) × (used ≤ 48)
  stored_end h z =
      let e = in_use_end rows used (omega arith) z in
      (rw e at g.rest, omega (arith, g.count, ap length e), omega arith)

  pub stored_last : 48 ≤ used → (out ≡ sets l 11 (rows_bytes (in_use rows))) × (48 ≡ length (in_use rows)) × (48 ≤ 48)
  stored_last h =
      let e : in_use (drop used rows) ≡ [] = ap in_use (drop_of_length-le rows {i = used} (omega arith)) in
      (rw e at g.rest, omega (arith, g.count, g.within, ap length e), omega arith)

  pub stored_on : (filled : List ℕ) → used < 48 → ((get_or rows used none).destination ≡ 0 → ⊥)
      → filled ≡ sets (take (11 + 11 * used + 11 - (11 + 11 * used)) (drop (11 + 11 * used) out)) 0 (bytes row_widths (row_values (get_or rows used none)))
      → (new : List ℕ) → new ≡ take (11 + 11 * used) out ++ (filled ++ drop (11 + 11 * used + 11 - (11 + 11 * used)) (drop (11 + 11 * used) out)) → length new ≡ length out
      → Storing l new rows (used + 1)
  stored_on filled h z f new n k =
      let here = 11 + 11 * used in
      let e = in_use-turn rows used (omega arith) z in
      let next : 11 + 11 * (used + 1) ≡ here + 11 = omega arith in
      record {
        within = omega arith;
        long = k ∙ g.long;
        rest = rw (n, next) (put-turn rows_run out here (get_or rows used none) (in_use (drop (used + 1) rows)) filled (omega (arith, g.long)) f ∙ (sym (ap (λ (rs : List Row). sets out here (rows_bytes rs)) e) ∙ g.rest));
        count = omega (arith, g.count, ap length e);
      }

-- ---- the bytes of a table have its length
pub table-length : (s : List ℕ) → is_table s ≡ true → length s ≡ 539
unfolding is_table
table-length s h =
    let front = ((and-eq-true_iff (eqb (length s) 539 && leb (num 1 s 6) 1) (flags_ok 48 s)).0 h).0 in
    eqb-true (length s) 539 ((and-eq-true_iff (eqb (length s) 539) (leb (num 1 s 6) 1)).0 front).0

-- ---- a row at a place
module _ (s : List ℕ) (i : ℕ) where
  pub place_at_lem : length s ≡ 539 → i < 48 → row_at s i ≡ place_of s i
  unfolding place_of
  place_at_lem l h = rw (eq-eqb (length s) 539 l, lt-ltb i 48 h)

  pub place-part : length s ≡ 539 → i < 48 → row_from (fields row_widths (take (11 + 11 * i + 11 - (11 + 11 * i)) (drop (11 + 11 * i) s)) 0) ≡ place_of s i
  unfolding row_at
  place-part l h =
      let start = 11 + 11 * i in
      ap row_from (fields-part row_widths s start (start + 11 - start) (omega arith)) ∙ place_at_lem l h

-- the rows of the table that 539 bytes hold
pub rows_in_lem : (s : List ℕ) → length s ≡ 539 → rows_in s ≡ rows_of (table_in s)
unfolding table_in
rows_in_lem s l = ap in_use (tab-same 48 (place_of s) (row_at s) (λ i h. sym (place_at_lem s i l h)))
