-- The calls that change a table where it lies, from what its parts say.
-- Assumes nothing.
use Rattle.octets.proofs.Words.{◌≡◌, refl, sym, ◌∙◌, Bool, true, false, not, cond, and-false, and-eq-true_iff, List, [], ◌∷◌, ◌++◌, map, append-nil, ℕ, ◌+◌, ◌*◌, ◌-◌, ◌≤◌, arith, ne_eqb, eqb, length, take, drop, replicate, sets, sets-eq, length-sets, drop_at, length-take-le, drop-length}
use Rattle.octets.specs.Answers.{first}
use Rattle.octets.specs.Layouts.{bytes}
use Rattle.octets.specs.Lists.{every}
use Rattle.octets.proofs.RunLaws.{run_length}
use Rattle.octets.proofs.AddressLaws.{address-least}
use Rattle.route_table.specs.declared.row.Row.{Row}
use Rattle.route_table.specs.Outcomes.{Changed, Found}
use Rattle.route_table.specs.declared.table.Head.{Head}
use Rattle.route_table.specs.declared.table.Table.{Table}
use Rattle.route_table.specs.Rows.{usable, row_rule, forgotten, pad, standing, row_for}
use Rattle.route_table.specs.Tables.{rows_of, head_of, table_of, within_rule, found_by, unforgotten_reasons, forget_of}
use Rattle.route_table.proofs.RuleLaws.{ruled}
use Rattle.route_table.proofs.StandingLaws.{standing-every, pad-length}
use Rattle.route_table.proofs.TableLaws.{within}
use Rattle.route_passing.specs.declared.Passing.{Passing}
use Rattle.route_passing.specs.Passes.{passed_head, passing_reasons, pass_reasons, pass_of}
use Rattle.route_passing.proofs.PassLaws.{asked}
use Rattle.route_bytes.specs.StoredTables.{table_left, changed_by}
use Rattle.route_bytes.specs.TableBytes.{rows_bytes, head_widths, head_values, rows_in, table_in, table_bytes, is_table, holds_table}
use Rattle.route_bytes.proofs.TableByteLaws.{rows_run, length-head, zeros-behind, rows_in_lem}
use Rattle.route_in_place.specs.Changes.{kept}
use Rattle.route_in_place.proofs.JudgedLaws.{judged-table, judged-rule, judged-length}

-- ---- the rows, the zeros behind them and then the head are all of a table
module _ (l : List ℕ) (h : Head) (rs : List Row) (e : length l ≡ 539) (k : length (pad rs) ≡ 48) where
  rows-length : length (rows_bytes (pad rs)) ≡ 528
  rows-length = omega (arith, run_length rows_run (pad rs))

  rows-there : drop 11 (sets l 11 (rows_bytes (pad rs))) ≡ rows_bytes (pad rs)
  rows-there =
      let front : length (take 11 l) ≡ 11 = length-take-le 11 l (omega arith) in
      let none : drop (11 + length (rows_bytes (pad rs))) l ≡ [] = rw (rows-length, ← e) (drop-length l) in
      rw (sets-eq (rows_bytes (pad rs)) l 11 (omega (arith, rows-length)), none, append-nil (take 11 l ++ rows_bytes (pad rs))) (drop_at (take 11 l) (rows_bytes (pad rs)) 11 front)

  head-last : sets (sets l 11 (rows_bytes (pad rs))) 0 (bytes head_widths (head_values h)) ≡ table_bytes (table_of h rs)
  unfolding table_bytes
  head-last =
      let s = sets l 11 (rows_bytes (pad rs)) in
      sets-eq (bytes head_widths (head_values h)) s 0 (omega (arith, length-head h, length-sets l 11 (rows_bytes (pad rs)))) ∙ rw (length-head h, rows-there)

pub renewed : (l : List ℕ) (h : Head) (rs : List Row) (n : ℕ) → length l ≡ 539 → (one two : List ℕ) → one ≡ sets l 11 (rows_bytes rs) → n ≡ length rs → n ≤ 48
    → two ≡ sets one (11 + 11 * n) (replicate (528 - 11 * n) 0) → (last : List ℕ) → last ≡ sets two 0 (bytes head_widths (head_values h)) → last ≡ table_bytes (table_of h rs)
renewed l h rs n e one two a c d b last f =
    f ∙ rw (b, a, zeros-behind l rs n c d) (head-last l h rs e (pad-length rs (omega (arith, c, d))))

-- ---- a call on the table that bytes hold, or on none
module _ (s : List ℕ) (call : Table → Changed) where
  pub changed_none : ((t : Table) → within_rule t ≡ false → (call t).refused ≡ 14) → holds_table s ≡ false → table_left 14 s ≡ changed_by s call
  unfolding changed_by holds_table
  changed_none f e = go (is_table s) refl
    where
      go : (b : Bool) → is_table s ≡ b → table_left 14 s ≡ table_left (cond b (call (table_in s)).refused 14) (cond (eqb (cond b (call (table_in s)).refused 14) 0) (table_bytes (call (table_in s)).table) s)
      go true q = rw (f (table_in s) (rw q at e))
      go false q = refl

  module _ (n : ℕ) (e : holds_table s ≡ true) (f : n ≡ (call (table_in s)).refused) where
    pub changed_refused : (n ≡ 0 → ⊥) → table_left n s ≡ changed_by s call
    unfolding changed_by
    changed_refused z = rw (judged-table s e, ← f, ne_eqb n 0 z)

    pub changed_accepted : n ≡ 0 → (last : List ℕ) → last ≡ table_bytes (call (table_in s)).table → table_left 0 last ≡ changed_by s call
    unfolding changed_by
    changed_accepted z last l = rw (judged-table s e, ← f, z, l)

-- ---- forgetting
module _ (s : List ℕ) (e : holds_table s ≡ true) (h : Head) (q : h ≡ head_of (table_in s)) (unit time n : ℕ) (f : n ≡ first (unforgotten_reasons h.own h.time unit time)) where
  pub forget-number : n ≡ (forget_of (table_in s) unit time).refused
  unfolding forget_of
  forget-number = f ∙ rw (q, judged-rule s e)

  pub forget-table : n ≡ 0
      → table_of (record { own = h.own; time = time; forwarded = h.forwarded; origin = h.origin; sequence = h.sequence }) (kept unit time (rows_of (table_in s))) ≡ (forget_of (table_in s) unit time).table
  unfolding forget_of
  forget-table z =
      let none : first (unforgotten_reasons (table_in s).own (table_in s).time unit time) ≡ 0 = sym (f ∙ rw q) ∙ z in
      rw (q, judged-rule s e, none)

pub unforgotten : (unit time : ℕ) (t : Table) → within_rule t ≡ false → (forget_of t unit time).refused ≡ 14
unfolding forget_of
unforgotten unit time t e = rw e

-- ---- passing on: no row leads to 0 or through it
kept_whole : (own last time : ℕ) (rs : List Row) → every (row_rule own last) rs ≡ true → map (forgotten 0 time) rs ≡ rs
unfolding every
kept_whole own last time [] e = refl
kept_whole own last time (r ∷ rs) e =
    let (here, later) = (and-eq-true_iff (row_rule own last r) (every (row_rule own last) rs)).0 e in
    let k = ruled own last r here in
    let to = ne_eqb r.destination 0 (λ z. omega (arith, address-least r.destination k.destination)) in
    let by = ne_eqb r.next_hop 0 (λ z. omega (arith, address-least r.next_hop k.hop)) in
    rw (to, by, and-false (usable time r), kept_whole own last time rs later)

-- a table that is not asked, since something refuses the beacon before
pub refused_before : (s : List ℕ) (before network : ℕ) (p : Passing) (delay time behind : ℕ) → holds_table s ≡ true → (before ≡ 0 → ⊥)
    → before ≡ (pass_of (table_in s) before network p delay time behind).refused
unfolding pass_of
refused_before s before network p delay time behind holds z = rw (judged-rule s holds, ne_eqb before 0 z)

-- the number that refuses it, and the table where none does
module _ (s : List ℕ) (before network : ℕ) (p : Passing) (delay time behind : ℕ) where
  pub pass-first : (n : ℕ) → n ≡ first (pass_reasons (table_in s) before network p delay time behind) → n ≡ (pass_of (table_in s) before network p delay time behind).refused
  unfolding pass_of
  pass-first n f = f

  pub passed-table : holds_table s ≡ true → 0 ≡ first (pass_reasons (table_in s) before network p delay time behind) → (h : Head) → h ≡ passed_head (head_of (table_in s)) p time
      → table_of h (kept 0 h.time (rows_of (table_in s))) ≡ (pass_of (table_in s) before network p delay time behind).table
  unfolding pass_of
  passed-table holds none h q =
      let t = table_in s in
      let same = kept_whole t.own t.time time (standing time (rows_of t)) (standing-every (row_rule t.own t.time) time (rows_of t) (within t (judged-rule s holds)).rules) in
      rw (← none, q, same)

-- what the code has when it decides on passing a beacon on
pub record Asked (s : List ℕ) (before network : ℕ) (p : Passing) (delay time why : ℕ) : Type 0 where
  pub holds : holds_table s ≡ true
  pub unrefused : before ≡ 0
  pub head : Head
  pub row : Row
  pub found : Found
  pub headed : head ≡ head_of (table_in s)
  pub looked : row ≡ row_for p.original_source (rows_in s)
  pub told : found ≡ found_by head.time row p.original_source time
  pub why_not : why ≡ first (passing_reasons head found network p delay time)

module _ (s : List ℕ) (before network : ℕ) (p : Passing) (delay time behind why : ℕ) (k : Asked s before network p delay time why) where
  pub number : cond (not (eqb why 0)) why behind ≡ first (pass_reasons (table_in s) before network p delay time behind)
  number = asked (table_in s) before network p delay time behind (judged-rule s k.holds) k.unrefused why (k.why_not ∙ rw (k.told, k.looked, rows_in_lem s (judged-length s k.holds), k.headed))

  pub pass-refusal : (n : ℕ) → n ≡ cond (not (eqb why 0)) why behind → n ≡ (pass_of (table_in s) before network p delay time behind).refused
  unfolding pass_of
  pass-refusal n f = f ∙ number

  pub pass-table : 0 ≡ cond (not (eqb why 0)) why behind → (h : Head) → h ≡ passed_head (head_of (table_in s)) p time
      → table_of h (kept 0 h.time (rows_of (table_in s))) ≡ (pass_of (table_in s) before network p delay time behind).table
  pass-table f h q = passed-table s before network p delay time behind k.holds (f ∙ number) h q

pub unpassed : (before network : ℕ) (p : Passing) (delay time behind : ℕ) (t : Table) → within_rule t ≡ false → (pass_of t before network p delay time behind).refused ≡ 14
unfolding pass_of
unpassed before network p delay time behind t e = rw e
