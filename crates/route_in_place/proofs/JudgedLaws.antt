-- One loop over the rows in use, each against the one before, and one over the zeros behind, judge what the definition does.
-- Assumes nothing.
use Rattle.octets.proofs.Words.{◌≡◌, refl, sym, ap, ap₂, ◌∙◌, Bool, true, false, not, ◌&&◌, ◌||◌, cond, false≢true, and-true, and-false, and_assoc, and-eq-true_iff, List, [], ◌∷◌, ℕ, zero, suc, ◌+◌, ◌*◌, ◌-◌, ◌≤◌, ◌<◌, ℕ_discrete, dec_lt, add-one, arith, eq-eqb, ne_eqb, lt-ltb, le-ltb, le-leb, lt-leb, leb-true, not-true, not-false, eqb, leb, ltb, length, take, drop, drop_of_length-le, drop-cons}
use Rattle.std.specs.Option.{is_some}
use Rattle.std.specs.Prelude.{IfSome, Option, Some, None}
use Rattle.octets.specs.Layouts.{fields}
use Rattle.octets.specs.Lists.{tab, every}
use Rattle.octets.specs.Numbers.{num}
use Rattle.octets.proofs.LayoutLaws.{fields-part}
use Rattle.octets.specs.Places.{first_key}
use Rattle.octets.proofs.NumberLaws.{num-part}
use Rattle.octets.proofs.PlaceLaws.{none_first}
use Rattle.octets.proofs.ListLaws.{length-tab, get_or-tab}
use Rattle.route_table.specs.declared.row.Row.{Row}
use Rattle.route_table.specs.Places.{carries_rule, ok_places}
use Rattle.route_table.specs.Rows.{is_none, leading_to, in_use, row_for}
use Rattle.route_table.specs.declared.table.Head.{Head}
use Rattle.route_table.specs.Tables.{head_of, pair_ok, within_rule}
use Rattle.octets.specs.Addresses.{address}
use Rattle.route_table.proofs.PlaceLaws.{rule-carries, ok_right}
use Rattle.route_table.proofs.TableLaws.{table_right}
use Rattle.route_bytes.specs.TableBytes.{row_widths, row_from, row_at, rows_in, table_in, flags_ok, is_table, holds_table}
use Rattle.route_bytes.proofs.TableByteLaws.{table-length, rows_in_lem}
use Rattle.octets.specs.Zeros.{is_zero, zeros_from}
use Rattle.route_in_place.specs.declared.judging.Front.{Front}
use Rattle.route_in_place.specs.Judged.{rows_ok, front_ok, row_ending}
use Rattle.route_in_place.specs.Lookups.{judged_for}
use Rattle.route_in_place.specs.Outcomes.{Judged, judged}
use Rattle.octets.proofs.ZeroLaws.{fields-zero}

-- ---- lists that are read from bytes, from a place on
pub tab-from : {A : Type 0} (n : ℕ) (f : ℕ → A) (i : ℕ) → i < n → drop i (tab n f) ≡ f i ∷ drop (i + 1) (tab n f)
tab-from n f i h = rw (drop-cons (tab n f) i (f i) (omega (arith, length-tab n f, h)), get_or-tab n f i (f i) h, add-one)

pub tab-past : {A : Type 0} (n : ℕ) (f : ℕ → A) (i : ℕ) → n ≤ i → drop i (tab n f) ≡ []
tab-past n f i h =
    let k : length (tab n f) ≤ i = omega (arith, length-tab n f, h) in
    drop_of_length-le (tab n f) k

abbrev small : ℕ → Bool
small v = leb v 1

abbrev flag_at : List ℕ → ℕ → ℕ
flag_at s i = num 1 s (21 + 11 * i)

-- ---- an empty place is 11 zeros
flag-zero : (v : ℕ) → (leb v 1 && not (eqb v 1)) ≡ is_zero v
flag-zero v = go (ℕ_discrete v 0) (ℕ_discrete v 1)
  where
    go : Dec (v ≡ 0) → Dec (v ≡ 1) → (leb v 1 && not (eqb v 1)) ≡ is_zero v
    go (yes z) d = rw z
    go (no z) (yes o) = rw o
    go (no z) (no o) = rw (lt-leb v 1 (omega (arith, z, o)), ne_eqb v 0 z)

one_by_one : (d h n q t l f : Bool) → (l && (d && h && n && q && t && f)) ≡ (d && (h && (n && (q && (t && ((l && f) && true))))))
one_by_one true true true true true l f = sym (and-true (l && f))
one_by_one true true true true false l f = and-false l
one_by_one true true true false t l f = and-false l
one_by_one true true false q t l f = and-false l
one_by_one true false n q t l f = and-false l
one_by_one false h n q t l f = and-false l

row_zero : (d h n q t v : ℕ) → (small v && is_none (row_from (d ∷ h ∷ n ∷ q ∷ t ∷ v ∷ []))) ≡ every is_zero (d ∷ h ∷ n ∷ q ∷ t ∷ v ∷ [])
unfolding every
row_zero d h n q t v =
    one_by_one (is_zero d) (is_zero h) (is_zero n) (is_zero q) (is_zero t) (small v) (not (eqb v 1)) ∙ rw (flag-zero v)

place-zero : (s : List ℕ) (i : ℕ) → (small (flag_at s i) && is_none (row_at s i)) ≡ every is_zero (fields row_widths s (11 + 11 * i))
unfolding row_at
place-zero s i =
    let at = 11 + 11 * i in
    let e : 21 + 11 * i ≡ at + 2 + 2 + 1 + 1 + 4 = omega arith in
    rw e (row_zero (num 2 s at) (num 2 s (at + 2)) (num 1 s (at + 2 + 2)) (num 1 s (at + 2 + 2 + 1)) (num 4 s (at + 2 + 2 + 1 + 1)) (num 1 s (at + 2 + 2 + 1 + 1 + 4)))

swap : (f e n o : Bool) → (f && e && (n && o)) ≡ (f && n && (e && o))
swap true true n o = refl
swap true false true o = refl
swap true false false o = refl
swap false e n o = refl

-- what is asked of a row that is above the one below, in the definition's order and in the code's; that the one below is to an address follows
regroup : (b l c f a e o : Bool) → (l ≡ true → b ≡ true) → (b && (f && e && (l && c && a && o))) ≡ (c && f && (l && (a && (e && o))))
regroup b false c f a e o h = rw (and-false (f && e)) (and-false b ∙ sym (and-false (c && f)))
regroup b true c f a e o h = rw (h refl) (go c f a)
  where
    go : (c f a : Bool) → (f && e && (c && a && o)) ≡ (c && f && (a && (e && o)))
    go true true true = refl
    go true true false = and-false e
    go true false a = refl
    go false f a = and-false (f && e)

-- rows may follow one with this destination
abbrev follow : ℕ → List Row → Bool
follow below rs = eqb (first_key leading_to rs) 0 || ltb below (first_key leading_to rs)

-- an address is no higher than this
abbrev few : ℕ → Bool
few d = leb d 0xFFFE

-- the rows passed are right: the rest is right exactly if the whole is
pub record Judging (s : List ℕ) (own last wanted below past place : ℕ) : Type 0 where
  pub within : place ≤ 48
  pub rest : (few below && (follow below (drop place (tab 48 (row_at s))) && (every small (drop place (tab 48 (flag_at s))) && ok_places own last (drop place (tab 48 (row_at s)))))) ≡ rows_ok own last s
  -- the row that is wanted was found, or it is among the rest; where it was found, no row of the rest is as low
  pub room : past ≤ 539
  pub left : cond (ltb past 11) (row_for wanted (in_use (drop place (tab 48 (row_at s))))) (row_from (fields row_widths s (past - 11))) ≡ row_for wanted (in_use (tab 48 (row_at s)))
  pub once : 11 ≤ past → wanted ≤ below

-- what is known of the rows when they were passed
abbrev Passed : List ℕ → ℕ → ℕ → ℕ → Option Front → Type 0
Passed s own last wanted found =
    (front_ok found s ≡ rows_ok own last s)
    × IfSome found (λ front. (front.past ≤ 539) × (front_ok found s ≡ true → row_ending front.past s ≡ row_for wanted (in_use (tab 48 (row_at s)))))

-- the rows in front, as the code has them
abbrev front_at : ℕ → ℕ → ℕ → Option Front
front_at end highest past = Some (record { end = end; highest = highest; past = past })

-- ---- a row through a part of known length
module _ (s : List ℕ) (i : ℕ) where
  abbrev pub part : List ℕ
  part = take (11 + 11 * i + 11 - (11 + 11 * i)) (drop (11 + 11 * i) s)

  pub part-row : (r : Row) → r ≡ row_from (fields row_widths part 0) → r ≡ row_at s i
  unfolding row_at
  part-row r e = e ∙ ap row_from (fields-part row_widths s (11 + 11 * i) (11 + 11 * i + 11 - (11 + 11 * i)) (omega arith))

  part-flag : (v : ℕ) → v ≡ num 1 part 10 → v ≡ flag_at s i
  part-flag v e =
      let k : 11 + 11 * i + 10 ≡ 21 + 11 * i = omega arith in
      e ∙ (rw k at (num-part 1 s (11 + 11 * i) (11 + 11 * i + 11 - (11 + 11 * i)) 10 (omega arith)))

module _ (s : List ℕ) (l : length s ≡ 539) where
  behind : (n i : ℕ) → n + i ≡ 48 → (every small (drop i (tab 48 (flag_at s))) && every is_none (drop i (tab 48 (row_at s)))) ≡ zeros_from (11 + 11 * i) s
  unfolding every
  behind zero i e =
      let h : 48 ≤ i = omega arith in
      let k : length s ≤ 11 + 11 * i = omega arith in
      rw (tab-past 48 (flag_at s) i h, tab-past 48 (row_at s) i h, drop_of_length-le s k)
  behind (suc n) i e =
      let h : i < 48 = omega arith in
      let next : 11 + 11 * i + 11 ≡ 11 + 11 * (i + 1) = omega arith in
      rw (tab-from 48 (flag_at s) i h, tab-from 48 (row_at s) i h)
      (swap (small (flag_at s i)) (every small (drop (i + 1) (tab 48 (flag_at s)))) (is_none (row_at s i)) (every is_none (drop (i + 1) (tab 48 (row_at s))))
      ∙ (ap₂ ◌&&◌ (place-zero s i) (behind n (i + 1) (omega arith))
      ∙ sym (rw next at (fields-zero row_widths s (11 + 11 * i) (omega arith)))))

  module _ (own last : ℕ) where
    none_ok : (rs : List Row) → first_key leading_to rs ≡ 0 → ok_places own last rs ≡ every is_none rs
    unfolding every
    none_ok rs z = ok_right own last rs ∙ rw (none_first leading_to rs z)

    module _ (wanted below past place : ℕ) (j : Judging s own last wanted below past place) where
      abbrev rows : List Row
      rows = drop place (tab 48 (row_at s))

      abbrev flags : List ℕ
      flags = drop place (tab 48 (flag_at s))

      -- none of the rest is in use
      found : in_use rows ≡ [] → row_ending past s ≡ row_for wanted (in_use (tab 48 (row_at s)))
      found e = rw e at j.left

      -- no row is left
      pub none_left : 48 ≤ place → Passed s own last wanted (front_at 539 below past)
      unfolding every
      none_left e =
          let k : length s ≤ 539 = omega arith in
          let all : place ≡ 48 = omega (arith, j.within) in
          let past : rows ≡ [] = rw all (tab-past 48 (row_at s) 48 (omega arith)) in (
            rw (drop_of_length-le s k) (rw (all, tab-past 48 (row_at s) 48 (omega arith), tab-past 48 (flag_at s) 48 (omega arith)) at j.rest),
            (j.room, λ t. found (rw past)),
          )

      module _ (inside : place < 48) where
        abbrev start : ℕ
        start = 11 + 11 * place

        module _ (r : Row) (read : r ≡ row_from (fields row_widths (part s place) 0)) where
          same : r ≡ row_at s place
          same = part-row s place r read

          first : first_key leading_to rows ≡ r.destination
          first = rw (tab-from 48 (row_at s) place inside, ← same)

          -- a place that is not above the row below: an empty one, where there may be zeros alone, or one that is no zeros
          pub ended : r.destination ≤ below → Passed s own last wanted (front_at start below past)
          unfolding every row_at
          ended k = go (ℕ_discrete r.destination 0)
            where
              go : Dec (r.destination ≡ 0) → Passed s own last wanted (front_at start below past)
              go (yes z) =
                  let none : first_key leading_to rows ≡ 0 = first ∙ z in
                  let zeros : (every small flags && ok_places own last rows) ≡ zeros_from (11 + 11 * place) s =
                  ap (λ (b : Bool). every small flags && b) (none_ok rows none) ∙ behind (48 - place) place (omega (arith, inside)) in (
                    rw (← zeros) (rw (eq-eqb (first_key leading_to rows) 0 none) at j.rest),
                    (j.room, λ t. found (none_first leading_to rows none)),
                  )
              go (no n) =
                  let number : num 2 s (11 + 11 * place) ≡ r.destination = sym (ap (λ (x : Row). x.destination) same) in
                  let some : num 2 s (11 + 11 * place) ≡ 0 → ⊥ = λ z. n (sym number ∙ z) in
                  let cut : front_ok (front_at start below past) s ≡ (few below && false) =
                  rw (fields-zero row_widths s (11 + 11 * place) (omega (arith, inside)), ne_eqb _ 0 some) in (
                    cut ∙ (rw (first, ne_eqb r.destination 0 n, le-ltb below r.destination k) at j.rest),
                    (j.room, λ t. absurd (false≢true (sym (and-false (few below)) ∙ (sym cut ∙ t)))),
                  )

          module _ (above : below < r.destination) (good : Bool) (e : good ≡ carries_rule own last r) (v : ℕ)
              (flag : v ≡ num 1 (part s place) 10) where
            abbrev kept : Bool
            kept = good && leb v 1

            abbrev rows_on : List Row
            rows_on = drop (place + 1) (tab 48 (row_at s))

            abbrev flags_on : List ℕ
            flags_on = drop (place + 1) (tab 48 (flag_at s))

            turn : (kept && (few r.destination && (follow r.destination rows_on && (every small flags_on && ok_places own last rows_on)))) ≡ rows_ok own last s
            unfolding every
            turn =
                let d = r.destination in
                let lowest : leb 1 d ≡ true = le-leb 1 d (omega arith) in
                sym (regroup (few below) (few d) good (small v) (follow d rows_on) (every small flags_on) (ok_places own last rows_on) (λ q. le-leb below 0xFFFE (omega (arith, leb-true d 0xFFFE q))))
                ∙ (rw (tab-from 48 (row_at s) place inside, tab-from 48 (flag_at s) place inside, ← same, ← part-flag s place v flag, ne_eqb d 0 (omega arith), lt-ltb below d (omega arith), ← rule-carries own last r, ← e, lowest) at j.rest)

            pub row-bad : not kept ≡ true → Passed s own last wanted None
            row-bad t = (rw (not-true kept t) at turn, tt)

            -- the rest has one row less
            on : row_for wanted (in_use rows) ≡ cond (eqb r.destination wanted) r (row_for wanted (in_use rows_on))
            on = rw (tab-from 48 (row_at s) place inside, ← same, ne_eqb r.destination 0 (omega arith))

            left-on : (next : ℕ) → next ≡ cond (eqb r.destination wanted) (start + 11) past
                → (next ≤ 539) × (cond (ltb next 11) (row_for wanted (in_use rows_on)) (row_from (fields row_widths s (next - 11))) ≡ row_for wanted (in_use (tab 48 (row_at s)))) × (11 ≤ next → wanted ≤ r.destination)
            left-on next n = go (ℕ_discrete r.destination wanted) (dec_lt past 11)
              where
                go : Dec (r.destination ≡ wanted) → Dec (past < 11)
                    → (next ≤ 539) × (cond (ltb next 11) (row_for wanted (in_use rows_on)) (row_from (fields row_widths s (next - 11))) ≡ row_for wanted (in_use (tab 48 (row_at s)))) × (11 ≤ next → wanted ≤ r.destination)
                go (yes q) (no z) = absurd (omega (arith, j.once (omega (arith, z))))
                go (yes q) (yes z) =
                    let here : next ≡ start + 11 = rw (eq-eqb r.destination wanted q) at n in
                    let from : next - 11 ≡ start = omega arith in
                    let row : row_from (fields row_widths s start) ≡ r = sym (read ∙ ap row_from (fields-part row_widths s start (start + 11 - start) (omega arith))) in (
                      omega (arith, inside),
                      rw (le-ltb next 11 (omega arith), from, row) (rw (lt-ltb past 11 z, on, eq-eqb r.destination wanted q) at j.left),
                      λ s. omega arith,
                    )
                go (no q) d =
                    let here : next ≡ past = rw (ne_eqb r.destination wanted q) at n in (
                      omega (arith, j.room),
                      rw here (rw (on, ne_eqb r.destination wanted q) at j.left),
                      λ s. omega (arith, j.once (omega (arith, s))),
                    )

            pub row_kept : not kept ≡ false → (next : ℕ) → next ≡ cond (eqb r.destination wanted) (start + 11) past → Judging s own last wanted r.destination next (place + 1)
            row_kept t next n =
                let (room, left, once) = left-on next n in
                record { within = omega (arith, inside); rest = rw (not-false kept t) at turn; room = room; left = left; once = once }

pub judging : (s : List ℕ) (own last wanted : ℕ) → Judging s own last wanted 0 0 0
judging s own last wanted =
    record { within = omega arith; rest = rw (above_none (first_key leading_to (tab 48 (row_at s)))); room = omega arith; left = refl; once = λ z. omega (arith, z) }
  where
    above_none : (d : ℕ) → (eqb d 0 || ltb 0 d) ≡ true
    above_none d = go (ℕ_discrete d 0)
      where
        go : Dec (d ≡ 0) → (eqb d 0 || ltb 0 d) ≡ true
        go (yes z) = rw (eq-eqb d 0 z)
        go (no z) = rw (ne_eqb d 0 z, lt-ltb 0 d (omega (arith, z)))

-- ---- the head, the rows and the zeros are the definition
head_first : (a f p g o : Bool) → (a && f && p && (g && o)) ≡ (true && f && g && (a && p && o))
head_first true true true g o = refl
head_first true true false g o = sym (and-false g)
head_first true false p g o = refl
head_first false f p g o = sym (and-false (f && g))

pub no_length : (s : List ℕ) → (length s ≡ 539 → ⊥) → false ≡ holds_table s
unfolding is_table holds_table
no_length s n = rw (ne_eqb (length s) 539 n)

-- a row through a part, where it ends
module _ (s : List ℕ) (past : ℕ) where
  pub ends : 11 ≤ past → (r : Row) → r ≡ row_from (fields row_widths (take (past - (past - 11)) (drop (past - 11) s)) 0) → r ≡ row_ending past s
  ends n r e = e ∙ rw (le-ltb past 11 n) (ap row_from (fields-part row_widths s (past - 11) (past - (past - 11)) (omega arith)))

pub some_holds : (answer : Option Row) → is_some answer ≡ (judged answer).holds
some_holds (Some r) = refl
some_holds None = refl

pub judged-none : (s : List ℕ) (d : ℕ) → false ≡ holds_table s → judged None ≡ judged_for d s
judged-none s d e = rw (← e)

pub judged-some : (s : List ℕ) (d : ℕ) (r : Row) → true ≡ holds_table s → r ≡ row_for d (rows_in s) → judged (Some r) ≡ judged_for d s
judged-some s d r e q = rw (← e, q)

module _ (s : List ℕ) (l : length s ≡ 539) (h : Head) (e : h ≡ head_of (table_in s)) (wanted : ℕ) where
  abbrev pair : Bool
  pair = pair_ok h.forwarded h.origin h.sequence

  whole : (found : Option Front) → Passed s h.own h.time wanted found → (address h.own && leb (num 1 s 6) 1 && pair && front_ok found s) ≡ holds_table s
  unfolding is_table table_in holds_table
  whole found q =
      let places = ok_places h.own h.time (tab 48 (row_at s)) in
      let known : (true && leb (num 1 s 6) 1 && flags_ok 48 s) ≡ is_table s = rw (eq-eqb (length s) 539 l) in
      let rule : (address h.own && pair && places) ≡ within_rule (table_in s) = rw e (table_right (table_in s) _ _ (length-tab 48 (row_at s)) refl refl) in
      rw q.0 (head_first (address h.own) (leb (num 1 s 6) 1) pair (flags_ok 48 s) places ∙ ap₂ ◌&&◌ known rule)

  pub rows-bad : Passed s h.own h.time wanted None → false ≡ holds_table s
  rows-bad q = sym (and-false (address h.own && leb (num 1 s 6) 1 && pair)) ∙ whole None q

  module _ (front : Front) (q : Passed s h.own h.time wanted (Some front)) where
    pub all-judged : (flag : ℕ) (right zeros : Bool) → flag ≡ num 1 s 6 → right ≡ pair → zeros ≡ zeros_from front.end s
        → (address h.own && leb flag 1 && right && leb front.highest 0xFFFE && zeros) ≡ holds_table s
    all-judged flag right zeros f p z =
        rw (f, p, z) (and_assoc (address h.own && leb (num 1 s 6) 1 && pair) (leb front.highest 0xFFFE) (zeros_from front.end s) ∙ whole (Some front) q)

    -- the row that was found is that of the table
    pub judged-row : true ≡ holds_table s → row_ending front.past s ≡ row_for wanted (rows_in s)
    unfolding table_in
    judged-row t =
        let right = ((and-eq-true_iff (address h.own && leb (num 1 s 6) 1 && pair) (front_ok (Some front) s)).0 (whole (Some front) q ∙ sym t)).1 in
        q.1.1 right ∙ ap (row_for wanted) (sym (rows_in_lem s l))

-- ---- what holds of bytes that hold a table within rule
module _ (s : List ℕ) (e : holds_table s ≡ true) where
  pub judged-table : is_table s ≡ true
  unfolding holds_table
  judged-table = ((and-eq-true_iff (is_table s) (within_rule (table_in s))).0 e).0

  pub judged-rule : within_rule (table_in s) ≡ true
  unfolding holds_table
  judged-rule = ((and-eq-true_iff (is_table s) (within_rule (table_in s))).0 e).1

  pub judged-length : length s ≡ 539
  judged-length = table-length s judged-table

  pub judged_flags : flags_ok 48 s ≡ true
  unfolding is_table
  judged_flags = ((and-eq-true_iff (eqb (length s) 539 && leb (num 1 s 6) 1) (flags_ok 48 s)).0 judged-table).1

-- ---- what judging for a destination tells
module _ (s : List ℕ) (d : ℕ) (j : Judged) (e : j ≡ judged_for d s) where
  pub judged-holds : (b : Bool) → j.holds ≡ b → holds_table s ≡ b
  judged-holds b t = sym (ap (λ (x : Judged). x.holds) e) ∙ t

  pub judged-found : j.holds ≡ true → j.row ≡ row_for d (rows_in s)
  judged-found t = ap (λ (x : Judged). x.row) e ∙ rw (judged-holds true t)
