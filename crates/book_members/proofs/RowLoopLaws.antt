-- The loops over the rows of a book: from the last row down, from the first up, and each row changed.
-- Assumes nothing.
use borrow.Rule.Slice.PartMut.{put_mid}
use Rattle.octets.proofs.Words.{◌≡◌, refl, sym, ap, ap₂, ◌∙◌, Bool, true, false, ◌&&◌, List, [], ◌∷◌, ◌++◌, map, append-nil, ℕ, zero, suc, ◌+◌, ◌-◌, ◌≤◌, ◌<◌, ◌^◌, min, add-one, arith, eq-eqb, ne_eqb, lt-leb, dec_le, not, ◌||◌, or-true, and-true, and_assoc, and-eq-true_iff, false≢true, eqb-true, eqb-false, take-suc, eqb, leb, length, get_or, take, drop, set, length-map, length-take, get_or-map, drop_of_length-le, drop-cons, take_all, take-suc-set, drop-set-lt, append_snoc}
use Rattle.std.specs.List.{list_all, position, position_or_len, slice_get}
use Rattle.std.specs.Option.{option_copied}
use Rattle.std.proofs.Common.{Option, Some, None, MatchOption, Bor}
use Rattle.std.proofs.lemmas.List.{take-map}
use Rattle.std.proofs.lemmas.List.Recursion.{is_position_or_len}
use Rattle.book_members.specs.declared.member.Member.{Member}
use Rattle.octets.specs.Lists.{every}
use Rattle.moments.specs.Moments.{age_at}
use Rattle.slot_sets.specs.Sets.{slots_of, is_empty, disjoint, count}
use Rattle.slot_sets.proofs.MaskLaws.{mask_empty}
use Rattle.book_members.specs.Members.{Row, row_of, rows_of, LentRows, empty_row, kept, current, place_for, placed, held_slots, free, vacant}
use Rattle.book_members.specs.Rules.{empty_is, row_rule, past_time, unknown_in, distinct, apart, led_by, rows_rule}
use Rattle.book_members.specs.Judging.{judged}

-- what an array reads as past its end
abbrev pub nobody : Member
nobody = record { unit = 0; slots = 0; time = 0 }

-- rows that lie at one place and are the same
pub lie_there : (block : ℕ) {start start' : ℕ} {rs rs' : List Row} → start ≡ start' → rs ≡ rs'
    → ◌≡◌ {A = LentRows} (record { block = block; start = start; rows = rs }) (record { block = block; start = start'; rows = rs' })
lie_there block p q = ap₂ {C = LentRows} (λ n l. record { block = block; start = n; rows = l }) p q

-- the rows that a plan uses, as a slice of the array
pub rows_used : (ms : List Member) (n : ℕ) → length ms ≡ 21 → (rows_of (take (min n 21) ms) ≡ take n (rows_of ms)) × (length (take (min n 21) ms) ≡ min n 21)
unfolding rows_of
rows_used ms n l = (sym (take-map row_of (min n 21) ms) ∙ least (dec_le n 21), length-take (min n 21) ms ∙ omega (arith, l))
  where
    least : Dec (n ≤ 21) → take (min n 21) (map row_of ms) ≡ take n (map row_of ms)
    least (yes h) = let e : min n 21 ≡ n = omega arith in ap (λ (k : ℕ). take k (map row_of ms)) e
    least (no h) =
        let long = length-map ms row_of in
        let e : min n 21 ≡ 21 = omega arith in
        ap (λ (k : ℕ). take k (map row_of ms)) e ∙ (take_all 21 (map row_of ms) (omega (arith, long)) ∙ sym (take_all n (map row_of ms) (omega (arith, long))))

module _ (ms : List Member) where
  pub rows-length : length (rows_of ms) ≡ length ms
  unfolding rows_of
  rows-length = length-map ms row_of

  -- one row and those behind it
  pub row_and_rest : (i : ℕ) → i < length ms → drop i (rows_of ms) ≡ row_of (get_or ms i nobody) ∷ drop (suc i) (rows_of ms)
  unfolding rows_of
  row_and_rest i h =
      drop-cons (map row_of ms) i (row_of nobody) (omega (arith, h, rows-length)) ∙
      ap (λ (r : Row). r ∷ drop (suc i) (map row_of ms)) (get_or-map row_of ms i nobody)

  pub none_left : (i : ℕ) → length ms ≤ i → drop i (rows_of ms) ≡ []
  none_left i h = drop_of_length-le (rows_of ms) {i = i} (omega (arith, h, rows-length))

  -- downward: the row below a place
  pub row_below : (i : ℕ) → 0 < i → i ≤ length ms → drop (i - 1) (rows_of ms) ≡ row_of (get_or ms (i - 1) nobody) ∷ drop i (rows_of ms)
  row_below i p h =
      let e : suc (i - 1) ≡ i = omega arith in
      row_and_rest (i - 1) (omega (arith, h)) ∙ ap (λ (k : ℕ). row_of (get_or ms (i - 1) nobody) ∷ drop k (rows_of ms)) e

-- where the first row of a unit is
pub placed_position : (unit : ℕ) (ms : List Member) → position (λ (m : Member). eqb m.unit unit) ms ≡ placed unit (rows_of ms)
unfolding place_for rows_of
placed_position unit ms =
    let e : place_for unit (map row_of ms) ≡ position_or_len (λ (m : Member). eqb m.unit unit) ms = is_position_or_len (λ (l : List Member). place_for unit (map row_of l)) (λ (m : Member). eqb m.unit unit) refl (λ m l. refl) ms in
    rw (e, length-map ms row_of)

-- ---- silent
module _ (time : ℕ) (r : Row) (age : ℕ) (e : age ≡ age_at time r.time) where
  pub silent_dropped : 300000 < age → empty_row ≡ kept time r
  silent_dropped h = rw (← e, lt-leb age 300000 h)

-- ---- each row but the first changed
map-set : (f : Member → Row) (ms : List Member) (i : ℕ) (m : Member) → map f (set ms i m) ≡ set (map f ms) i (f m)
map-set f [] i m = refl
map-set f (x ∷ ms) zero m = refl
map-set f (x ∷ ms) (suc i) m = ap (λ (l : List Row). f x ∷ l) (map-set f ms i m)

module _ (time i : ℕ) (ms : List Member) (whole : List Row) (e : take i (rows_of ms) ++ map (kept time) (drop i (rows_of ms)) ≡ whole) where
  pub current-turn : i < length ms → (m : Member) → row_of m ≡ kept time (row_of (get_or ms i nobody))
      → take (i + 1) (rows_of (set ms i m)) ++ map (kept time) (drop (i + 1) (rows_of (set ms i m))) ≡ whole
  unfolding rows_of
  current-turn h m q =
      let long : length (map row_of ms) ≡ length ms = length-map ms row_of in
      let here : drop i (map row_of ms) ≡ row_of (get_or ms i nobody) ∷ drop (suc i) (map row_of ms) =
      drop-cons (map row_of ms) i (row_of nobody) (omega (arith, long)) ∙ ap (λ (r : Row). r ∷ drop (suc i) (map row_of ms)) (get_or-map row_of ms i nobody) in
      rw (add-one, map-set row_of ms i m, take-suc-set (map row_of ms) i (row_of m) (omega (arith, long)), drop-set-lt (suc i) (map row_of ms) i (row_of m) (omega arith), append_snoc, q)
      ((rw here at e))

  pub current_end : length ms ≤ i → rows_of ms ≡ whole
  unfolding rows_of
  current_end h =
      let long : length (map row_of ms) ≤ i = omega (arith, length-map ms row_of) in
      sym (append-nil (map row_of ms)) ∙ (rw (take_all i (map row_of ms) long, drop_of_length-le (map row_of ms) long) at e)

-- the array, when all behind its first row are changed
pub current_put : (time : ℕ) (ms later : List Member) → length ms ≡ 21 → rows_of later ≡ map (kept time) (rows_of (take 20 (drop 1 ms))) → rows_of (put_mid 1 20 ms later) ≡ current time (rows_of ms)
unfolding rows_of current
current_put time [] later l e = absurd (omega (arith, l))
current_put time (m ∷ ms) later l e =
    let none : drop 20 ms ≡ [] = drop_of_length-le ms {i = 20} (omega (arith, l)) in
    let all : take 20 ms ≡ ms = take_all 20 ms (omega (arith, l)) in
    ap (λ (rs : List Row). row_of m ∷ rs)
    (ap (λ (l : List Member). map row_of (later ++ l)) none ∙ (ap (map row_of) (append-nil later) ∙ (e ∙ ap (λ (l : List Member). map (kept time) (map row_of l)) all)))

-- ---- judging rows
-- what one loop sees of the rows is what three of the rules say
judged-all : (manager dataSlots last : ℕ) (rs : List Row)
    → judged manager dataSlots last rs ≡ ((every (row_rule dataSlots) rs && every (past_time manager last) rs) && apart rs)
unfolding every
judged-all manager dataSlots last [] = refl
judged-all manager dataSlots last (r ∷ rs) =
    rw (judged-all manager dataSlots last rs)
    (regroup (row_rule dataSlots r) (past_time manager last r) (disjoint r.slots (held_slots rs)) (every (row_rule dataSlots) rs) (every (past_time manager last) rs) (apart rs))
  where
    regroup : (r p d e q a : Bool) → ((r && p) && d && ((e && q) && a)) ≡ (((r && e) && (p && q)) && (d && a))
    regroup true true true e q a = refl
    regroup true true false true true a = refl
    regroup true true false true false a = refl
    regroup true true false false q a = refl
    regroup true false d true q a = refl
    regroup true false d false q a = refl
    regroup false p d e q a = refl

-- the rows within rule, from what the code sees of them
pub rows_ruled : (manager dataSlots last : ℕ) (rs : List Row) (led good unlike : Bool) (empty room : ℕ) → led ≡ led_by manager rs → good ≡ judged manager dataSlots last rs → unlike ≡ distinct rs
    → empty ≡ vacant rs → room ≡ count (free dataSlots rs) → (led && good && unlike && leb empty room) ≡ rows_rule manager dataSlots last rs
unfolding rows_rule
rows_ruled manager dataSlots last rs led good unlike empty room l g u e r =
    rw (l, g, u, e, r, judged-all manager dataSlots last rs)
    (regrouped (led_by manager rs) (every (row_rule dataSlots) rs) (every (past_time manager last) rs) (distinct rs) (apart rs) _)
  where
    regrouped : (x e p d a v : Bool) → (x && ((e && p) && a) && d && v) ≡ (x && e && p && d && a && v)
    regrouped true true true true true v = refl
    regrouped true true true true false v = refl
    regrouped true true true false true v = refl
    regrouped true true true false false v = refl
    regrouped true true false d a v = refl
    regrouped true false p d a v = refl
    regrouped false e p d a v = refl

-- the first row's unit, or no row, from what is asked of the row that a slice begins with
abbrev of_first : ℕ → Option Member → Bool
of_first manager None = false
of_first manager (Some m) = eqb m.unit manager

first_asked : (manager : ℕ) (ms : List Member) → of_first manager (slice_get ms 0) ≡ led_by manager (rows_of ms)
unfolding rows_of
first_asked manager [] = refl
first_asked manager (m ∷ ms) = refl

pub first_is : (manager : ℕ) (ms : List Member) (first : Option (Bor Member)) → option_copied first ≡ slice_get ms 0 → (b : Bool) → {P : Bor Member → Type 0} → MatchOption first (b ≡ false) P
    → ((m : Bor Member) → P m → b ≡ eqb m.now.unit manager) → b ≡ led_by manager (rows_of ms)
first_is manager ms None e b p k = p ∙ (ap (of_first manager) e ∙ first_asked manager ms)
first_is manager ms (Some first) e b p k = k first p ∙ (ap (of_first manager) e ∙ first_asked manager ms)

-- ---- a test of every row, by an iterator
pub all_unknown : (unit : ℕ) (ms : List Member) → list_all (λ (m : Member). not (eqb m.unit unit)) ms ≡ unknown_in unit (rows_of ms)
unfolding rows_of
all_unknown unit [] = refl
all_unknown unit (m ∷ ms) = ap (λ (b : Bool). not (eqb m.unit unit) && b) (all_unknown unit ms)

pub all_zeros : (ms : List Member) → list_all (λ (m : Member). empty_is (row_of m)) ms ≡ every empty_is (rows_of ms)
unfolding rows_of every
all_zeros [] = refl
all_zeros (m ∷ ms) = ap (λ (b : Bool). empty_is (row_of m) && b) (all_zeros ms)

-- ---- no two rows of one unit
-- one row more, at the end
unknown-snoc : (unit : ℕ) (rs : List Row) (r : Row) → unknown_in unit (rs ++ (r ∷ [])) ≡ (unknown_in unit rs && not (eqb r.unit unit))
unknown-snoc unit [] r = and-true (not (eqb r.unit unit))
unknown-snoc unit (s ∷ rs) r = rw (unknown-snoc unit rs r, and_assoc)

eqb-swap : (m n : ℕ) → eqb m n ≡ eqb n m
eqb-swap m n = go (eqb m n) refl
  where
    go : (b : Bool) → eqb m n ≡ b → b ≡ eqb n m
    go true e = sym (eq-eqb n m (sym (eqb-true m n e)))
    go false e = sym (ne_eqb n m (λ q. eqb-false m n e (sym q)))

pub distinct_snoc : (rs : List Row) (r : Row) → distinct (rs ++ (r ∷ [])) ≡ (distinct rs && (eqb r.unit 0 || unknown_in r.unit rs))
distinct_snoc [] r = rw or-true
distinct_snoc (s ∷ rs) r =
    rw (distinct_snoc rs r, unknown-snoc s.unit rs r, eqb-swap r.unit s.unit)
    (go (eqb s.unit 0) (eqb r.unit 0) (eqb s.unit r.unit) refl refl refl (unknown_in s.unit rs) (unknown_in r.unit rs) (distinct rs))
  where
    go : (z y e : Bool) → eqb s.unit 0 ≡ z → eqb r.unit 0 ≡ y → eqb s.unit r.unit ≡ e → (u w d : Bool)
        → ((z || (u && not e)) && (d && (y || w))) ≡ (((z || u) && d) && (y || (not e && w)))
    go true true e h k q u w d = refl
    go true false true h k q u w d = absurd (eqb-false r.unit 0 k (sym (eqb-true s.unit r.unit q) ∙ eqb-true s.unit 0 h))
    go true false false h k q u w d = refl
    go false true true h k q u w d = absurd (eqb-false s.unit 0 h (eqb-true s.unit r.unit q ∙ eqb-true r.unit 0 k))
    go false true false h k q true w d = refl
    go false true false h k q false w d = refl
    go false false true h k q true w true = refl
    go false false true h k q true w false = refl
    go false false true h k q false w d = refl
    go false false false h k q true w d = refl
    go false false false h k q false w d = refl

-- the first of rows that are distinct are so
pub distinct_front : (n : ℕ) (rs : List Row) → distinct rs ≡ true → distinct (take n rs) ≡ true
distinct_front zero rs h = refl
distinct_front (suc n) [] h = refl
distinct_front (suc n) (r ∷ rs) h =
    let (here, later) = (and-eq-true_iff (eqb r.unit 0 || unknown_in r.unit rs) (distinct rs)).0 h in
    rw (go (eqb r.unit 0) here, distinct_front n rs later)
  where
    front : (n : ℕ) (rs : List Row) → unknown_in r.unit rs ≡ true → unknown_in r.unit (take n rs) ≡ true
    front zero rs h = refl
    front (suc n) [] h = refl
    front (suc n) (s ∷ rs) h =
        let (here, later) = (and-eq-true_iff (not (eqb s.unit r.unit)) (unknown_in r.unit rs)).0 h in
        rw (here, front n rs later)

    go : (b : Bool) → (b || unknown_in r.unit rs) ≡ true → (b || unknown_in r.unit (take n rs)) ≡ true
    go true h = refl
    go false h = front n rs h

module _ (ms : List Member) (at : ℕ) (e : distinct (take at (rows_of ms)) ≡ true) where
  pub unlike_end : length ms ≤ at → true ≡ distinct (rows_of ms)
  unlike_end h = sym e ∙ ap distinct (take_all at (rows_of ms) (omega (arith, h, rows-length ms)))

  module _ (h : at < length ms) where
    abbrev unit : ℕ
    unit = (get_or ms at nobody).unit

    one_more : distinct (take (at + 1) (rows_of ms)) ≡ (eqb unit 0 || unknown_in unit (rows_of (take at ms)))
    unfolding rows_of
    one_more =
        let rs = map row_of ms in
        let last : get_or rs at (row_of nobody) ≡ row_of (get_or ms at nobody) = get_or-map row_of ms at nobody in
        rw (add-one, take-suc rs at (row_of nobody) (omega (arith, h, rows-length)), last, distinct_snoc (take at rs) (row_of (get_or ms at nobody)), e, take-map row_of at ms)

    pub unlike_stop : (unit ≡ 0 → ⊥) → unknown_in unit (rows_of (take at ms)) ≡ false → false ≡ distinct (rows_of ms)
    unlike_stop n u = go (distinct (rows_of ms)) refl
      where
        go : (b : Bool) → distinct (rows_of ms) ≡ b → false ≡ b
        go true q = absurd (false≢true (sym (rw (ne_eqb unit 0 n, u) at one_more) ∙ distinct_front (at + 1) (rows_of ms) q))
        go false q = refl

    pub unlike_known : unknown_in unit (rows_of (take at ms)) ≡ true → distinct (take (at + 1) (rows_of ms)) ≡ true
    unlike_known u = rw (u, or-true) at one_more

    pub unlike_free : unit ≡ 0 → distinct (take (at + 1) (rows_of ms)) ≡ true
    unlike_free z = rw (eq-eqb unit 0 z) at one_more

-- ---- one row
pub row_written : (ms : List Member) (at : ℕ) (m : Member) → rows_of (set ms at m) ≡ set (rows_of ms) at (row_of m)
unfolding rows_of
row_written ms at m = map-set row_of ms at m

-- ---- a row that is zeros
pub zeros_are : (m : Member) → m.slots < 2 ^ 64 → (eqb m.slots 0 && (eqb m.time 0 && eqb m.unit 0)) ≡ empty_is (row_of m)
zeros_are m h = rw (mask_empty m.slots h) (turned (is_empty (slots_of m.slots)) (eqb m.time 0) (eqb m.unit 0))
  where
    turned : (a b c : Bool) → (a && (b && c)) ≡ ((c && a) && b)
    turned true true true = refl
    turned true true false = refl
    turned true false true = refl
    turned true false false = refl
    turned false b true = refl
    turned false b false = refl
