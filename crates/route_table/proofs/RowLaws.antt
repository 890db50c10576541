-- The loops over a table's places: one row looked up, the standing ones gathered, each one changed.
-- Assumes nothing.
use Rattle.octets.proofs.Words.{◌≡◌, refl, sym, ap, ◌∙◌, Bool, true, false, cond, List, [], ◌∷◌, ◌++◌, map, append-nil, append_assoc, ℕ, suc, ◌+◌, ◌-◌, ◌≤◌, ◌<◌, add-one, arith, eq-eqb, ne_eqb, length, get_or, take, drop, set, length-append, drop_of_length-le, drop-cons, take-suc, take-suc-set, drop-set-lt, append_snoc, set-append_seam}
use Rattle.route_table.specs.declared.row.Row.{Row}
use Rattle.route_table.specs.Rows.{none, stands, in_use, pad, standing, row_for}

-- ---- the places from i on: empty, or a row and the places behind it
module _ (rows : List Row) (i : ℕ) (h : i < length rows) where
  abbrev row : Row
  row = get_or rows i none

  pub in_use_end : row.destination ≡ 0 → in_use (drop i rows) ≡ []
  in_use_end z = rw (drop-cons rows i none h, eq-eqb row.destination 0 z)

  pub in_use-turn : (row.destination ≡ 0 → ⊥) → in_use (drop i rows) ≡ row ∷ in_use (drop (i + 1) rows)
  in_use-turn z = rw (drop-cons rows i none h, add-one, ne_eqb row.destination 0 z)

  -- ---- looking a row up
  module _ (d : ℕ) (e : row_for d (in_use (drop i rows)) ≡ row_for d (in_use rows)) where
    pub row-none : row.destination ≡ 0 → none ≡ row_for d (in_use rows)
    row-none z = sym (ap (row_for d) (in_use_end z)) ∙ e

    pub row_here : (row.destination ≡ 0 → ⊥) → row.destination ≡ d → row ≡ row_for d (in_use rows)
    row_here z q = sym (ap (row_for d) (in_use-turn z) ∙ rw (eq-eqb row.destination d q)) ∙ e

    pub row_on : (row.destination ≡ 0 → ⊥) → (row.destination ≡ d → ⊥) → row_for d (in_use (drop (i + 1) rows)) ≡ row_for d (in_use rows)
    row_on z q = sym (ap (row_for d) (in_use-turn z) ∙ rw (ne_eqb row.destination d q)) ∙ e

-- ---- gathering the rows that stand
standing_append : (time : ℕ) (xs ys : List Row) → standing time (xs ++ ys) ≡ standing time xs ++ standing time ys
standing_append time [] ys = refl
standing_append time (x ∷ xs) ys = go (stands time x) (standing_append time xs ys)
  where
    go : (b : Bool) → standing time (xs ++ ys) ≡ standing time xs ++ standing time ys
        → cond b (x ∷ standing time (xs ++ ys)) (standing time (xs ++ ys)) ≡ cond b (x ∷ standing time xs) (standing time xs) ++ standing time ys
    go true h = rw h
    go false h = h

pad_push : (xs : List Row) (r : Row) → length xs < 48 → set (pad xs) (length xs) r ≡ pad (xs ++ (r ∷ []))
unfolding pad
pad_push xs r h =
    let e : 48 - length xs ≡ suc (48 - length (xs ++ (r ∷ []))) = omega (arith, length-append xs (r ∷ [])) in
    rw (e, set-append_seam, append_snoc)

-- what the loop has: the standing ones of the first i places, all of which are in use, and what is to come
pub record Gathered (time : ℕ) (rows : List Row) (i n : ℕ) (out : List Row) : Type 0 where
  pub within : i ≤ 48
  pub few : n ≤ i
  pub counted : n ≡ length (standing time (take i rows))
  pub held : out ≡ pad (standing time (take i rows))
  pub rest : standing time (take i rows) ++ standing time (in_use (drop i rows)) ≡ standing time (in_use rows)

module _ (time : ℕ) (rows : List Row) (l : length rows ≡ 48) (i n : ℕ) (out : List Row) (g : Gathered time rows i n out) where
  gathered-all : in_use (drop i rows) ≡ [] → out ≡ pad (standing time (in_use rows))
  gathered-all e = g.held ∙ ap pad (sym (append-nil (standing time (take i rows))) ∙ ((rw e at g.rest)))

  pub gathered_end : i < 48 → (get_or rows i none).destination ≡ 0 → out ≡ pad (standing time (in_use rows))
  gathered_end h z = gathered-all (in_use_end rows i (omega arith) z)

  pub gathered-last : 48 ≤ i → out ≡ pad (standing time (in_use rows))
  gathered-last h = gathered-all (ap in_use (drop_of_length-le rows {i = i} (omega arith)))

  module _ (h : i < 48) (z : (get_or rows i none).destination ≡ 0 → ⊥) where
    abbrev r : Row
    r = get_or rows i none

    next : standing time (take (i + 1) rows) ≡ standing time (take i rows) ++ standing time (r ∷ [])
    next = rw (add-one, take-suc rows i none (omega arith)) (standing_append time (take i rows) (r ∷ []))

    onward : standing time (take (i + 1) rows) ++ standing time (in_use (drop (i + 1) rows)) ≡ standing time (in_use rows)
    onward =
        rw (next, append_assoc, ← standing_append time (r ∷ []) (in_use (drop (i + 1) rows)))
        (ap (λ (rs : List Row). standing time (take i rows) ++ standing time rs) (sym (in_use-turn rows i (omega arith) z)) ∙ g.rest)

    pub gathered_skip : stands time r ≡ false → Gathered time rows (i + 1) n out
    gathered_skip s =
        let e : standing time (take (i + 1) rows) ≡ standing time (take i rows) = next ∙ rw s (append-nil (standing time (take i rows))) in
        record { within = omega arith; few = omega (arith, g.few); counted = g.counted ∙ ap length (sym e); held = g.held ∙ ap pad (sym e); rest = onward }

    pub gathered_push : stands time r ≡ true → Gathered time rows (i + 1) (n + 1) (set out n r)
    gathered_push s =
        let e : standing time (take (i + 1) rows) ≡ standing time (take i rows) ++ (r ∷ []) = next ∙ rw s in
        let f : length (standing time (take i rows)) < 48 = omega (arith, g.counted, g.few) in
        record {
          within = omega arith;
          few = omega (arith, g.few);
          counted = omega (arith, g.counted, ap length e, length-append (standing time (take i rows)) (r ∷ []));
          held = rw (g.held, g.counted, e) (pad_push (standing time (take i rows)) r f);
          rest = onward;
        }

-- ---- changing each row
pub map-turn : (f : Row → Row) (out₀ out : List Row) (i : ℕ) → i < length out → take i out ++ map f (drop i out) ≡ map f out₀
    → take (i + 1) (set out i (f (get_or out i none))) ++ map f (drop (i + 1) (set out i (f (get_or out i none)))) ≡ map f out₀
map-turn f out₀ out i h e =
    rw (add-one, take-suc-set out i (f (get_or out i none)), drop-set-lt (suc i) out i (f (get_or out i none)) (omega arith), append_snoc)
    ((rw (drop-cons out i none h) at e))
