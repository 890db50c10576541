-- The places of a table by value: those in use counted, an entry put for each of some, and those of a page.
-- Assumes nothing.
use Rattle.octets.proofs.Words.{◌≡◌, refl, sym, ap, ◌∙◌, Bool, true, false, cond, List, [], ◌∷◌, ◌++◌, append-nil, ℕ, ◌+◌, ◌*◌, ◌-◌, ◌≤◌, min, dec_le, arith, eqb, ltb, ltb-false, length, take, drop, length-take, drop_of_length-le, length-take-le, take-take, take-add, take-nil, drop_at}
use Rattle.std.specs.Prelude.{Some, None}
use Rattle.std.specs.Option.{unwrap_or}
use Rattle.std.specs.List.{position, position_or_len}
use Rattle.std.proofs.lemmas.List.Recursion.{is_position_or_len}
use Rattle.octets.specs.Lists.{every}
use Rattle.std.proofs.lemmas.List.{take_min}
use Rattle.route_table.specs.declared.row.Row.{Row}
use Rattle.route_table.specs.declared.table.Table.{Table}
use Rattle.route_table.specs.Rows.{stands, in_use, pad, standing, standing_places}
use Rattle.route_table.specs.Tables.{rows_of}
use Rattle.route_table.proofs.StandingLaws.{used, standing-all, standing-every, in_use_used, in_use-fits, in_use-pad}
use Rattle.route_pages.specs.Pages.{on_page}
use Rattle.route_pages.specs.Places.{is_unused}

-- ---- the places in use
-- as many as there are before the first that is not
in_use-position : (rows : List Row) → length (in_use rows) ≡ position_or_len is_unused rows
in_use-position rows = is_position_or_len (λ rs. length (in_use rs)) is_unused refl step rows
  where
    step : (r : Row) (rs : List Row) → length (in_use (r ∷ rs)) ≡ cond (eqb r.destination 0) 0 (1 + length (in_use rs))
    step r rs = go (eqb r.destination 0)
      where
        go : (b : Bool) → length (cond b [] (r ∷ in_use rs)) ≡ cond b 0 (1 + length (in_use rs))
        go true = refl
        go false = omega arith

pub used-places : (rows : List Row) → length rows ≡ 48 → unwrap_or (position is_unused rows) 48 ≡ length (in_use rows)
used-places rows l = go (position_or_len is_unused rows) (in_use-position rows)
  where
    go : (n : ℕ) → length (in_use rows) ≡ n → unwrap_or (cond (ltb n (length rows)) (Some n) None) 48 ≡ length (in_use rows)
    go n e = by (ltb n (length rows)) refl
      where
        by : (b : Bool) → ltb n (length rows) ≡ b → unwrap_or (cond b (Some n) None) 48 ≡ length (in_use rows)
        by true q = sym e
        by false q = omega (arith, ltb-false n (length rows) q, l, in_use-fits rows l, e)

-- ---- the places of a page
in_use-take : (l : List Row) → take (length (in_use l)) l ≡ in_use l
in_use-take [] = refl
in_use-take (r ∷ rs) = go (eqb r.destination 0) (in_use-take rs)
  where
    go : (b : Bool) → take (length (in_use rs)) rs ≡ in_use rs → take (length (cond b [] (r ∷ in_use rs))) (r ∷ rs) ≡ cond b [] (r ∷ in_use rs)
    go true h = refl
    go false h = ap (λ (l : List Row). r ∷ l) h

standing-in_use : (time : ℕ) (places : List Row) → in_use (standing_places time places) ≡ standing time (in_use places)
unfolding standing_places
standing-in_use time places = go (every (stands time) (in_use places)) refl
  where
    go : (b : Bool) → every (stands time) (in_use places) ≡ b → in_use (cond b places (pad (standing time (in_use places)))) ≡ standing time (in_use places)
    go true q = sym (standing-all time (in_use places) q)
    go false q = in_use-pad (standing time (in_use places)) (standing-every used time (in_use places) (in_use_used places))

drop-take : (n m : ℕ) (l : List Row) → drop n (take (n + m) l) ≡ take m (drop n l)
drop-take n m l = rw (take-add n m l) (go (dec_le n (length l)))
  where
    go : Dec (n ≤ length l) → drop n (take n l ++ take m (drop n l)) ≡ take m (drop n l)
    go (yes h) = drop_at (take n l) (take m (drop n l)) n (length-take-le n l h)
    go (no h) =
        let z : drop n l ≡ [] = drop_of_length-le l {i = n} (omega arith) in
        rw (z, take-nil {A = Row} m, append-nil (take n l)) (drop_of_length-le (take n l) {i = n} (omega (arith, length-take n l)))

module _ (t : Table) (p time : ℕ) (stand : List Row) (total from to : ℕ) (stood : stand ≡ standing_places time t.rows) (counted : total ≡ length (in_use stand))
    (begins : from ≡ min (24 * p) total) (ends : to ≡ min (from + 24) total) where
  abbrev rs : List Row
  rs = standing time (rows_of t)

  rows_are : in_use stand ≡ rs
  rows_are = ap in_use stood ∙ standing-in_use time t.rows

  total_is : total ≡ length rs
  total_is = counted ∙ ap length rows_are

  pub page-places : take (to - from) (drop from stand) ≡ on_page rs p
  page-places =
      let whole : from + (to - from) ≡ to = omega (arith, begins, ends) in
      let a : take to stand ≡ take to rs = sym (take-take to total stand (omega arith)) ∙ ap (take to) (ap (λ (n : ℕ). take n stand) counted ∙ (in_use-take stand ∙ rows_are)) in
      let b : take to rs ≡ take (from + 24) rs = ap (λ (n : ℕ). take n rs) (ends ∙ ap (min (from + 24)) total_is) ∙ take_min (from + 24) rs in
      sym (drop-take from (to - from) stand) ∙
      rw (whole, a, b, drop-take from 24 rs) (ap (take 24) (go (dec_le (24 * p) (length rs))))
    where
      go : Dec (24 * p ≤ length rs) → drop from rs ≡ drop (24 * p) rs
      go (yes h) = ap (λ (n : ℕ). drop n rs) (omega (arith, begins, total_is))
      go (no h) = drop_of_length-le rs {i = from} (omega (arith, begins, total_is)) ∙ sym (drop_of_length-le rs {i = 24 * p} (omega arith))
