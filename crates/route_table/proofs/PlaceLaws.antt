-- The 48 places against the list of rows that they hold.
-- Assumes nothing.
use Rattle.octets.proofs.Words.{◌≡◌, refl, sym, ◌∙◌, Bool, true, false, not, ◌&&◌, and-true, List, ℕ, ◌+◌, ◌≤◌, ◌<◌, add-one, arith, ne_eqb, not-true, not-false, eqb, leb, length, get_or, drop, drop_of_length-le, drop-cons}
use Rattle.octets.specs.Addresses.{address}
use Rattle.octets.specs.Lists.{every}
use Rattle.octets.specs.Places.{first_key}
use Rattle.octets.proofs.PlaceLaws as places
use Rattle.moments.specs.Moments.{in_order}
use Rattle.route_table.specs.declared.row.Row.{Row}
use Rattle.route_table.specs.Places.{carries_rule, ok_row, ok_places}
use Rattle.route_table.specs.Rows.{none, row_rule, is_none, leading_to, ascending, in_use}

-- ---- the rules of a row, one of them apart
pub rule-carries : (own last : ℕ) (r : Row) → (address r.destination && carries_rule own last r) ≡ row_rule own last r
rule-carries own last r =
    flat (address r.destination) (not (eqb r.destination own)) (address r.next_hop && not (eqb r.next_hop own))
    (leb 1 r.hops && leb r.hops 16) (leb 40 r.quality) (in_order r.time last)
  where
    flat : (a o n h q t : Bool) → (a && (o && n && h && q && t)) ≡ (a && o && n && h && q && t)
    flat true o n h q t = refl
    flat false o n h q t = refl

-- ---- the loop that judges the places
pub first_of_drop : (l : List Row) (i : ℕ) → i < length l → first_key leading_to (drop i l) ≡ (get_or l i none).destination
first_of_drop l i h = rw (drop-cons l i none h)

module _ (own last : ℕ) (rows : List Row) (i : ℕ) (l : length rows ≡ 48) where
  ok_turn : i < 48 → ok_places own last (drop i rows) ≡ (ok_row own last (get_or rows i none) (first_key leading_to (drop (i + 1) rows)) && ok_places own last (drop (i + 1) rows))
  ok_turn h = rw (drop-cons rows i none (omega arith), add-one)

  pub ok_stop : (b : Bool) → i < 47 → ok_places own last (drop i rows) ≡ ok_places own last rows → b ≡ ok_row own last (get_or rows i none) (get_or rows (i + 1) none).destination
      → not b ≡ true → false ≡ ok_places own last rows
  ok_stop b h e q t =
      let f = first_of_drop rows (i + 1) (omega arith) in
      sym (sym e ∙ (ok_turn (omega arith) ∙ rw (f, ← q, not-true b t)))

  pub ok_again : (b : Bool) → i < 47 → ok_places own last (drop i rows) ≡ ok_places own last rows → b ≡ ok_row own last (get_or rows i none) (get_or rows (i + 1) none).destination
      → not b ≡ false → ok_places own last (drop (i + 1) rows) ≡ ok_places own last rows
  ok_again b h e q t =
      let f = first_of_drop rows (i + 1) (omega arith) in
      sym (sym e ∙ (ok_turn (omega arith) ∙ rw (f, ← q, not-false b t)))

  pub ok_end : (b : Bool) → i ≡ 47 → ok_places own last (drop i rows) ≡ ok_places own last rows → b ≡ ok_row own last (get_or rows 47 none) 0 → b ≡ ok_places own last rows
  ok_end b h e q =
      let z : length rows ≤ i + 1 = omega arith in
      sym (sym e ∙ (ok_turn (omega arith) ∙ rw (drop_of_length-le rows z, h, ← q) (and-true b)))

-- ---- the places are right exactly if the rows that they hold are, and zeros stand behind them
pub ok_right : (own last : ℕ) (rows : List Row)
    → ok_places own last rows ≡ (ascending (in_use rows) && every (row_rule own last) (in_use rows) && every is_none (drop (length (in_use rows)) rows))
ok_right own last rows = places.ok_right leading_to is_none (row_rule own last) (λ r e. rw (ne_eqb r.destination 0 e)) rows
