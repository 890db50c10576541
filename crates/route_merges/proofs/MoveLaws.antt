-- The loop that moves a row in: what is done, with what is left to do, is the whole.
-- Assumes nothing.
use Rattle.octets.proofs.Words.{◌≡◌, ◌∙◌, List, append-nil, ℕ, suc, ◌+◌, ◌≤◌, ◌<◌, add-one, arith, eq-eqb, ne_eqb, length, get_or, set, drop_of_length-le, drop-cons, take_all, take-suc-set, drop-set-lt, append_snoc, set_split}
use Rattle.route_table.specs.declared.row.Row.{Row}
use Rattle.route_table.specs.Rows.{none}
use Rattle.route_merges.specs.Searching.{moved_in}

module _ (l : List Row) (i : ℕ) (w : Row) where
  module _ (h : i < length l) where
    abbrev next : Row
    next = get_or l i none

    pub move-stop : next.destination ≡ 0 → set l i w ≡ moved_in l i w
    move-stop z = set_split l i w h ∙ rw (drop-cons l i none h, eq-eqb next.destination 0 z)

    pub move-turn : (next.destination ≡ 0 → ⊥) → moved_in (set l i w) (i + 1) next ≡ moved_in l i w
    move-turn z =
        rw (add-one, take-suc-set l i w, drop-set-lt (suc i) l i w (omega arith), append_snoc, drop-cons l i none h, ne_eqb next.destination 0 z)

  -- no place is left for the row that stood at the last one
  pub move-last : length l ≤ i → l ≡ moved_in l i w
  move-last h = rw (drop_of_length-le l {i = i} h, take_all i l h, append-nil)
