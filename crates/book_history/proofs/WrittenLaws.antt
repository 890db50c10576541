-- The book in which one row was written: its rows, and when it is within rule.
-- Assumes nothing.
use Rattle.octets.proofs.Words.{◌≡◌, refl, ap, ◌∙◌, true, List, ℕ, zero, suc, ◌<◌, arith, length, set, length-take, take-set-lt, drop-set-lt}
use Rattle.book_members.specs.Members.{Row, kept, current}
use Rattle.book_members.specs.Rules.{empty_is}
use Rattle.book_members.proofs.RowLaws.{row, DroppedOn, kept_again, length-current, every-behind, kept_at, current-set}
use Rattle.book_members.proofs.RowRuleLaws.{empty_is_lem}
use Rattle.book.specs.Books.{Contents, within_rule, rows_in, rows_at, places_at, with_row}
use Rattle.book.proofs.VisitLaws.{take-current}
use Rattle.book.proofs.WithinLaws.{RowsRuled, Within, by_parts}

module _ (b : Contents) (time at : ℕ) (r : Row) (there : at < length (rows_at b time)) where
  among-rows : at < b.plan.rows
  among-rows = omega (arith, there, length-current time (rows_in b), length-take b.plan.rows b.places)

  pub rows_written : rows_in (with_row b time at r) ≡ set (rows_at b time) at r
  rows_written =
      take-set-lt b.plan.rows (places_at b time) at r among-rows ∙ ap (λ (rs : List Row). set rs at r) (take-current time b.plan.rows b.places)

  -- the rows at a later time are those of then, with this one written
  pub rows-later : (later : ℕ) → ((i : ℕ) → (i ≡ 0 → ⊥) → DroppedOn time later (row (rows_in b) i))
      → rows_at (with_row b time at r) later ≡ set (rows_at b later) at (kept_at later at r)
  rows-later later dropped = ap (current later) rows_written ∙ current-set time later (rows_in b) dropped at r

  -- where the row is not silent, it is among the rows at that time
  pub rows_at-written : kept time r ≡ r → rows_at (with_row b time at r) time ≡ set (rows_at b time) at r
  rows_at-written e = rows-later time (λ i z. kept_again time (row (rows_in b) i)) ∙ ap (set (rows_at b time) at) (kept-at at)
    where
      kept-at : (at : ℕ) → kept_at time at r ≡ r
      kept-at zero = refl
      kept-at (suc at) = e

  pub within-written : Within b → RowsRuled b time (set (rows_at b time) at r) → within_rule (with_row b time at r) ≡ true
  within-written w g =
      by_parts (with_row b time at r) (record {
        plan = w.plan;
        few = w.few;
        rows = rw rows_written g;
        behind =
            rw (drop-set-lt b.plan.rows (places_at b time) at r among-rows)
            (every-behind empty_is empty_is_lem time b.plan.rows b.places w.behind);
      })
