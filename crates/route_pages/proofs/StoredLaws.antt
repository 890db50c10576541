-- A page of a table that lies in bytes is that of the table that they hold, and its rows are those from the place behind the pages before.
-- Assumes nothing.
use Rattle.octets.proofs.Words.{◌≡◌, refl, ap, ◌∙◌, Bool, true, false, cond, List, ℕ, ◌*◌, take, drop}
use Rattle.octets.specs.Answers.{refused}
use Rattle.std.specs.Prelude.{Err}
use Rattle.octets.specs.declared.refusals.Refusal.TheVariants.{Rule}
use Rattle.octets.specs.Told.{wrote}
use Rattle.route_table.specs.declared.row.Row.{Row}
use Rattle.route_table.specs.Rows.{standing}
use Rattle.route_table.specs.Tables.{rows_of}
use Rattle.route_bytes.specs.TableBytes.{table_in, is_table, holds_table}
use Rattle.route_bytes.proofs.TableByteLaws.{rows_in_lem}
use Rattle.route_in_place.proofs.JudgedLaws.{judged-table, judged-length}
use Rattle.route_pages.specs.Pages.{on_page, page_of, page_in}
use Rattle.route_pages.proofs.PageLaws.{page-none}
use Rattle.route_pages.specs.Places.{rows_from}

-- ---- the call
module _ (s : List ℕ) (p time : ℕ) (out : List ℕ) where
  pub in_none : holds_table s ≡ false → wrote (Err Rule) out ≡ page_in s p time out
  unfolding page_in holds_table
  in_none e = go (is_table s) refl
    where
      go : (b : Bool) → is_table s ≡ b → wrote (Err Rule) out ≡ cond b (page_of (table_in s) p time out) (record { said = refused 14; held = out })
      go true q = page-none (table_in s) p time out (rw q at e)
      go false q = refl

  pub in_held : holds_table s ≡ true → page_of (table_in s) p time out ≡ page_in s p time out
  unfolding page_in
  in_held e = rw (judged-table s e)

-- ---- the rows of a page
pub on-page : (s : List ℕ) (p time : ℕ) → holds_table s ≡ true → (rs : List Row) → rs ≡ take 24 (drop (24 * p) (standing time (rows_from 0 s)))
    → rs ≡ on_page (standing time (rows_of (table_in s))) p
on-page s p time e rs q = q ∙ ap (λ (l : List Row). on_page (standing time l) p) (rows_in_lem s (judged-length s e))
