-- Rows that are gone affect no answer: a table within rule and the same without them are answered alike.
-- Assumes nothing.
use Rattle.octets.proofs.Words.{◌≡◌, true, List, ℕ}
use Rattle.route_table.specs.declared.table.Table.{Table}
use Rattle.route_table.specs.Tables.{within_rule, dropped}
use Rattle.route_table.proofs.DroppedLaws.{dropped-within, dropped-standing}
use Rattle.route_pages.specs.Pages.{page_of}

pub page_alike : (time : ℕ) (t : Table) → within_rule t ≡ true → (p : ℕ) (out : List ℕ) → page_of (dropped time t) p time out ≡ page_of t p time out
unfolding page_of
page_alike time t e p out = rw (dropped-within time t e, e, dropped-standing time t)
