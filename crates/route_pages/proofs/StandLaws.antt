-- Where a row stands among the pages, and that a page is made of bytes.
-- Assumes nothing.
use Rattle.octets.proofs.Words.{◌≡◌, ◌∙◌, true, List, [], ◌∷◌, map, ℕ, ◌+◌, ◌*◌, ◌-◌, ◌/◌, ◌<◌, arith, lt-ltb, eqb, ltb, length, get_or, drop, length-take, length-drop, get_or-take, get_or-drop}
use Rattle.octets.specs.Layouts.{Bytes}
use Rattle.octets.specs.Lists.{Some}
use Rattle.octets.proofs.EachLaws.{some_at}
use Rattle.octets.proofs.TestLaws.{or_right}
use Rattle.frame_kinds.proofs.SealLaws.{frame-bytes}
use Rattle.frame_traffic.specs.Traffic.{update}
use Rattle.route_table.specs.declared.row.Row.{Row}
use Rattle.route_table.specs.declared.table.Table.{Table}
use Rattle.route_table.specs.Rows.{none, standing, row_for}
use Rattle.route_table.specs.Tables.{rows_of}
use Rattle.route_table.proofs.HasLaws.{Has, place}
use Rattle.route_pages.specs.Pages.{entry_for, entries_bytes, on_page, page_there, page_frame}
use Rattle.route_pages.proofs.EntryLaws.{entries-bytes}

-- each row stands on a page that there is
pub on_some_page : (d : ℕ) → 0 < d → (rs : List Row) → Has d rs → (p : ℕ) × (page_there rs p ≡ true) × Some (λ y. y ≡ row_for d rs) (on_page rs p)
on_some_page d z rs h =
    let (i, l, e) = place d z rs h in
    let p = i / 24 in
    let j = i - 24 * p in
    let back : 24 * p + j ≡ i = omega arith in
    let k : j < 24 = omega arith in
    let same : get_or (on_page rs p) j none ≡ row_for d rs = get_or-take 24 (drop (24 * p) rs) j none k ∙ (get_or-drop (24 * p) rs j none ∙ rw back e) in (
      p,
      or_right (eqb p 0) (ltb (24 * p) (length rs)) (lt-ltb (24 * p) (length rs) (omega arith)),
      some_at (row_for d rs) none (on_page rs p) j (omega (arith, length-take 24 (drop (24 * p) rs), length-drop (24 * p) rs)) same,
    )

pub page_frame-bytes : (t : Table) (p time : ℕ) → Bytes (page_frame t p time)
page_frame-bytes t p time =
    let rs = on_page (standing time (rows_of t)) p in
    frame-bytes update (t.own ∷ length rs ∷ time ∷ []) (entries_bytes (map (entry_for time) rs)) (entries-bytes (map (entry_for time) rs))
