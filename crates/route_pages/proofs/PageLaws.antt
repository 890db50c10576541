-- A page as an update, and the call that writes it, from what its parts say: the same for a table by value and for one that lies in bytes.
-- Assumes nothing.
use Rattle.octets.proofs.Words.{◌≡◌, refl, sym, ◌∙◌, true, false, List, [], ◌∷◌, map, ℕ, ◌+◌, ◌*◌, ◌≤◌, ◌<◌, dec_lt, arith, ne_eqb, lt-ltb, le-ltb, ltb-false, ltb, length, take, drop, set, length-take, length-drop, length-map, sets}
use Rattle.std.specs.Prelude.{Ok, Err}
use Rattle.octets.specs.Answers.{first}
use Rattle.octets.specs.Layouts.{bytes}
use Rattle.octets.specs.Sums.{xors}
use Rattle.octets.specs.declared.refusals.Refusal.{Refusal}
use Rattle.octets.specs.declared.refusals.Refusal.TheVariants.{Rule}
use Rattle.octets.specs.Refusals.{number_of}
use Rattle.octets.specs.Told.{wrote}
use Rattle.octets.proofs.AnswerLaws.{none-holds}
use Rattle.frame_traffic.specs.Traffic.{update}
use Rattle.octets.proofs.RefusalLaws.{refusal_some}
use Rattle.frame_kinds.proofs.StoredLaws.{frame-length, frame-put}
use Rattle.route_table.specs.declared.row.Row.{Row}
use Rattle.route_table.specs.declared.table.Table.{Table}
use Rattle.route_table.specs.Rows.{standing}
use Rattle.route_table.specs.Tables.{rows_of, within_rule}
use Rattle.route_pages.specs.Pages.{entry_for, on_page, page_frame, page_of}
use Rattle.route_pages.specs.Places.{unpaged_reasons, page_with}
use Rattle.route_pages.proofs.EntryLaws.{row_entries, length-entries}

-- ---- a page
length-rows : (time : ℕ) (rs : List Row) → length (row_entries time rs) ≡ 10 * length rs
length-rows time rs = omega (arith, length-entries (map (entry_for time) rs), length-map rs (entry_for time))

page-size : (t : Table) (p time : ℕ) → length (page_frame t p time) ≡ 9 + 10 * length (on_page (standing time (rows_of t)) p)
page-size t p time =
    let rs = on_page (standing time (rows_of t)) p in
    frame-length (1 ∷ update.widths) (update.code ∷ t.own ∷ length rs ∷ time ∷ []) (row_entries time rs) [] 8 refl refl ∙ omega (arith, length-rows time rs)

-- a page has at most 24 entries
pub page_short : (t : Table) (p time : ℕ) → length (page_frame t p time) ≤ 249
page_short t p time = omega (arith, page-size t p time, length-take 24 (drop (24 * p) (standing time (rows_of t))))

-- there are rows from 24p on where some stand on page p
page-there : (rs : List Row) (p : ℕ) → ltb 0 (length (on_page rs p)) ≡ ltb (24 * p) (length rs)
page-there rs p = go (dec_lt (24 * p) (length rs))
  where
    go : Dec (24 * p < length rs) → ltb 0 (length (on_page rs p)) ≡ ltb (24 * p) (length rs)
    go (yes h) = lt-ltb 0 (length (on_page rs p)) (omega (arith, length-take 24 (drop (24 * p) rs), length-drop (24 * p) rs)) ∙ sym (lt-ltb (24 * p) (length rs) h)
    go (no h) = le-ltb 0 (length (on_page rs p)) (omega (arith, length-take 24 (drop (24 * p) rs), length-drop (24 * p) rs)) ∙ sym (le-ltb (24 * p) (length rs) (omega arith))

-- ---- the page with some rows on it
module _ (own last : ℕ) (rs : List Row) (p time : ℕ) (out : List ℕ) where
  abbrev number : ℕ
  number = first (unpaged_reasons last p (length rs) time (length out))

  pub unwritten : (r : Refusal) → number_of r ≡ number → wrote (Err r) out ≡ page_with own last rs p time out
  unwritten r e = rw (← e, ne_eqb (number_of r) 0 (refusal_some r))

  module _ (z : 0 ≡ number) where
    -- there is room for it
    pub room : 9 + 10 * length rs ≤ length out
    room =
        let none = none-holds (unpaged_reasons last p (length rs) time (length out)) _ (sym z) in
        ltb-false (length out) (9 + 10 * length rs) none.1.1.0

    -- the header, the entries and the checksum, one after the other
    pub written : (one two three : List ℕ) → one ≡ sets out 0 (bytes (1 ∷ update.widths) (update.code ∷ own ∷ length rs ∷ time ∷ []))
        → two ≡ sets one 8 (row_entries time rs) → three ≡ set two (8 + 10 * length rs) (xors 0 (take (8 + 10 * length rs) two))
        → wrote (Ok (9 + 10 * length rs)) three ≡ page_with own last rs p time out
    written one two three a b c =
        let n : 8 + 10 * length rs ≡ 8 + length (row_entries time rs) = omega (arith, length-rows time rs) in
        let whole =
        frame-put update (own ∷ length rs ∷ time ∷ []) (row_entries time rs) out refl one two three (omega (arith, room, n)) a b (c ∙ rw n) in
        rw (← z, whole)

-- ---- the call
pub page-none : (t : Table) (p time : ℕ) (out : List ℕ) → within_rule t ≡ false → wrote (Err Rule) out ≡ page_of t p time out
unfolding page_of
page-none t p time out e = rw e

pub page-with : (t : Table) (p time : ℕ) (out : List ℕ) → within_rule t ≡ true → (rs : List Row) → rs ≡ on_page (standing time (rows_of t)) p
    → page_with t.own t.time rs p time out ≡ page_of t p time out
unfolding page_of
page-with t p time out e rs q =
    rw (q, page-there (standing time (rows_of t)) p, ← page-size t p time, e)
