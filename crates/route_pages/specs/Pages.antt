-- An update page: this unit's rows that are not gone, 24 at a time, as a routing update.
-- Assumes nothing.
use Rattle.std.specs.Prelude.{ℕ, ◌*◌, Bool, not, ◌||◌, cond, List, [], ◌∷◌, ◌++◌, map, eqb, ltb, length, take, drop}
use Rattle.std.proofs.lemmas.List.Edits.{sets}
use Rattle.octets.specs.Answers.{accepted, refused, Reason, reason, first, unless}
use Rattle.octets.specs.Calls.{after}
use Rattle.octets.specs.Layouts.{bytes}
use Rattle.octets.specs.Told.{Wrote}
use Rattle.moments.specs.Moments.{in_order}
use Rattle.frame_kinds.specs.Shape.{frame_of}
use Rattle.frame_traffic.specs.declared.entry.Entry.{Entry}
use Rattle.frame_traffic.specs.Traffic.{entry_widths, entry_values, update}
use Rattle.route_table.specs.declared.row.Row.{Row}
use Rattle.route_table.specs.declared.table.Table.{Table}
use Rattle.route_table.specs.Rows.{usable, standing}
use Rattle.route_table.specs.Tables.{rows_of, within_rule}
use Rattle.route_bytes.specs.StoredTables.{on_table}

-- the entry for a row: a dead one has hops 255 and quality 0; next hop and time are the stored ones
unfoldable pub entry_for : ℕ → Row → Entry
entry_for time r =
    record {
      destination = r.destination;
      hops = cond (usable time r) r.hops 255;
      quality = cond (usable time r) r.quality 0;
      next_hop = r.next_hop;
      timestamp = r.time;
    }

-- entries in bytes, one after the other
abbrev pub entries_bytes : List Entry → List ℕ
entries_bytes [] = []
entries_bytes (e ∷ es) = bytes entry_widths (entry_values e) ++ entries_bytes es

-- the rows of page p, counted from 0: rows 24p to 24p + 23 of those that are not gone
abbrev pub on_page : List Row → ℕ → List Row
on_page rs p = take 24 (drop (24 * p) rs)

-- page 0 always exists, another if a row stands on it
abbrev pub page_there : List Row → ℕ → Bool
page_there rs p = eqb p 0 || ltb (24 * p) (length rs)

abbrev pub page_frame : Table → ℕ → ℕ → List ℕ
page_frame t p time =
    let rs = on_page (standing time (rows_of t)) p in
    frame_of update (t.own ∷ length rs ∷ time ∷ []) (entries_bytes (map (entry_for time) rs))

-- page: 14 8 14 5, ..
abbrev pub page_reasons : Table → ℕ → ℕ → ℕ → List Reason
page_reasons t p time room =
    reason (not (within_rule t)) 14 ∷
    reason (not (in_order t.time time)) 8 ∷
    reason (not (page_there (standing time (rows_of t)) p)) 14 ∷
    reason (ltb room (length (page_frame t p time))) 5 ∷
    []

abbrev pub page_refusal : Table → ℕ → ℕ → ℕ → ℕ
page_refusal t p time room = first (page_reasons t p time room)

-- .. else the page's bytes from the buffer's start
unfoldable pub page_of : Table → ℕ → ℕ → List ℕ → Wrote
page_of t p time out =
    let frame = page_frame t p time in
    let refusal = page_refusal t p time (length out) in
    record { said = unless refusal (accepted (length frame ∷ [])); held = after refusal out (sets out 0 frame) }

-- a page of the table that bytes hold, 14 where they hold none
unfoldable pub page_in : List ℕ → ℕ → ℕ → List ℕ → Wrote
page_in s p time out = on_table s (λ t. page_of t p time out) (record { said = refused 14; held = out })
