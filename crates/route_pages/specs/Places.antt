-- Needs no belief, laws carry it to the table and to the page: what the code sees of a table's bytes while it walks over them, the rows in use from a place
-- on; and of a page, how many rows stand on it.
-- Assumes nothing.
use Rattle.std.specs.Prelude.{ℕ, ◌+◌, ◌*◌, Bool, not, ◌||◌, List, [], ◌∷◌, map, eqb, ltb, length, drop}
use Rattle.std.proofs.lemmas.List.Edits.{sets}
use Rattle.octets.specs.Answers.{accepted, Reason, reason, first, unless}
use Rattle.octets.specs.Calls.{after}
use Rattle.octets.specs.Lists.{tab}
use Rattle.octets.specs.Told.{Wrote}
use Rattle.moments.specs.Moments.{in_order}
use Rattle.frame_kinds.specs.Shape.{frame_of}
use Rattle.frame_traffic.specs.Traffic.{update}
use Rattle.route_table.specs.declared.row.Row.{Row}
use Rattle.route_table.specs.Rows.{in_use}
use Rattle.route_bytes.specs.TableBytes.{place_of}
use Rattle.route_pages.specs.Pages.{entry_for, entries_bytes}

abbrev pub rows_from : ℕ → List ℕ → List Row
rows_from place s = in_use (drop place (tab 48 (place_of s)))

-- a place is not in use
abbrev pub is_unused : Row → Bool
is_unused r = eqb r.destination 0

-- why a page with so many rows is not written by a table within rule with this last accepted time: page 0 always exists, another if a row stands on it, and
-- a page has nine bytes and ten a row
abbrev pub unpaged_reasons : ℕ → ℕ → ℕ → ℕ → ℕ → List Reason
unpaged_reasons last p count time room =
    reason (not (in_order last time)) 8 ∷
    reason (not (eqb p 0 || ltb 0 count)) 14 ∷
    reason (ltb room (9 + 10 * count)) 5 ∷
    []

-- the page with these rows on it, of such a table of the unit `own`
abbrev pub page_with : ℕ → ℕ → List Row → ℕ → ℕ → List ℕ → Wrote
page_with own last rs p time out =
    let refusal = first (unpaged_reasons last p (length rs) time (length out)) in
    let frame = frame_of update (own ∷ length rs ∷ time ∷ []) (entries_bytes (map (entry_for time) rs)) in
    record { said = unless refusal (accepted ((9 + 10 * length rs) ∷ [])); held = after refusal out (sets out 0 frame) }
