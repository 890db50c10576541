-- Entries in bytes, one after the other: how many bytes they are, one put a turn, and that they are read back.
-- Assumes nothing.
use Rattle.octets.proofs.Words.{◌≡◌, refl, ap, ◌∙◌, true, List, [], ◌∷◌, ◌++◌, map, ℕ, ◌+◌, ◌*◌, ◌-◌, ◌≤◌, zero-add, arith, length, take, drop, sets}
use Rattle.octets.specs.Layouts.{bytes, Bytes, Fit}
use Rattle.octets.proofs.ByteLaws.{no_bytes, append_bytes, layout_bytes}
use Rattle.octets.proofs.RunLaws.{Run, run_length, put-turn, run-read}
use Rattle.frame_traffic.specs.declared.entry.Entry.{Entry}
use Rattle.frame_traffic.specs.Traffic.{entry_widths, entry_values, entry_from, entry_at, entries_of}
use Rattle.route_table.specs.declared.row.Row.{Row}
use Rattle.route_table.specs.Rows.{usable}
use Rattle.route_pages.specs.Pages.{entry_for, entries_bytes}

entries-run : Run entry_widths entry_values entries_bytes
entries-run = record { none = refl; more = λ e es. refl; full = λ e. refl }

pub length-entries : (es : List Entry) → length (entries_bytes es) ≡ 10 * length es
length-entries es = run_length entries-run es

-- the entries for rows
abbrev pub row_entries : ℕ → List Row → List ℕ
row_entries time rs = entries_bytes (map (entry_for time) rs)

-- a turn that puts the entry for a row into the next ten bytes behind an update's header
pub entry-turn : (time : ℕ) (r : Row) (rs : List Row) (out : List ℕ) (put : ℕ) → 8 + 10 * put + 10 ≤ length out → (e : Entry) (filled : List ℕ) → e ≡ entry_for time r
    → filled ≡ sets (take (8 + 10 * put + 10 - (8 + 10 * put)) (drop (8 + 10 * put) out)) 0 (bytes entry_widths (entry_values e))
    → (new : List ℕ) → new ≡ take (8 + 10 * put) out ++ (filled ++ drop (8 + 10 * put + 10 - (8 + 10 * put)) (drop (8 + 10 * put) out))
    → sets new (8 + 10 * (put + 1)) (row_entries time rs) ≡ sets out (8 + 10 * put) (row_entries time (r ∷ rs))
entry-turn time r rs out put room e filled k f new n =
    let next : 8 + 10 * (put + 1) ≡ 8 + 10 * put + 10 = omega arith in
    rw (n, next, ← k) (put-turn entries-run out (8 + 10 * put) e (map (entry_for time) rs) filled room f)

-- the numbers of each fit their bytes
abbrev pub EntriesFit : List Entry → Type 0
EntriesFit [] = Unit
EntriesFit (e ∷ es) = Fit entry_widths (entry_values e) × EntriesFit es

same_entries : (es : List Entry) → map (λ e. entry_from (entry_values e)) es ≡ es
same_entries [] = refl
same_entries (e ∷ es) = ap (λ (l : List Entry). e ∷ l) (same_entries es)

pub entries_back : (es : List Entry) → EntriesFit es → entries_of (length es) (entries_bytes es) ≡ es
unfolding entry_at
entries_back es f =
    run-read entries-run EntriesFit (λ e l h. h) entry_from (entry_at (entries_bytes es)) es [] 0 refl f (λ i. rw (zero-add (10 * i))) ∙ same_entries es

-- they are bytes
pub entries-bytes : (es : List Entry) → Bytes (entries_bytes es)
entries-bytes [] = no_bytes
entries-bytes (e ∷ es) = append_bytes (bytes entry_widths (entry_values e)) (entries_bytes es) (layout_bytes entry_widths (entry_values e)) (entries-bytes es)

-- ---- the entry for a row
-- the entry of a usable row says what the row says
pub entry-hops : (time : ℕ) (x : Row) → usable time x ≡ true → (entry_for time x).hops ≡ x.hops
unfolding entry_for
entry-hops time x e = rw e

pub entry-quality : (time : ℕ) (x : Row) → usable time x ≡ true → (entry_for time x).quality ≡ x.quality
unfolding entry_for
entry-quality time x e = rw e

pub entry_destination : (time : ℕ) (x : Row) → (entry_for time x).destination ≡ x.destination
unfolding entry_for
entry_destination time x = refl
