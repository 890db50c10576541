-- Sheets and links are read back from their bytes.
-- Assumes nothing.
use Rattle.octets.proofs.Words.{◌≡◌, refl, ap, ◌∙◌, [], ℕ, ◌+◌, ◌*◌, ◌/◌, arith, length}
use Rattle.octets.specs.Layouts.{fields}
use Rattle.octets.specs.Lists.{tab, Each}
use Rattle.octets.proofs.ListLaws.{map_same}
use Rattle.octets.proofs.RunLaws.{Run, run_length, run-read}
use Rattle.slot_sets.specs.Sets.{Slots}
use Rattle.slot_sets.proofs.MaskLaws.{set_back}
use Rattle.site_sheet.specs.SheetBytes.{row_widths, row_size, row_values, proposed_from, proposed_at, sheet_in, sheet_bytes, link_widths, link_size, link_values, link_from, link_at, links_in, links_bytes, SheetReadsBack, LinksReadBack}

from_start : (n : ℕ) → n ≡ 0 + n
from_start n = omega arith

sheet_run : Run row_widths row_values sheet_bytes
sheet_run = record { none = refl; more = λ g l. refl; full = λ g. refl }

links-run : Run link_widths link_values links_bytes
links-run = record { none = refl; more = λ l ls. refl; full = λ l. refl }

pub sheet_reads_back : SheetReadsBack
unfolding sheet_in
sheet_reads_back sheet fits =
    let s = sheet_bytes sheet in
    let many : length s / row_size ≡ length sheet = omega (arith, run_length sheet_run sheet) in
    ap (λ (n : ℕ). tab n (proposed_at s)) many
    ∙ (run-read sheet_run (Each _) (λ g l h. h) proposed_from (proposed_at s) sheet [] 0 refl fits (λ i. ap (λ (at : ℕ). proposed_from (fields row_widths s at)) (from_start (row_size * i)))
    ∙ map_same (λ g. proposed_from (row_values g)) (λ g. ap (λ (set : Slots 64). record { unit = g.unit; slots = set }) (set_back g.slots)) sheet)

pub links_read_back : LinksReadBack
unfolding links_in
links_read_back links fits =
    let s = links_bytes links in
    let many : length s / link_size ≡ length links = omega (arith, run_length links-run links) in
    ap (λ (n : ℕ). tab n (link_at s)) many
    ∙ (run-read links-run (Each _) (λ l ls h. h) link_from (link_at s) links [] 0 refl fits (λ i. ap (λ (at : ℕ). link_from (fields link_widths s at)) (from_start (link_size * i)))
    ∙ map_same (λ l. link_from (link_values l)) (λ l. refl) links)
