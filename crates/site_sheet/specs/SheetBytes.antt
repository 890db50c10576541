-- A sheet as 10 bytes a unit, its address and the mask of its slots, and links as 4 bytes each, the two addresses; the lowest byte of a number first.
-- Assumes nothing.
use Rattle.std.specs.Prelude.{◌≡◌, ℕ, ◌*◌, ◌/◌, List, [], ◌∷◌, length, get_or}
use Rattle.octets.specs.Layouts.{total, fields, in_turn, Fit}
use Rattle.octets.specs.Lists.{tab, Each}
use Rattle.slot_sets.specs.Sets.{slots_of, mask_of}
use Rattle.site_sheet.specs.Sheets.{Proposed, Link}

-- ---- a sheet: unit 2, slots 8
abbrev pub row_widths : List ℕ
row_widths = 2 ∷ 8 ∷ []

-- how many bytes a row has: 10
abbrev pub row_size : ℕ
row_size = total row_widths

abbrev pub proposed_from : List ℕ → Proposed
proposed_from vs = record { unit = get_or vs 0 0; slots = slots_of (get_or vs 1 0) }

abbrev pub proposed_at : List ℕ → ℕ → Proposed
proposed_at s k = proposed_from (fields row_widths s (row_size * k))

-- bytes behind the last whole row say nothing
unfoldable pub sheet_in : List ℕ → List Proposed
sheet_in s = tab (length s / row_size) (proposed_at s)

-- the bytes of a sheet
abbrev pub row_values : Proposed → List ℕ
row_values g = g.unit ∷ mask_of g.slots ∷ []

abbrev pub sheet_bytes : List Proposed → List ℕ
sheet_bytes sheet = in_turn row_widths row_values sheet

-- ---- links: one 2, other 2
abbrev pub link_widths : List ℕ
link_widths = 2 ∷ 2 ∷ []

-- how many bytes a link has: 4
abbrev pub link_size : ℕ
link_size = total link_widths

abbrev pub link_from : List ℕ → Link
link_from vs = record { one = get_or vs 0 0; other = get_or vs 1 0 }

abbrev pub link_at : List ℕ → ℕ → Link
link_at s k = link_from (fields link_widths s (link_size * k))

unfoldable pub links_in : List ℕ → List Link
links_in s = tab (length s / link_size) (link_at s)

-- the bytes of links
abbrev pub link_values : Link → List ℕ
link_values l = l.one ∷ l.other ∷ []

abbrev pub links_bytes : List Link → List ℕ
links_bytes links = in_turn link_widths link_values links

-- ---- what is written is read back where each number fits its bytes
abbrev pub SheetReadsBack : Type 0
SheetReadsBack = (sheet : List Proposed) → Each (λ g. Fit row_widths (row_values g)) sheet → sheet_in (sheet_bytes sheet) ≡ sheet

abbrev pub LinksReadBack : Type 0
LinksReadBack = (links : List Link) → Each (λ l. Fit link_widths (link_values l)) links → links_in (links_bytes links) ≡ links
