-- Needs no belief, laws carry it to Sheets and Verdicts: what code sees of a sheet, place by place.
-- Assumes nothing.
use Rattle.std.specs.Prelude.{◌≡◌, ℕ, suc, ◌+◌, ◌*◌, ◌/◌, ◌<◌, Bool, true, false, not, ◌&&◌, ◌||◌, cond, List, [], ◌∷◌, Option, None, Some, eqb, ltb, length, drop, get_or}
use Rattle.octets.specs.Lists.{tab, every}
use Rattle.octets.specs.Numbers.{num}
use Rattle.slot_sets.specs.Sets.{slots_of, has, disjoint}
use Rattle.site_sheet.specs.declared.rows.Row.{Row}
use Rattle.site_sheet.specs.declared.rows.Ends.{Ends}
use Rattle.site_sheet.specs.declared.judging.Known.{Known}
use Rattle.site_sheet.specs.declared.checking.Pair.{Pair}
use Rattle.site_sheet.specs.Sheets.{Proposed, Link, linked, listed, link_rule}
use Rattle.site_sheet.specs.SheetBytes.{row_size, link_size, sheet_in, links_in}
use Rattle.site_sheet.specs.Verdicts.{Named, alone, both, sooner, Found, nobody, found}

-- ---- rows and links as code reads them
abbrev pub row_at : List ℕ → ℕ → Row
row_at s k = record { unit = num 2 s (row_size * k); slots = num 8 s (row_size * k + 2) }

abbrev pub ends_at : List ℕ → ℕ → Ends
ends_at s k = record { one = num 2 s (link_size * k); other = num 2 s (link_size * k + 2) }

-- ---- by place
-- the first place of a unit, past the end where it is not there
unfoldable pub place_of : List Proposed → ℕ → ℕ
place_of [] u = 0
place_of (g ∷ sheet) u = cond (eqb g.unit u) 0 (suc (place_of sheet u))

-- how a search from a place on ends: at the unit's first place there, or where none is its place
abbrev pub Searched : List ℕ → ℕ → ℕ → Option ℕ → Type 0
Searched s from u None = listed (drop from (sheet_in s)) u ≡ false
Searched s from u (Some place) = (place < length s / row_size) × (place ≡ from + place_of (drop from (sheet_in s)) u)

-- the mask of one place
abbrev pub Single : ℕ → ℕ → Type 0
Single place mask = (k : ℕ) → has (slots_of mask) k ≡ eqb k place

-- of each of n units by its place the places of its neighbours, as a mask
pub record Neighbouring (links : List Link) (n : ℕ) (units : ℕ → ℕ) (masks : List ℕ) : Type 0 where
  pub known : (i k : ℕ) → i < n → has (slots_of (get_or masks i 0)) k ≡ (ltb k n && linked links (units i) (units k))

-- what the links give: of each place the places of its neighbours, or nothing where a link names no two units of the sheet
abbrev pub Linking : List ℕ → List ℕ → Option (List ℕ) → Type 0
Linking links s None = every (link_rule (sheet_in s)) (links_in links) ≡ false
Linking links s (Some masks) =
    (every (link_rule (sheet_in s)) (links_in links) ≡ true) × Neighbouring (links_in links) (length s / row_size) (λ k. (row_at s k).unit) masks

-- a row with its place and its neighbours' places
abbrev pub known_at : List ℕ → List ℕ → ℕ → Known
known_at s masks k = record { row = row_at s k; place = k; neighbours = get_or masks k 0 }

unfoldable pub known_in : List ℕ → List ℕ → List Known
known_in s masks = tab (length s / row_size) (known_at s masks)

abbrev pub near_places : Known → Known → Bool
near_places g h = has (slots_of g.neighbours) h.place || not (disjoint (slots_of g.neighbours) (slots_of h.neighbours))

abbrev pub clashing : Known → Known → Bool
clashing g h = ltb g.row.unit h.row.unit && not (disjoint (slots_of g.row.slots) (slots_of h.row.slots)) && near_places g h

abbrev pub known_unit : Known → ℕ
known_unit g = g.row.unit

-- ---- what was found so far
abbrev pub found_unit : Option ℕ → Found
found_unit None = nobody
found_unit (Some u) = found (alone u)

abbrev pub found_pair : Option Pair → Found
found_pair None = nobody
found_pair (Some p) = found (both p.lower p.higher)

-- the first of a list and of what was found before
unfoldable pub soonest_with : List Named → Found → Found
soonest_with [] f = f
soonest_with (n ∷ l) f = found (sooner n (soonest_with l f))
