-- What holds of every check of a sheet, as statements.
-- Assumes nothing.
use Rattle.std.specs.Prelude.{◌≡◌, true, false, ◌&&◌, ◌⊎◌, ℕ, ◌<◌, ◌≤◌}
use mathlib.Core.List.{List, ◌∷◌, Memᴰ}
use Rattle.octets.specs.Answers.{accepted, first, OneToOne}
use Rattle.slot_sets.specs.Sets.{has, count, Apart}
use Rattle.site_plan.specs.declared.plan.Plan.{Plan}
use Rattle.site_plan.specs.Schedules.{sends, in_data, kind_of}
use Rattle.site_plan.specs.Laws.{SendsInOwn}
use Rattle.site_sheet.specs.Sheets.{Proposed, Link, slots_for, linked, reasons}
use Rattle.site_sheet.specs.Verdicts.{Verdict, fine, unit, pair, verdict, verdict_values, check_sheet, told_checked}

-- the check is made, and its verdict is this one
abbrev pub Says : Plan → List Link → List Proposed → Verdict → Type 0
Says p links sheet v = check_sheet p links sheet ≡ accepted (verdict_values v)

-- ---- the sentence
-- a unit has 1 to 4 slots within d
pub record Allotted (d : ℕ) (g : Proposed) : Type 0 where
  pub some-slots : 1 ≤ count g.slots
  pub few-slots : count g.slots ≤ 4
  pub within : (i : ℕ) → has g.slots i ≡ true → i < d

-- two units are linked, or a unit is linked to both
abbrev pub Near : List Link → ℕ → ℕ → Type 0
Near links u v = (linked links u v ≡ true) ⊎ ((w : ℕ) × (linked links u w ≡ true) × (linked links v w ≡ true))

-- every unit has 1 to 4 slots within d, and no two units that are near share one
pub record Sound (d : ℕ) (links : List Link) (sheet : List Proposed) : Type 0 where
  pub each : (g : Proposed) → Memᴰ g sheet → Allotted d g
  pub any_two :
      (g h : Proposed) → Memᴰ g sheet → Memᴰ h sheet → (g.unit ≡ h.unit → ⊥) → Near links g.unit h.unit → Apart g.slots h.slots

-- a sheet that is not refused is fine exactly if the sentence holds
abbrev pub FineExactly : Type 0
FineExactly =
    (p : Plan) (links : List Link) (sheet : List Proposed) → first (reasons p links sheet) ≡ 0
    → (Says p links sheet fine → Sound p.data_slots links sheet) × (Sound p.data_slots links sheet → Says p links sheet fine)

-- ---- who is named
-- two units of the sheet, the lower first, that are near and share a slot
pub record Clash (links : List Link) (sheet : List Proposed) (g h : Proposed) : Type 0 where
  pub lower-there : Memᴰ g sheet
  pub higher-there : Memᴰ h sheet
  pub ascending : g.unit < h.unit
  pub near : Near links g.unit h.unit
  pub shared : Apart g.slots h.slots → ⊥

-- the unit offends, and none below it does
pub record FirstUnit (d : ℕ) (sheet : List Proposed) (u : ℕ) : Type 0 where
  pub offends : (g : Proposed) × Memᴰ g sheet × (g.unit ≡ u) × (Allotted d g → ⊥)
  pub none_below : (g : Proposed) → Memᴰ g sheet → g.unit < u → Allotted d g

-- no unit offends, the pair does, and no pair before it: with a lower first unit, or the same and a lower second
pub record FirstPair (d : ℕ) (links : List Link) (sheet : List Proposed) (u v : ℕ) : Type 0 where
  pub units-fine : (g : Proposed) → Memᴰ g sheet → Allotted d g
  pub offends : (g : Proposed) × (h : Proposed) × Clash links sheet g h × (g.unit ≡ u) × (h.unit ≡ v)
  pub none-lower : (g h : Proposed) → Clash links sheet g h → g.unit < u → ⊥
  pub none_between : (g h : Proposed) → Clash links sheet g h → g.unit ≡ u → h.unit < v → ⊥

abbrev pub NamesFirst : Type 0
NamesFirst =
    (p : Plan) (links : List Link) (sheet : List Proposed)
    → ((u : ℕ) → Says p links sheet (unit u) → FirstUnit p.data_slots sheet u)
    × ((u v : ℕ) → Says p links sheet (pair u v) → FirstPair p.data_slots links sheet u v)

-- ---- how links may be given
-- the verdict depends on who is linked, and on nothing else of the links; ..
abbrev pub ByWhoIsLinked : Type 0
ByWhoIsLinked =
    (d : ℕ) (links links' : List Link) (sheet : List Proposed) → ((u v : ℕ) → linked links u v ≡ linked links' u v)
    → verdict d links sheet ≡ verdict d links' sheet

-- .. and a link that is given once more, or from its other end, changes nothing of that
abbrev pub LinkAgain : Type 0
LinkAgain =
    (l : Link) (links : List Link) (u v : ℕ)
    → (linked (l ∷ l ∷ links) u v ≡ linked (l ∷ links) u v) × (linked (record { one = l.other; other = l.one } ∷ links) u v ≡ linked (l ∷ links) u v)

-- ---- what answers say tells them apart
abbrev pub CheckedOneToOne : Type 0
CheckedOneToOne = OneToOne told_checked

-- ---- who sends
-- on a sheet that is fine, of two units, listed or not, each sending in its own slots alone: where a receiver is linked to the one, and the other is the
-- receiver or is linked to it too, in no data slot do both send
abbrev pub OneSenderNearby : Type 0
OneSenderNearby =
    (p : Plan) (links : List Link) (sheet : List Proposed) → Says p links sheet fine
    → (u v receiver : ℕ) → (u ≡ v → ⊥) → linked links u receiver ≡ true → (v ≡ receiver) ⊎ (linked links v receiver ≡ true)
    → (row row' hop hop' : ℕ) (kinds kinds' : ℕ → ℕ)
    → SendsInOwn p row hop (slots_for sheet u) kinds → SendsInOwn p row' hop' (slots_for sheet v) kinds'
    → (s : ℕ) → in_data p s ≡ true → (sends (kinds s) && sends (kinds' s)) ≡ false

-- and so of two units with a schedule as document 01 says, at any rows and hops
abbrev pub OneSenderNearbyOfUnits : Type 0
OneSenderNearbyOfUnits =
    (p : Plan) (links : List Link) (sheet : List Proposed) → Says p links sheet fine
    → (u v receiver : ℕ) → (u ≡ v → ⊥) → linked links u receiver ≡ true → (v ≡ receiver) ⊎ (linked links v receiver ≡ true)
    → (row row' hop hop' s : ℕ) → in_data p s ≡ true
    → (sends (kind_of p row hop (slots_for sheet u) s) && sends (kind_of p row' hop' (slots_for sheet v) s)) ≡ false
