-- A sheet: data slots that are proposed for units, and the links between these; who is near whom, and what is refused.
-- Assumes nothing.
use Rattle.std.specs.Prelude.{ℕ, Bool, true, not, ◌&&◌, ◌||◌, cond, List, [], ◌∷◌, eqb, leb, length}
use Rattle.octets.specs.Answers.{Reason, reason}
use Rattle.octets.specs.Addresses.{address}
use Rattle.octets.specs.Lists.{every, some}
use Rattle.slot_sets.specs.Sets.{Slots, no_slots}
use Rattle.site_plan.specs.declared.plan.Plan.{Plan}
use Rattle.site_plan.specs.Plans.{plan_rule}

-- ---- sheets and links
-- a unit on a sheet, and the data slots that are proposed for it
pub record Proposed : Type 0 where
  pub unit : ℕ
  pub slots : Slots 64

-- two units that hear each other
pub record Link : Type 0 where
  pub one : ℕ
  pub other : ℕ

-- the slots that a sheet proposes for a unit: none for one that is not on it
unfoldable pub slots_for : List Proposed → ℕ → Slots 64
slots_for [] u = no_slots
slots_for (g ∷ sheet) u = cond (eqb g.unit u) g.slots (slots_for sheet u)

-- ---- who is near whom
-- a link joins two units, whichever it names first
abbrev pub joins : ℕ → ℕ → Link → Bool
joins u v l = (eqb l.one u && eqb l.other v) || (eqb l.one v && eqb l.other u)

unfoldable pub linked : List Link → ℕ → ℕ → Bool
linked links u v = some (joins u v) links

-- a unit of the sheet is linked to both
abbrev pub between : List Link → ℕ → ℕ → Proposed → Bool
between links u v g = linked links u g.unit && linked links v g.unit

unfoldable pub common : List Link → List Proposed → ℕ → ℕ → Bool
common links sheet u v = some (between links u v) sheet

-- linked, or with a common neighbour
abbrev pub near : List Link → List Proposed → ℕ → ℕ → Bool
near links sheet u v = linked links u v || common links sheet u v

-- ---- what is refused
-- a unit is on the sheet
abbrev pub is_for : ℕ → Proposed → Bool
is_for u g = eqb g.unit u

unfoldable pub listed : List Proposed → ℕ → Bool
listed sheet u = some (is_for u) sheet

-- no unit is listed twice
unfoldable pub distinct : List Proposed → Bool
distinct [] = true
distinct (g ∷ sheet) = not (listed sheet g.unit) && distinct sheet

-- a link names two units of the sheet
abbrev pub link_rule : List Proposed → Link → Bool
link_rule sheet l = listed sheet l.one && listed sheet l.other && not (eqb l.one l.other)

abbrev pub unit_addressed : Proposed → Bool
unit_addressed g = address g.unit

abbrev pub link_addressed : Link → Bool
link_addressed l = address l.one && address l.other

-- 4 for an address out of range, before all else; then 14 for the plan, for too many units, for one listed twice, and for a link
abbrev pub reasons : Plan → List Link → List Proposed → List Reason
reasons p links sheet =
    reason (not (every unit_addressed sheet)) 4
    ∷ reason (not (every link_addressed links)) 4
    ∷ reason (not (plan_rule p)) 14
    ∷ reason (not (leb (length sheet) p.rows)) 14
    ∷ reason (not (distinct sheet)) 14
    ∷ reason (not (every (link_rule sheet) links)) 14
    ∷ []
