-- What the check of a sheet from C returns and leaves.
-- Assumes nothing.
use Rattle.std.specs.Prelude.{ℕ, ◌%◌, not, List, [], ◌∷◌, eqb, length, get_or}
use Rattle.octets.specs.Answers.{Said, Reason, reason, refusing, first}
use Rattle.octets.specs.Calls.{after}
use Rattle.site_plan.specs.PlanBytes.{plan_size, plan_at}
use Rattle.site_sheet.specs.SheetBytes.{row_size, link_size, sheet_in, links_in}
use Rattle.site_sheet.specs.Verdicts.{check_sheet}
use Rattle.c_sheet.specs.Outcomes.{Finding}

-- the status, how many units are named, and these
pub record SheetLeft : Type 0 where
  pub status : ℕ
  pub named : ℕ
  pub lower : ℕ
  pub higher : ℕ

abbrev pub sheet_left : ℕ → ℕ → ℕ → ℕ → SheetLeft
sheet_left status named lower higher = record { status = status; named = named; lower = lower; higher = higher }

-- what is said of a sheet as numbers: a unit that is not named is 0
abbrev pub finding : Said → Finding
finding said =
    record { refused = said.refusal; named = get_or said.values 0 0; lower = get_or said.values 1 0; higher = get_or said.values 2 0 }

-- what is said of the plan, the links and the sheet that the bytes hold
abbrev pub checked_in : List ℕ → List ℕ → List ℕ → Said
checked_in plan links sheet = check_sheet (plan_at plan 0) (links_in links) (sheet_in sheet)

-- 14 for bytes that are no plan's or no whole number of links or of rows, before anything else
abbrev pub sheet_reasons : List ℕ → List ℕ → List ℕ → List Reason
sheet_reasons plan links sheet =
    reason (not (eqb (length plan) plan_size)) 14
    ∷ reason (not (eqb (length links % link_size) 0)) 14
    ∷ reason (not (eqb (length sheet % row_size) 0)) 14
    ∷ refusing (checked_in plan links sheet).refusal
    ∷ []

unfoldable pub sheet_call : List ℕ → List ℕ → List ℕ → ℕ → ℕ → ℕ → SheetLeft
sheet_call plan links sheet named lower higher =
    let status = first (sheet_reasons plan links sheet) in
    let found = finding (checked_in plan links sheet) in
    sheet_left status (after status named found.named) (after status lower found.lower) (after status higher found.higher)
