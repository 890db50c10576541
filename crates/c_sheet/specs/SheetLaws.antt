-- What holds of a sheet that the C call finds fine, as a statement of the bytes that the caller holds.
-- Assumes nothing.
use Rattle.std.specs.Prelude.{◌≡◌, true, false, ◌&&◌, List, ◌⊎◌, ℕ}
use Rattle.site_plan.specs.PlanBytes.{plan_at}
use Rattle.site_plan.specs.Schedules.{sends, in_data, kind_of}
use Rattle.site_sheet.specs.SheetBytes.{sheet_in, links_in}
use Rattle.slot_sets.specs.Sets.{Slots}
use Rattle.site_sheet.specs.Sheets.{slots_for, linked}
use Rattle.c_sheet.specs.SheetCalls.{sheet_call}

-- where the call returns 0 and names nobody: of two units, listed or not, with a schedule as document 01 says, where a receiver is linked to the one, and
-- the other is the receiver or is linked to it too, in no data slot do both send
abbrev pub OneSenderInC : Type 0
OneSenderInC =
    (plan links sheet : List ℕ) (named lower higher : ℕ)
    → let left = sheet_call plan links sheet named lower higher in
    let p = plan_at plan 0 in
    let ties = links_in links in
    let own : ℕ → Slots 64 = slots_for (sheet_in sheet) in
    left.status ≡ 0 → left.named ≡ 0
    → (u v receiver : ℕ) → (u ≡ v → ⊥) → linked ties u receiver ≡ true → (v ≡ receiver) ⊎ (linked ties v receiver ≡ true)
    → (row row' hop hop' s : ℕ) → in_data p s ≡ true
    → (sends (kind_of p row hop (own u) s) && sends (kind_of p row' hop' (own v) s)) ≡ false
