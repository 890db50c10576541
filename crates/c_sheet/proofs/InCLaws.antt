-- A sheet that the C call finds fine is fine: its one sender nearby, of the bytes that the caller holds.
-- Assumes nothing.
use Rattle.octets.proofs.Words.{◌≡◌, refl, sym, ap, ◌∙◌, List, ℕ, arith, eqb-true, not-false, get_or}
use Rattle.octets.specs.Answers.{Said, accepted, first}
use Rattle.octets.proofs.AnswerLaws.{none-holds, refusing_numbered}
use Rattle.octets.proofs.AnsweredLaws.{said-none}
use Rattle.site_plan.specs.PlanBytes.{plan_at}
use Rattle.site_sheet.specs.SheetBytes.{sheet_in, links_in}
use Rattle.site_sheet.specs.Sheets.{reasons}
use Rattle.site_sheet.specs.Verdicts.{Verdict, fine, unit, pair, verdict, verdict_values, check_sheet}
use Rattle.site_sheet.specs.Laws.{Says}
use Rattle.site_sheet.proofs.SendingLaws.{one_sender_nearby_of_units}
use Rattle.c_sheet.specs.SheetCalls.{checked_in, sheet_reasons, sheet_call}
use Rattle.c_sheet.specs.SheetLaws.{OneSenderInC}

names_nobody : (v : Verdict) → get_or (verdict_values v) 0 0 ≡ 0 → v ≡ fine
names_nobody fine e = refl
names_nobody (unit u) e = absurd (omega (arith, e))
names_nobody (pair u v) e = absurd (omega (arith, e))

module _ (plan links sheet : List ℕ) (named lower higher : ℕ) where
  says-fine : (sheet_call plan links sheet named lower higher).status ≡ 0 → (sheet_call plan links sheet named lower higher).named ≡ 0
      → Says (plan_at plan 0) (links_in links) (sheet_in sheet) fine
  unfolding sheet_call check_sheet
  says-fine z none =
      let p = plan_at plan 0 in
      let number = first (reasons p (links_in links) (sheet_in sheet)) in
      let v = verdict p.data_slots (links_in links) (sheet_in sheet) in
      let unrefused = (none-holds (sheet_reasons plan links sheet) (tt, (tt, (tt, (refusing_numbered (checked_in plan links sheet).refusal, tt)))) z).1.1.1.0 in
      let told = (said-none number (accepted (verdict_values v)) (eqb-true (checked_in plan links sheet).refusal 0 (not-false _ unrefused))).1 in
      told ∙ ap (λ (w : Verdict). accepted (verdict_values w)) (names_nobody v (sym (ap (λ (s : Said). get_or s.values 0 0) told) ∙ rw z at none))

pub one_sender_in_c : OneSenderInC
one_sender_in_c plan links sheet named lower higher z none =
    one_sender_nearby_of_units (plan_at plan 0) (links_in links) (sheet_in sheet) (says-fine plan links sheet named lower higher z none)
