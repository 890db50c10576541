-- What the check answers, case by case.
-- Assumes nothing.
use Rattle.std.proofs.Common.{Result, Ok, Err, Some}
use Rattle.octets.proofs.Words.{◌≡◌, sym, ap, ◌∙◌, true, false, List, ◌∷◌, ℕ, ◌/◌, ◌≤◌, arith, ne_eqb, leb-true, not-false, leb, length, take, drop}
use Rattle.octets.specs.Answers.{Said, Reason, accepted, refused, refusing, first, unless}
use Rattle.octets.specs.Refusals.{number_of}
use Rattle.octets.specs.declared.refusals.Refusal.{Refusal}
use Rattle.octets.proofs.RefusalLaws.{answer_with, status_back}
use Rattle.octets.specs.Lists.{every}
use Rattle.octets.proofs.AnswerLaws.{unless-none, unless-some, NoneHolds, none-holds}
use Rattle.octets.proofs.ReasonLaws.{first_append}
use Rattle.site_plan.specs.declared.plan.Plan.{Plan}
use Rattle.site_plan.specs.Plans.{plan_rule}
use Rattle.site_plan.proofs.PlanLaws.{rule_bounds}
use Rattle.site_sheet.specs.Seen.{Linking, known_in, clashing, known_unit}
use Rattle.site_sheet.specs.SheetBytes.{row_size, sheet_in, links_in}
use Rattle.site_sheet.specs.Sheets.{distinct, link_rule, reasons}
use Rattle.site_sheet.specs.Verdicts.{Named, bad_units, pairs, soonest, Verdict, judged, verdict, verdict_values, check_sheet}
use Rattle.site_sheet.proofs.NearLaws.{pairs-masks}
use Rattle.site_sheet.proofs.RowLaws.{rows-length}

-- a refusal's number is not that of no refusal
pub numbered : (r : Refusal) → number_of r ≡ 0 → ⊥
numbered r z = let e : ◌≡◌ {A = Result Unit Refusal} (Ok tt) (Err r) = sym (ap (λ n. answer_with n tt) z) ∙ status_back (Err r) in cc

-- ---- the reasons of which none follows a link, and the last, which does
module _ (p : Plan) (links s : List ℕ) where
  abbrev before : List Reason
  before = take 5 (reasons p (links_in links) (sheet_in s))

  abbrev behind : List Reason
  behind = drop 5 (reasons p (links_in links) (sheet_in s))

  abbrev all : ℕ
  all = first (reasons p (links_in links) (sheet_in s))

  abbrev told : Said
  told = accepted (verdict_values (verdict p.data_slots (links_in links) (sheet_in s)))

  in_parts : (number : ℕ) → number ≡ first before → all ≡ first (refusing number ∷ behind)
  in_parts number e = first_append before behind _ ∙ ap (λ (n : ℕ). first (refusing n ∷ behind)) (sym e)

  said-refused : (n : ℕ) → all ≡ n → (n ≡ 0 → ⊥) → refused n ≡ check_sheet p (links_in links) (sheet_in s)
  unfolding check_sheet
  said-refused n e z = sym (ap (λ (k : ℕ). unless k told) e ∙ unless-some n told z)

  pub says-unfit : (r : Refusal) → number_of r ≡ first before → refused (number_of r) ≡ check_sheet p (links_in links) (sheet_in s)
  says-unfit r e = said-refused (number_of r) (in_parts (number_of r) e ∙ rw (ne_eqb (number_of r) 0 (numbered r))) (numbered r)

  module _ (z : 0 ≡ first before) where
    none_held : NoneHolds before
    none_held = none-holds before _ (sym z)

    -- a plan within rule has few rows, so there are few units
    pub few-units : (count : ℕ) → count ≡ length s / row_size → count ≤ 21
    few-units count e =
        let bounds = (rule_bounds p (not-false (plan_rule p) none_held.1.1.0)).few-rows in
        let most = leb-true (length (sheet_in s)) p.rows (not-false (leb (length (sheet_in s)) p.rows) none_held.1.1.1.0) in
        omega (arith, bounds, most, rows-length s, e)

    pub listed-once : distinct (sheet_in s) ≡ true
    listed-once = not-false (distinct (sheet_in s)) none_held.1.1.1.1.0

    pub says_unlinked : every (link_rule (sheet_in s)) (links_in links) ≡ false → refused 14 ≡ check_sheet p (links_in links) (sheet_in s)
    says_unlinked e = said-refused 14 (in_parts 0 z ∙ rw e) (λ k. omega (arith, k))

    pub says-judged : (masks : List ℕ) → Linking links s (Some masks) → (v : Verdict)
        → v ≡ judged (soonest (bad_units p.data_slots (sheet_in s))) (soonest (pairs clashing known_unit (known_in s masks)))
        → accepted (verdict_values v) ≡ check_sheet p (links_in links) (sheet_in s)
    unfolding check_sheet verdict
    says-judged masks so v e =
        let none : all ≡ 0 = in_parts 0 z ∙ rw so.0 in
        ap (λ (w : Verdict). accepted (verdict_values w)) e
        ∙ (ap (λ (l : List Named). accepted (verdict_values (judged (soonest (bad_units p.data_slots (sheet_in s))) (soonest l)))) (pairs-masks s masks (links_in links) so.1)
        ∙ sym (unless-none all told none))
