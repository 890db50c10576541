-- What the check of a sheet from C leaves, by what is said of the lengths and of the sheet.
-- Assumes nothing.
use Rattle.octets.proofs.Words.{◌≡◌, refl, sym, ap, ◌∙◌, Bool, true, false, cond, List, [], ◌∷◌, ℕ, ne_eqb, eqb-true, eqb, take}
use Rattle.octets.specs.Answers.{Said, accepted, refused, Reason, refusing, first, unless}
use Rattle.octets.specs.Refusals.{number_of}
use Rattle.octets.specs.declared.refusals.Refusal.{Refusal}
use Rattle.octets.proofs.AnsweredLaws.{said-none}
use Rattle.octets.proofs.ReasonLaws.{first_append, first-refusing}
use Rattle.site_sheet.proofs.CheckLaws.{numbered}
use Rattle.c_sheet.specs.Outcomes.{Finding}
use Rattle.c_sheet.specs.SheetCalls.{sheet_left, finding, checked_in, sheet_reasons, sheet_call}

module _ (plan links sheet : List ℕ) where
  abbrev lengths : List Reason
  lengths = take 3 (sheet_reasons plan links sheet)

  abbrev said : Said
  said = unless (first lengths) (checked_in plan links sheet)

  abbrev status : ℕ
  status = first (sheet_reasons plan links sheet)

  status-said : status ≡ said.refusal
  status-said = first_append lengths (refusing (checked_in plan links sheet).refusal ∷ []) _ ∙ go (eqb (first lengths) 0) refl
    where
      go : (b : Bool) → eqb (first lengths) 0 ≡ b
          → first (refusing (first lengths) ∷ refusing (checked_in plan links sheet).refusal ∷ []) ≡ (cond b (checked_in plan links sheet) (refused (first lengths))).refusal
      go true q = rw (eqb-true (first lengths) 0 q) (first-refusing (checked_in plan links sheet).refusal)
      go false q = rw q

  module _ (named lower higher : ℕ) where
    refused-left : (n : ℕ) → status ≡ n → (n ≡ 0 → ⊥) → sheet_left n named lower higher ≡ sheet_call plan links sheet named lower higher
    unfolding sheet_call
    refused-left n e z = rw (e, ne_eqb n 0 z)

    pub not-judged : (r : Refusal) (n : ℕ) → n ≡ number_of r → refused (number_of r) ≡ said → sheet_left n named lower higher ≡ sheet_call plan links sheet named lower higher
    not-judged r n en e =
        rw en (refused-left (number_of r) (status-said ∙ sym (ap (λ (x : Said). x.refusal) e)) (numbered r))

    pub judged : (vs : List ℕ) (f : Finding) → finding (accepted vs) ≡ f → accepted vs ≡ said → sheet_left 0 f.named f.lower f.higher ≡ sheet_call plan links sheet named lower higher
    unfolding sheet_call
    judged vs f ef e =
        let accepts : said.refusal ≡ 0 = sym (ap (λ (x : Said). x.refusal) e) in
        let same = (said-none (first lengths) (checked_in plan links sheet) accepts).1 in
        ap (λ (x : Finding). sheet_left 0 x.named x.lower x.higher) (sym ef ∙ ap finding (e ∙ same)) ∙ sym (rw (status-said ∙ accepts))
