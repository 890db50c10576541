-- What a verdict or the answer to a check says is said by no other.
-- Assumes nothing.
use Rattle.octets.proofs.Words.{◌≡◌, refl, List, [], ◌∷◌, ℕ}
use Rattle.octets.specs.Answers.{accepted, OneToOne}
use Rattle.octets.proofs.AnswerLaws.{one_by_return}
use Rattle.octets.proofs.RefusalLaws.{told_one}
use Rattle.site_sheet.specs.declared.checking.Verdict.{Verdict as Given}
use Rattle.site_sheet.specs.Verdicts.{Verdict, fine, unit, pair, verdict_values, given}
use Rattle.site_sheet.specs.Laws.{CheckedOneToOne}

-- the verdict that has these values
verdict-from : ℕ → List ℕ → Verdict
verdict-from number [] = fine
verdict-from number (n ∷ []) = fine
verdict-from number (n ∷ u ∷ []) = unit u
verdict-from number (n ∷ u ∷ v ∷ vs) = pair u v

verdict_back : (v : Verdict) → verdict-from 0 (verdict_values v) ≡ v
unfolding verdict-from
verdict_back fine = refl
verdict_back (unit u) = refl
verdict_back (pair u v) = refl

pub verdict-one : OneToOne (λ v. accepted (verdict_values v))
verdict-one = one_by_return _ verdict-from verdict_back

-- the answer's verdict that has these values
given-from : List ℕ → Given
given-from [] = Given.Fine
given-from (n ∷ []) = Given.Fine
given-from (n ∷ u ∷ []) = Given.Unit u
given-from (n ∷ u ∷ v ∷ vs) = Given.Pair (record { lower = u; higher = v })

given_back : (g : Given) → given-from (verdict_values (given g)) ≡ g
unfolding given-from
given_back Given.Fine = refl
given_back (Given.Unit u) = refl
given_back (Given.Pair n) = refl

pub checked_one_to_one : CheckedOneToOne
checked_one_to_one = told_one (λ g. verdict_values (given g)) given-from given_back
