-- The winner takes over.
-- Assumes nothing.
use Rattle.octets.proofs.Words.{◌≡◌, sym, ◌∙◌, false, false≢true, and-false, ne_eqb, eqb}
use Rattle.octets.specs.Answers.{reason}
use Rattle.octets.proofs.AnswerLaws.{none-holds}
use Rattle.unit_life.specs.Calls.{reasons, on_event}
use Rattle.unit_life.specs.States.{Normal, Nowhere, elected, kind_after}
use Rattle.book.specs.Books.{fresh_of}
use Rattle.poll_history.specs.Takeover.{ElectedManages, ElectedElsewhere, BeginsAnew}

pub elected_manages : ElectedManages
unfolding on_event kind_after
elected_manages s time rule normal ordered = rw (rule, ordered, normal)

pub elected_elsewhere : ElectedElsewhere
unfolding on_event kind_after
elected_elsewhere s time other e =
    let none = none-holds (reasons s time (reason (eqb (kind_after s.kind elected) Nowhere) 7)) _ e in
    go none.1.1.0
  where
    go : eqb (kind_after s.kind elected) Nowhere ≡ false → ⊥
    go q = false≢true (sym q ∙ simp (ne_eqb s.kind Normal other, and-false))

pub begins_anew : BeginsAnew
unfolding fresh_of
begins_anew p time rule = (rw rule, rw rule)
