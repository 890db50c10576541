-- `zeros`: no plan, and no row in use.
-- Assumes nothing.
use Rattle.octets.proofs.Words.{refl}
use Rattle.slot_sets.proofs.MaskLaws.{mask-nothing}
use Rattle.book_members.specs.Members.{rows_of}
use Rattle.book.proofs.book.zeros.Goals as goal

pub returns : goal.returns
unfolding rows_of
returns c = rw mask-nothing refl
