-- `u64`'s `store`: the lower four bytes and the upper four, or what there is of them.
-- Assumes nothing.
use Rattle.octets.proofs.Words.{sym, ◌∙◌}
use Rattle.octets.specs.Numbers.{digits}
use Rattle.octets.proofs.StoreLaws.{sets-past, sets_append, digits_halves}
use Rattle.octets.proofs.NumberLaws.{length_digits}
use Rattle.octets.proofs.stored.U64Stored.store.Goals as goal

pub returns-then-n-at : goal.returns-then-n-at
returns-then-n-at c = sym (sets-past (digits 8 _) _ _ c.if-n-at.true)

pub returns : goal.returns
returns c =
    c.store_whole-2.ensures.0 ∙ rw (c.store_whole.ensures.0, digits_halves 4 4, sets_append, length_digits)
