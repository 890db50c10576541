-- `spare`: a truncated difference, of no more than 64 slots.
-- Assumes nothing.
use Rattle.octets.proofs.Words.{arith}
use Rattle.slot_sets.specs.Sets.{slots_of}
use Rattle.slot_sets.proofs.CountLaws.{count_fits}
use Rattle.book_joins.proofs.grants.spare.Goals as goal

pub returns : goal.returns
returns c = let n = count_fits 64 (slots_of c.args.census.now.slots) in (omega (arith, c.size.ensures), omega (arith, c.size.ensures, n))
