-- `asks`: what is held and what is spare are no more than 128.
-- Assumes nothing.
use Rattle.octets.proofs.Words.{arith, Fits-under}
use Rattle.slot_sets.specs.Sets.{slots_of}
use Rattle.slot_sets.proofs.CountLaws.{count_fits}
use Rattle.book_joins.proofs.asking.asks.Goals as goal

pub overflow_add-most : goal.overflow_add-most
overflow_add-most c = Fits-under _ _ 129 (omega (arith, c.size.ensures, count_fits 64 (slots_of c.args.own), c.spare.ensures.1)) _
