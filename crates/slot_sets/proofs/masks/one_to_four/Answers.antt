-- `one_to_four`: some slots, and none left when four have been dropped.
-- Assumes nothing.
use Rattle.slot_sets.specs.Sets.{slots_of}
use Rattle.slot_sets.proofs.FewLaws.{some_and_few}
use Rattle.slot_sets.proofs.masks.one_to_four.Goals as goal

pub returns : goal.returns
returns c =
    some_and_few (slots_of c.args.m) (slots_of c.dropped-more.result) _ _ _ _ _ c.is_empty.ensures c.is_empty-2.ensures c.dropped.ensures c.dropped-2.ensures
    c.dropped-3.ensures c.dropped-more.ensures
