-- `has_room`: what the iterator tests of every place.
-- Assumes nothing.
use Rattle.octets.proofs.Words.{refl, ◌∙◌, rules}
use Rattle.std.proofs.Common.{tests}
use Rattle.std.proofs.lemmas.Iterator.{YieldsList-from_range}
use Rattle.std.proofs.lemmas.Iterator.Search.{any_from_yields_List}
use Rattle.unit_poll.proofs.LoopLaws.{takes, some_room}
use Rattle.unit_poll.proofs.poll.has_room.Goals as goal

pub returns : goal.returns
returns c =
    let a = c.args in
    any_from_yields_List (takes a.s.now a.unit) _ _ _ c.any.ensures.ran (YieldsList-from_range 0 24 24 refl refl) (λ x b q k. search (rules, tests)) ∙
    some_room a.s.now a.unit
