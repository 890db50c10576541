-- `place_for`: the place that the iterator stops at.
-- Assumes nothing.
use Rattle.octets.proofs.Words.{◌∙◌, rules}
use Rattle.std.proofs.Common.{tests, eqb}
use Rattle.std.proofs.lemmas.Iterator.{YieldsList-from_slice}
use Rattle.std.proofs.lemmas.Iterator.Search.{position_from_yields_List}
use Rattle.book_members.specs.declared.member.Member.{Member}
use Rattle.book_members.proofs.RowLoopLaws.{placed_position}
use Rattle.book_members.proofs.rows.place_for.Goals as goal

pub returns : goal.returns
returns c =
    let a = c.args in
    position_from_yields_List (λ (m : Member). eqb m.unit a.unit) _ _ _ c.position.ensures.ran (YieldsList-from_slice a.rows.now cc) (λ x b q k. search (rules, tests)) ∙
    placed_position a.unit a.rows.now
