-- `unknown_in`: what the iterator tests of every row.
-- Assumes nothing.
use Rattle.octets.proofs.Words.{◌∙◌, not, rules, eqb}
use Rattle.std.proofs.Common.{tests}
use Rattle.std.proofs.lemmas.Iterator.{YieldsList-from_slice}
use Rattle.std.proofs.lemmas.Iterator.Search.{all_from_yields_List}
use Rattle.book_members.specs.declared.member.Member.{Member}
use Rattle.book_members.proofs.RowLoopLaws.{all_unknown}
use Rattle.book_members.proofs.rules.unknown_in.Goals as goal

pub returns : goal.returns
returns c =
    let a = c.args in
    all_from_yields_List (λ (m : Member). not (eqb m.unit a.unit)) _ _ _ c.all.ensures.ran (YieldsList-from_slice a.rows.now cc) (λ x b q k. search (rules, tests)) ∙
    all_unknown a.unit a.rows.now
