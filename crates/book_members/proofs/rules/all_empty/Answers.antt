-- `all_empty`: what the iterator tests of every row.
-- Assumes nothing.
use Rattle.octets.proofs.Words.{◌∙◌, rules}
use Rattle.std.proofs.Common.{tests}
use Rattle.std.proofs.lemmas.Iterator.{YieldsList-from_slice}
use Rattle.std.proofs.lemmas.Iterator.Search.{all_from_yields_List}
use Rattle.book_members.specs.declared.member.Member.{Member}
use Rattle.book_members.specs.Members.{row_of}
use Rattle.book_members.specs.Rules.{empty_is}
use Rattle.book_members.proofs.RowLoopLaws.{all_zeros}
use Rattle.book_members.proofs.rules.all_empty.Goals as goal

pub returns : goal.returns
returns c =
    let a = c.args in
    all_from_yields_List (λ (m : Member). empty_is (row_of m)) _ _ _ c.all.ensures.ran (YieldsList-from_slice a.rows.now cc) (λ x b q k. search (rules, tests)) ∙
    all_zeros a.rows.now
