-- `Member::is_empty`: zeros.
-- Assumes nothing.
use Rattle.octets.proofs.Words.{◌∙◌, ◌<◌, ◌^◌, rules}
use Rattle.book_members.proofs.RowLoopLaws.{zeros_are}
use Rattle.book_members.proofs.member.Member.is_empty.Goals as goal
use Rattle.book_members.proofs.member.Member.is_empty.Goals.{Start}

below : (d : Start) → d.args.self.slots < 2 ^ 64
below d = search rules

pub returns : goal.returns
returns c = c.eq.ensures ∙ zeros_are c.args.self (below (goal.at.returns c).Start)
