-- `put_members`'s loop: to write the rows that are left is to write them all.
-- Assumes nothing.
use Rattle.octets.proofs.Words.{◌∙◌, ◌≤◌, length, arith, rules, drop_of_length-le}
use Rattle.octets.proofs.RunLaws.{part-turn, cut_turn}
use Rattle.book_members.specs.Members.{rows_of}
use Rattle.book_bytes.proofs.BookByteLaws.{members_run}
use Rattle.book_bytes.proofs.books.put_members.Goals as goal

-- the row that the end cuts
pub returns-then-out-end : goal.returns-then-out-end
returns-then-out-end c =
    let l = c.loop-written in
    let rows = c.args.rows.now in
    c.put_member.ensures ∙ (cut_turn members_run l.out rows 14 l.written _ (search rules) c.if-out-end.true ∙ l.invariant)

pub loop-written-preserved : goal.loop-written-preserved
loop-written-preserved c =
    let l = c.loop-written in
    let rows = c.args.rows.now in
    part-turn members_run l.out rows 14 l.written _ (search rules) _ c.if-out-end.false c.put_member-in-loop-written.ensures ∙ l.invariant

pub returns : goal.returns
unfolding rows_of
returns c =
    let l = c.loop-written in
    let rows = c.args.rows.now in
    let past : length rows ≤ l.written = omega arith in
    rw (drop_of_length-le rows past) at l.invariant
