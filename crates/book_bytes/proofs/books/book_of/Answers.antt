-- `book_of`: the rows that its loop passed stand in front; then the plan and the time.
-- Assumes nothing.
use Rattle.octets.proofs.Words.{◌≡◌, refl, ◌∙◌, arith, rules, replicate}
use Rattle.octets.specs.Lists.{tab}
use Rattle.octets.proofs.ListLaws.{tab-none, tab_more, tab-all}
use Rattle.book_members.specs.Members.{rows_of}
use Rattle.book_members.proofs.RowLoopLaws.{nobody, row_written}
use Rattle.book_bytes.specs.BookBytes.{row_at, book_in}
use Rattle.book_bytes.proofs.books.book_of.Goals as goal

pub loop-place-init : goal.loop-place-init
unfolding rows_of
loop-place-init c = (refl, refl, tab-none _ _)

pub loop-place-preserved : goal.loop-place-preserved
loop-place-preserved c =
    let l = c.loop-place in
    let s = c.args.s.now in (
      search rules,
      l.invariant.1,
      row_written l.row-items l.place _ ∙ rw (l.invariant.2, c.member_at.ensures) (tab_more l.place (row_at s) _ (omega arith)),
    )

pub returns : goal.returns
unfolding book_in
returns c =
    let l = c.loop-place in
    let s = c.args.s.now in
    let e : l.place ≡ 21 = omega arith in
    let all : rows_of l.row-items ≡ tab 21 (row_at s) = (rw e at l.invariant.2) ∙ tab-all 21 (row_at s) (rows_of (replicate 21 nobody)) l.invariant.1 in
    rw (all, c.plan_of.ensures, c.read.ensures)
