-- `put_rows`'s loop: to put the lines that are left is to put them all.
-- Assumes nothing.
use Rattle.octets.proofs.Words.{arith}
use Rattle.book_drawing.proofs.LineLaws.{row-drawn, row-passed, rows_end}
use Rattle.book_drawing.proofs.text.Text.put_rows.Goals as goal
use Rattle.book_drawing.proofs.text.Text.put_rows.Goals.{then-member-ne0, else-member-ne0}

pub loop-row-preserved : goal.loop-row-preserved
loop-row-preserved c =
    let l = c.loop-row in
    let a = c.args in
    elim c.if-member-ne0.branch [
      | then-member-ne0 w ↦
          let line = w.put_member_line.ensures in
          rw w.self-is
          (omega (arith, l.invariant.0, line.1), row-drawn a.self.now a.plan a.rows.now l.row l.self l.invariant.1 w.put_member_line.new.self (omega arith) w.if-member-ne0.true line.0)
      | else-member-ne0 w ↦
          rw w.self-is (omega (arith, l.invariant.0), row-passed a.self.now a.plan a.rows.now l.row l.self l.invariant.1 (omega arith) w.if-member-ne0.false)
    ]

pub returns : goal.returns
returns c =
    let l = c.loop-row in
    let a = c.args in
    rows_end a.self.now a.plan a.rows.now l.row l.self l.invariant.1 (omega arith)
