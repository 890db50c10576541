-- `put_rows`'s loop: to put the lines that are left is to put them all.
-- Assumes nothing.
use Rattle.octets.proofs.Words.{◌+◌, ◌*◌, ◌≤◌}
use Rattle.book_drawing.proofs.LineLaws.{Left, lines_from}
use Rattle.book_drawing.proofs.text.Text.put_rows.Given as goal

abbrev pub invariant-loop-row : goal.invariant-loop-row
invariant-loop-row l = (l.self.place ≤ 21 + 106 * l.row) × Left l.initial.self (lines_from l.plan l.rows 0) l.self (lines_from l.plan l.rows l.row)
