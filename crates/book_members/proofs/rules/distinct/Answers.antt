-- `distinct`'s loop: the rows from `at` on are distinct exactly if all are.
-- Assumes nothing.
use Rattle.octets.proofs.Words.{◌∙◌, sym}
use Rattle.book_members.proofs.RowLoopLaws.{unlike_stop, unlike_known, unlike_free, unlike_end}
use Rattle.book_members.proofs.rules.distinct.Goals as goal
use Rattle.book_members.proofs.rules.distinct.Goals.{else-member-ne0-via-then-member-ne0+else-not-unknown_in, else-member-ne0-via-else-member-ne0}

pub returns-then-not-unknown_in : goal.returns-then-not-unknown_in
returns-then-not-unknown_in c =
    let ms = c.args.rows.now in
    let l = c.loop-at in
    unlike_stop ms l.at l.invariant c.loop-at-test.true c.if-member-ne0.true (sym c.unknown_in.ensures ∙ c.if-not-unknown_in.true)

pub loop-at-preserved : goal.loop-at-preserved
loop-at-preserved c =
    let ms = c.args.rows.now in
    let l = c.loop-at in
    elim c.else-member-ne0.branch [
      | else-member-ne0-via-then-member-ne0+else-not-unknown_in w ↦ unlike_known ms l.at l.invariant c.loop-at-test.true (sym w.unknown_in.ensures ∙ w.if-not-unknown_in.false)
      | else-member-ne0-via-else-member-ne0 w ↦ unlike_free ms l.at l.invariant c.loop-at-test.true w.if-member-ne0.false
    ]

pub returns : goal.returns
returns c = unlike_end c.args.rows.now c.loop-at.at c.loop-at.invariant c.loop-at-test.false
