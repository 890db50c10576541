-- `members_in`'s loop: the rows passed stand in front.
-- Assumes nothing.
use Rattle.octets.proofs.Words.{◌≡◌, refl, ◌∙◌, ◌+◌, ◌*◌, ◌-◌, add-zero, arith, length-set}
use Rattle.octets.proofs.NumberLaws.{num-part}
use Rattle.octets.proofs.ListLaws.{tab-none, tab_more}
use Rattle.book_members.specs.Members.{row_of, rows_of}
use Rattle.book_members.proofs.RowLoopLaws.{row_written}
use Rattle.book_image.specs.Images.{row_in}
use Rattle.book_image.proofs.RestoringLaws.{in_front}
use Rattle.book_image.proofs.restoring.members_in.Goals as goal

pub loop-place-init : goal.loop-place-init
unfolding rows_of
loop-place-init c = (refl, tab-none _ _)

pub loop-place-preserved : goal.loop-place-preserved
unfolding row_in rows_of
loop-place-preserved c =
    let l = c.loop-place in
    let a = c.args in
    let s = a.s.now in
    let start = 20 + 10 * l.place in
    let size = start + 10 - start in
    let row : row_of c.member_in.result ≡ row_in a.s.now a.time l.place =
    c.member_in.ensures ∙ rw (rw (add-zero start) at (num-part 2 s start size 0 (omega arith)), num-part 8 s start size 2 (omega arith)) in
    (length-set l.rows l.place _ ∙ l.invariant.0, row_written l.rows l.place _ ∙ rw (l.invariant.1, row) (tab_more l.place (row_in a.s.now a.time) _ (omega arith)))

pub returns : goal.returns
returns c =
    let l = c.loop-place in
    let a = c.args in
    l.invariant.1 ∙ in_front a.s.now a.time a.count l.place (omega (arith, c.in_use-place-end.ensures))
