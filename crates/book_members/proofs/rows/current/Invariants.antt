-- `current`'s loop changes each row but the first: what is done, with what is left to do, is all of them.
-- Assumes nothing.
use Rattle.octets.proofs.Words.{◌≡◌, ◌++◌, map, take, drop}
use Rattle.book_members.specs.Members.{rows_of, kept}
use Rattle.book_members.proofs.rows.current.Given as goal

abbrev pub invariant-loop-member : goal.invariant-loop-member
invariant-loop-member l =
    take l.member-index (rows_of l.member-items) ++ map (kept l.time) (drop l.member-index (rows_of l.member-items)) ≡ map (kept l.time) (rows_of l.initial.member-items)
