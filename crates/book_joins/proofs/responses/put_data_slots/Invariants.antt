-- `put_data_slots`'s loop: to store the frames that are left is to store them all, and they take what is left of the bytes.
-- Assumes nothing.
use Rattle.octets.proofs.Words.{◌≡◌, ◌+◌, ◌*◌, sets}
use Rattle.slot_sets.specs.Sets.{slots_of}
use Rattle.book_joins.proofs.ResponseLaws.{left, later}
use Rattle.book_joins.proofs.responses.put_data_slots.Given as goal

abbrev pub invariant-loop-slot : goal.invariant-loop-slot
invariant-loop-slot l =
    (l.place + 13 * left 64 (slots_of l.member.slots) l.slot ≡ l.end)
    × (sets l.out l.place (later l.plan l.member.unit l.member.time (slots_of l.member.slots) l.slot) ≡ sets l.initial.out 13 (later l.plan l.member.unit l.member.time (slots_of l.member.slots) 0))
