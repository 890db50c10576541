-- `put_responses`: the control slot's frame, then those of the data slots.
-- Assumes nothing.
use Rattle.octets.proofs.Words.{◌∙◌}
use Rattle.slot_sets.specs.Sets.{slots_of}
use Rattle.book_joins.proofs.ResponseLaws.{later, all_told}
use Rattle.book_joins.proofs.responses.put_responses.Goals as goal

pub returns : goal.returns
returns c =
    let a = c.args in
    all_told a.plan a.member.unit a.member.time a.row (later a.plan a.member.unit a.member.time (slots_of a.member.slots) 0) c.response-frame.result a.out.now c.put_bytes.new.out
    c.put_data_slots.new.out c.control_at.result c.control_at.ensures (c.response-frame.ensures ∙ rw c.from.ensures) c.put_bytes.ensures
    c.put_data_slots.ensures
