-- `kept`: the member as it was, or an empty row.
-- Assumes nothing.
use Rattle.octets.proofs.Words.{ap, ◌∙◌, arith}
use Rattle.slot_sets.specs.Sets.{Slots}
use Rattle.slot_sets.proofs.MaskLaws.{mask-nothing}
use Rattle.book_members.specs.Members.{row_of, member_with}
use Rattle.book_members.proofs.RowLoopLaws.{silent_dropped}
use Rattle.book_members.proofs.rows.kept.Goals as goal

pub returns : goal.returns
returns c =
    let a = c.args in
    ap (λ (s : Slots 64). member_with 0 s 0) mask-nothing ∙
    silent_dropped a.time (row_of a.member) c.age.result c.age.ensures (omega (arith, c.if-age-le-LIVE_MS.false))
