-- `put_data_slots`'s loop: to store the frames that are left is to store them all, and they take what is left of the bytes.
-- Assumes nothing.
use Rattle.octets.proofs.Words.{◌≡◌, Bool, true, false, ◌+◌, ◌<◌, refl, sym, ap, ◌∙◌, arith, sets}
use Rattle.slot_sets.specs.Sets.{slots_of, has}
use Rattle.book_joins.proofs.ResponseLaws.{left, left-all, left-on, none-told, none-later, passed_over, told}
use Rattle.book_joins.proofs.responses.put_data_slots.Goals as goal
use Rattle.book_joins.proofs.responses.put_data_slots.Goals.{then-holds, else-holds}

pub loop-slot-init : goal.loop-slot-init
loop-slot-init c = (omega (arith, c.bytes_for-end.ensures, left-all 64 (slots_of c.args.member.slots)), refl)

pub returns-then-place-end : goal.returns-then-place-end
returns-then-place-end c =
    let l = c.loop-slot in
    let a = c.args in
    ap (sets l.out l.place) (sym (none-told a.plan a.member.unit a.member.time (slots_of a.member.slots) l.slot (omega (arith, l.invariant.0, c.if-place-end.true)))) ∙ l.invariant.1

pub loop-slot-preserved : goal.loop-slot-preserved
loop-slot-preserved c =
    let l = c.loop-slot in
    let a = c.args in
    let own = slots_of a.member.slots in
    let here : l.slot < 64 = omega arith in
    let on = left-on 64 own l.slot here in
    let asked : (b : Bool) → c.holds.result ≡ b → has own l.slot ≡ b = λ b e. ap (has own) (sym c.from.ensures) ∙ (sym c.holds.ensures ∙ e) in
    elim c.if-holds.branch [
      | then-holds w ↦
          let held = asked true w.if-holds.true in
          let one : left 64 own l.slot ≡ 1 + left 64 own (l.slot + 1) = rw held at on in
          let next =
          told a.plan a.member.unit a.member.time own l.slot here l.out w.put_bytes.new.out w.response.result l.place c.data_at-data.result held c.data_at-data.ensures
          w.response.ensures w.put_bytes.ensures in
          (omega (arith, one, w.place-is, l.invariant.0), rw (w.out-is, w.place-is) (next ∙ l.invariant.1))
      | else-holds w ↦
          let none = asked false w.if-holds.false in
          let same : left 64 own l.slot ≡ 0 + left 64 own (l.slot + 1) = rw none at on in
          let over = passed_over a.plan a.member.unit a.member.time own l.slot here none in
          (omega (arith, same, w.place-is, l.invariant.0), rw (w.out-is, w.place-is) (ap (sets l.out l.place) over ∙ l.invariant.1))
    ]

pub returns : goal.returns
returns c =
    let l = c.loop-slot in
    let a = c.args in
    ap (sets l.out l.place) (sym (none-later a.plan a.member.unit a.member.time (slots_of a.member.slots) l.slot (omega (arith, c.loop-slot-test.false)))) ∙ l.invariant.1
