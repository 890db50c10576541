-- `put_layout`'s loop: to store the numbers that are left is to store them all.
-- Assumes nothing.
use Rattle.octets.proofs.Words.{refl, sym, ◌∙◌, arith, drop}
use Rattle.octets.specs.Layouts.{bytes}
use Rattle.octets.proofs.StoreLaws.{sets-past, bytes-turn, bytes-none}
use Rattle.octets.proofs.layouts.put_layout.Goals as goal

pub loop-k-init : goal.loop-k-init
loop-k-init c = (refl, refl)

pub returns-then-out-place : goal.returns-then-out-place
returns-then-out-place c = let l = c.loop-k in let a = c.args in sym (sets-past (bytes (drop l.k a.widths.now) (drop l.k a.values.now)) l.out l.place c.if-out-place.true) ∙ l.invariant.1

pub loop-k-preserved : goal.loop-k-preserved
loop-k-preserved c =
    let l = c.loop-k in
    let a = c.args in (
      c.put_number.auto.out ∙ l.invariant.0,
      rw (c.put_number.ensures, c.from-width.ensures, c.from.ensures)
          (sym (bytes-turn l.out a.widths.now a.values.now l.place l.k (omega arith) (omega arith)) ∙ l.invariant.1),
    )

pub returns : goal.returns
returns c =
    let l = c.loop-k in
    let a = c.args in
    rw (bytes-none a.widths.now a.values.now l.k (omega arith)) at l.invariant.1
