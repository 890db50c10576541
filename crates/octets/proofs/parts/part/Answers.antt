-- `part`: past the end, up to the end, and inside.
-- Assumes nothing.
use Rattle.octets.proofs.Words.{◌≡◌, ap, ℕ, ◌+◌, ◌-◌, arith, take, drop}
use Rattle.octets.specs.Parts.{lent}
use Rattle.octets.proofs.PartLaws.{part-past, part-rest, lies}
use Rattle.octets.proofs.parts.part.Goals as goal

pub returns-then-n-at : goal.returns-then-n-at
returns-then-n-at c =
    let a = c.args in
    lies (lent a.s) a.at a.count _ _ (omega (arith, c.if-n-at.true)) (part-past a.count a.at a.s.now c.if-n-at.true)

pub returns-then-n-at-2 : goal.returns-then-n-at-2
returns-then-n-at-2 c =
    let a = c.args in
    lies (lent a.s) a.at a.count _ _ (omega (arith, c.if-n-at.false)) (part-rest a.count a.at a.s.now c.if-n-at-2.true)

pub returns : goal.returns
returns c =
    let a = c.args in
    let e : a.at + a.count - a.at ≡ a.count = omega arith in
    lies (lent a.s) a.at a.count _ _ (omega (arith, c.if-n-at.false)) (ap (λ (n : ℕ). take n (drop a.at a.s.now)) e)
