-- `zeros_from`'s loop: what was passed and what is left are zeros exactly if all is.
-- Assumes nothing.
use Rattle.octets.proofs.Words.{ap, ◌∙◌, ℕ, ◌-◌, arith, rules, length, length-drop, drop, take_all}
use Rattle.octets.specs.Zeros.{zeros_from}
use Rattle.std.proofs.lemmas.List.{drop_min}
use Rattle.octets.proofs.ZeroLaws.{zeros-turn, zeros_end}
use Rattle.octets.proofs.zeros.zeros_from.Goals as goal

pub loop-byte-init : goal.loop-byte-init
loop-byte-init c =
    let s = c.args.s.now in
    let m = c.min.result in
    ap (zeros_from 0) (take_all (length s - m) (drop m s) (omega (arith, length-drop m s)) ∙ ap (λ (k : ℕ). drop k s) c.min.ensures ∙ drop_min c.args.at s)

pub loop-byte-preserved : goal.loop-byte-preserved
loop-byte-preserved c = search (rules, zeros-turn)

pub returns : goal.returns
returns c = search (rules, zeros_end)
