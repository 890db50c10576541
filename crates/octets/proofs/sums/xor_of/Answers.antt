-- `xor_of`'s loop: x is the XOR of the bytes passed.
-- Assumes nothing.
use Rattle.octets.proofs.Words.{refl, ap, ℕ, get_or, take, add-one, take-suc}
use Rattle.std.specs.Int.Bits.{bit_xor}
use Rattle.octets.specs.Sums.{xors}
use Rattle.octets.proofs.SumLaws.{xors_snoc}
use Rattle.octets.proofs.sums.xor_of.Goals as goal

pub loop-byte-init : goal.loop-byte-init
unfolding xors
loop-byte-init c = refl

pub loop-byte-preserved : goal.loop-byte-preserved
loop-byte-preserved c =
    let l = c.loop-byte in
    let s = take c.min.result c.args.s.now in
    rw (add-one, take-suc s l.byte-index 0 c.loop-byte-test.true, xors_snoc) (ap (λ (x : ℕ). bit_xor x (get_or s l.byte-index 0)) l.invariant)
