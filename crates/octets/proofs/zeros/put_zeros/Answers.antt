-- `put_zeros`: past the end nothing is stored, else what there is room for.
-- Assumes nothing.
use Rattle.octets.proofs.Words.{◌≡◌, ◌∙◌, ◌+◌, ◌-◌, ℕ, sym, arith, length, take, drop, replicate, length-drop, length-replicate, length-take-le}
use Rattle.std.proofs.lemmas.List.{take-replicate}
use Rattle.octets.proofs.StoreLaws.{sets-past, put-room}
use Rattle.octets.proofs.zeros.put_zeros.Goals as goal

pub returns-then-out-at : goal.returns-then-out-at
returns-then-out-at c = let a = c.args in sym (sets-past (replicate a.count 0) a.out.now a.at c.if-out-at.true)

pub returns : goal.returns
returns c =
    let a = c.args in
    let n = c.min-n.result in
    let zeros = replicate {A = ℕ} a.count 0 in
    let e : a.at + n - a.at ≡ n = omega arith in
    let m : length (take n (drop a.at a.out.now)) ≡ n = length-take-le n (drop a.at a.out.now) (omega (arith, length-drop a.at a.out.now)) in
    let f : c.fill.new.self ≡ take n zeros =
    c.fill.ensures.after (λ y h. h) ∙ rw (e, m) (sym (take-replicate n a.count 0 (omega arith)))
    in
    rw (e, f) (put-room a.out.now zeros a.at n (omega arith) (rw (length-replicate {A = ℕ} a.count 0) c.min-n.ensures))
