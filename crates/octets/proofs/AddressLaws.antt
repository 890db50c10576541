-- What the rule of an address says of a number's size.
-- Assumes nothing.
use Rattle.octets.proofs.Words.{◌≡◌, true, and-eq-true_iff, ℕ, ◌<◌, arith, leb-true, leb}
use Rattle.octets.specs.Addresses.{address}

-- an address is not 0, and has 16 bits
pub address-least : (n : ℕ) → address n ≡ true → 0 < n
address-least n e =
    let h = leb-true 1 n ((and-eq-true_iff (leb 1 n) (leb n 0xFFFE)).0 e).0 in
    omega (arith, h)

pub address-some : (n : ℕ) → address n ≡ true → n ≡ 0 → ⊥
address-some n e z = omega (arith, address-least n e)

pub address-fits : (n : ℕ) → address n ≡ true → n < 0x10000
address-fits n e =
    let h = leb-true n 0xFFFE ((and-eq-true_iff (leb 1 n) (leb n 0xFFFE)).0 e).1 in
    omega (arith, h)
