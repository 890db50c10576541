-- A step from its parts, as the code finds them one by one.
-- Assumes nothing.
use Rattle.octets.proofs.Words.{◌≡◌, ap, ◌∙◌, ℕ, ◌+◌, ◌%◌, ◌^◌, ◌<◌, arith}
use Rattle.std.proofs.Common.{pos}
use Rattle.moments.specs.Moments.{age_at}
use Rattle.unit_clock.specs.Clock.{signed, wrapped, drift, correction, corrected}
use Rattle.unit_clock.proofs.SignLaws.{above, is_less, same-age}

-- the two times, the drift's 32 bits, how much of it is taken, and what is left of the offset
pub less_correction : (local offset original delay here sent bits part next : ℕ) → offset < 2 ^ 32 → next < 2 ^ 32
    → here ≡ (local + offset) % 2 ^ 32 → sent ≡ (original + delay) % 2 ^ 32 → bits ≡ age_at here sent → part ≡ wrapped (correction (signed bits))
    → (next + part) % 2 ^ 32 ≡ offset
    → next ≡ corrected local offset original delay
unfolding corrected drift
less_correction local offset original delay here sent bits part next o n h s b p e =
    let drifts : bits ≡ age_at (local + offset) (original + delay) = b ∙ same-age _ _ _ _ (omega arith) (omega arith) in
    let taken : part ≡ wrapped (correction (drift local offset original delay)) = p ∙ ap (λ (d : ℕ). wrapped (correction (signed d))) drifts in
    is_less (pos offset) (correction (drift local offset original delay)) next n (omega (arith, taken, above offset))
