-- Times are 32-bit milliseconds that begin again at 0 past their top. Every age and every order of two times is one of these two.
-- Assumes nothing.
use Rattle.std.specs.Prelude.{ℕ, ◌+◌, ◌-◌, ◌%◌, ◌^◌, Bool, nat_lt}

-- the age, at a time, of what happened at another: their difference, modulo 2^32
unfoldable pub age_at : ℕ → ℕ → ℕ
age_at time happened = (time % 2 ^ 32 + (2 ^ 32 - happened % 2 ^ 32)) % 2 ^ 32

-- the step from the first time to the second is forward: less than half of the way round
unfoldable pub in_order : ℕ → ℕ → Bool
in_order first second = nat_lt (age_at second first) (2 ^ 31)
