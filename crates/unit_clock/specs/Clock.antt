-- The clock: how far a unit's time is from the network's, and what a step makes of its offset. Offsets and times are numbers of 32 bits, modulo 2^32; a drift
-- is the wrapped difference of two times, read with its sign.
-- Assumes nothing.
use Rattle.std.specs.Prelude.{ℕ, suc, ◌+◌, ◌-◌, ◌%◌, ◌^◌, cond, List, ℤ, pos, negsuc, ◌-ℤ◌, int_div, nat_lt, unsigned_abs}
use Rattle.octets.specs.Calls.{after}
use Rattle.moments.specs.Moments.{age_at}
use Rattle.frame_beacons.specs.EitherBeacons.{either_in, refusal_for}
use Rattle.unit_clock.specs.Outcomes.{Stepped}

-- ---- 32 bits, with a sign and without
-- a number of 32 bits read with its sign: from 2^31 on it is 2^32 less
unfoldable pub signed : ℕ → ℤ
signed n = cond (nat_lt n (2 ^ 31)) (pos n) (pos n -ℤ pos (2 ^ 32))

-- a whole number modulo 2^32
unfoldable pub wrapped : ℤ → ℕ
wrapped (pos n) = n % 2 ^ 32
wrapped (negsuc n) = (2 ^ 32 - suc n % 2 ^ 32) % 2 ^ 32

-- ---- the drift
-- how far the local time with its offset is from the time that a beacon carries, the original one and the delay since
unfoldable pub drift : ℕ → ℕ → ℕ → ℕ → ℤ
drift local offset original delay = signed (age_at (local + offset) (original + delay))

-- half of it, rounded toward zero
unfoldable pub halved : ℤ → ℤ
halved d = int_div d (pos 2)

-- by how much the offset drops: by the drift where its magnitude is over 100, by half of it where it is 51 to 100, else by nothing
unfoldable pub correction : ℤ → ℤ
correction d = cond (nat_lt 100 (unsigned_abs d)) d (cond (nat_lt 50 (unsigned_abs d)) (halved d) (pos 0))

-- ---- the calls
-- the offset after a step by the two times that a beacon carries, which is never refused
unfoldable pub corrected : ℕ → ℕ → ℕ → ℕ → ℕ
corrected local offset original delay = wrapped (pos offset -ℤ correction (drift local offset original delay))

-- the first refusal with the offset as it was, or the next offset
abbrev pub stepped : ℕ → ℕ → ℕ → Stepped
stepped number offset next = record { refused = number; offset = after number offset next }

-- a step by the frame of a beacon of either kind: 1 2 1 3 4 of the frame, 4 of the caller's network, 15
unfoldable pub beacon_step_of : ℕ → ℕ → ℕ → List ℕ → Stepped
beacon_step_of offset local network s =
    let heard = either_in s in
    stepped (refusal_for network s) offset (corrected local offset heard.original_time heard.delay)
