-- What a relayed copy has of the frame that was received, as a statement.
-- Assumes nothing.
use Rattle.std.specs.Prelude.{◌≡◌, List, ℕ, ◌-◌, length, get_or, set}
use Rattle.std.specs.Int.Bits.{bit_xor}
use Rattle.octets.specs.Layouts.{Bytes}
use Rattle.frame_kinds.specs.Reading.{refusal_as}
use Rattle.frame_traffic.specs.Traffic.{data_kind}
use Rattle.route_relays.specs.Relays.{copy_of}

-- a frame with another ttl, and a checksum that follows from the one it has and the two ttl values
abbrev pub with_ttl : List ℕ → ℕ → List ℕ
with_ttl s ttl =
    let last = length s - 1 in
    set (set s 5 ttl) last (bit_xor (bit_xor (get_or s last 0) (get_or s 5 0)) ttl)

-- of every data frame that is read, the copy whose checksum is made of all its bytes is that frame with two other bytes
abbrev pub TwoBytesDiffer : Type 0
TwoBytesDiffer = (s : List ℕ) → Bytes s → refusal_as data_kind s ≡ 0 → with_ttl s (get_or s 5 0 - 1) ≡ copy_of s
