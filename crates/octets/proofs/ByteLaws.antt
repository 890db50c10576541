-- What is made of bytes: what stands before and behind others, the digits of numbers, and the XOR.
-- Assumes nothing.
use Rattle.octets.proofs.Words.{List, [], ◌∷◌, ◌++◌, ℕ, zero, suc, ◌/◌, ◌%◌, ◌<◌, arith, get_or}
use lib.Bits.{bit_xor, xor_lt}
use Rattle.octets.specs.Layouts.{bytes, Bytes}
use Rattle.octets.specs.Numbers.{digits}
use Rattle.octets.specs.Sums.{xors}

pub no_bytes : Bytes []
no_bytes = record { small = λ i. omega arith }

pub cons_bytes : (b : ℕ) (s : List ℕ) → b < 256 → Bytes s → Bytes (b ∷ s)
cons_bytes b s h e = record { small = each }
  where
    each : (i : ℕ) → get_or (b ∷ s) i 0 < 256
    each zero = h
    each (suc i) = e.small i

rest-bytes : (b : ℕ) (s : List ℕ) → Bytes (b ∷ s) → Bytes s
rest-bytes b s e = record { small = λ i. e.small (suc i) }

pub append_bytes : (s t : List ℕ) → Bytes s → Bytes t → Bytes (s ++ t)
append_bytes [] t e f = f
append_bytes (b ∷ s) t e f = cons_bytes b (s ++ t) (e.small 0) (append_bytes s t (rest-bytes b s e) f)

pub digits-bytes : (w n : ℕ) → Bytes (digits w n)
unfolding digits
digits-bytes zero n = no_bytes
digits-bytes (suc w) n = cons_bytes (n % 256) (digits w (n / 256)) (omega arith) (digits-bytes w (n / 256))

pub layout_bytes : (ws vs : List ℕ) → Bytes (bytes ws vs)
layout_bytes [] vs = no_bytes
layout_bytes (w ∷ ws) [] = no_bytes
layout_bytes (w ∷ ws) (v ∷ vs) = append_bytes (digits w v) (bytes ws vs) (digits-bytes w v) (layout_bytes ws vs)

pub xors-byte : (x : ℕ) (s : List ℕ) → x < 256 → Bytes s → xors x s < 256
unfolding xors
xors-byte x [] h e = h
xors-byte x (b ∷ s) h e = xors-byte (bit_xor x b) s (xor_lt 8 x b h (e.small 0)) (rest-bytes b s e)
