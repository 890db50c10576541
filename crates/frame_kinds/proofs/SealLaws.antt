-- Bytes with their checksum behind them.
-- Assumes nothing.
use Rattle.octets.proofs.Words.{◌≡◌, refl, sym, ap, ◌∙◌, true, List, [], ◌∷◌, ◌++◌, ℕ, suc, ◌+◌, ◌-◌, ◌<◌, add-sub_cancel, arith, eq-eqb, eqb-true, length, get_or, take, set, length-append, length-set, set-append_left, take_at, get_or_at, take-suc, take_all}
use lib.Bits.{bit_xor}
use lib.Seq.{set_at}
use Rattle.octets.specs.Layouts.{bytes, Bytes}
use Rattle.octets.specs.Numbers.{num}
use Rattle.octets.specs.Sums.{xors}
use Rattle.octets.proofs.ByteLaws.{no_bytes, cons_bytes, append_bytes, layout_bytes, xors-byte}
use Rattle.octets.proofs.NumberLaws.{num-one}
use Rattle.octets.proofs.SumLaws.{xors-set}
use Rattle.frame_kinds.specs.Reading.{is_sealed}
use Rattle.frame_kinds.specs.Shape.{Kind, sealed, frame_of}

pub length-sealed : (bs : List ℕ) → length (sealed bs) ≡ length bs + 1
unfolding sealed
length-sealed bs = length-append bs _

-- what is sealed are bytes, if the others are; so a frame is, if what stands behind its fields is
sealed-bytes : (bs : List ℕ) → Bytes bs → Bytes (sealed bs)
unfolding sealed
sealed-bytes bs b = append_bytes bs (xors 0 bs ∷ []) b (cons_bytes (xors 0 bs) [] (xors-byte 0 bs (omega arith) b) no_bytes)

pub frame-bytes : (k : Kind) (vs part : List ℕ) → Bytes part → Bytes (frame_of k vs part)
frame-bytes k vs part b = sealed-bytes _ (append_bytes (bytes (1 ∷ k.widths) (k.code ∷ vs)) part (layout_bytes (1 ∷ k.widths) (k.code ∷ vs)) b)

-- bytes with a byte behind them that is their checksum
sealed-by : (bs : List ℕ) (k : ℕ) → k ≡ xors 0 bs → is_sealed (bs ++ (k ∷ [])) ≡ true
unfolding is_sealed
sealed-by bs k e =
    let l : length (bs ++ (k ∷ [])) - 1 ≡ length bs = ap (λ (n : ℕ). n - 1) (length-append bs (k ∷ [])) ∙ add-sub_cancel (length bs) 1 in
    let t : take (length bs) (bs ++ (k ∷ [])) ≡ bs = take_at bs (k ∷ []) (length bs) refl in
    let g : num 1 (bs ++ (k ∷ [])) (length bs) ≡ k = num-one _ (length bs) ∙ get_or_at bs k [] 0 (length bs) refl in
    rw (l, t, g) (eq-eqb (xors 0 bs) k (sym e))

pub sealed_is : (bs : List ℕ) → is_sealed (sealed bs) ≡ true
unfolding sealed
sealed_is bs = sealed-by bs _ refl

-- bytes that end in the checksum of the others are those, sealed
pub sealed-whole : (s : List ℕ) (n : ℕ) → length s ≡ n + 1 → is_sealed s ≡ true → sealed (take n s) ≡ s
unfolding is_sealed sealed
sealed-whole s n l e =
    let m : length s - 1 ≡ n = omega arith in
    let w : xors 0 (take n s) ≡ get_or s n 0 = (rw m at (eqb-true (xors 0 (take (length s - 1) s)) (num 1 s (length s - 1)) e)) ∙ num-one s n in
    let h : n < length s = omega arith in
    rw (w, ← take-suc s n 0 h) (take_all (suc n) s (omega arith))

-- sealed bytes with another one among them: the checksum follows from the one that they have
pub sealed-set : (bs : List ℕ) (i v : ℕ) → i < length bs → set (set (sealed bs) i v) (length bs) (bit_xor (bit_xor (xors 0 bs) (get_or bs i 0)) v) ≡ sealed (set bs i v)
unfolding sealed
sealed-set bs i v h =
    let sum = bit_xor (bit_xor (xors 0 bs) (get_or bs i 0)) v in
    rw (set-append_left bs (xors 0 bs ∷ []) i v h, xors-set 0 bs i v h) (set_at (set bs i v) (xors 0 bs) [] sum (length bs) (length-set bs i v))
