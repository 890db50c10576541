-- Frames of any kind as bytes: those that are not refused, and one field with another number.
-- Assumes nothing.
use Rattle.octets.proofs.Words.{◌≡◌, ap, ◌∙◌, List, [], ◌∷◌, ◌++◌, ℕ, zero, suc, ◌+◌, ◌≤◌, ◌<◌, arith, length, get_or, take, set, length-append, get_or-append, get_or_at, set-append_left, take-add}
use lib.Bits.{bit_xor}
use Rattle.octets.specs.Layouts.{total, bytes, Bytes}
use Rattle.octets.specs.Sums.{xors}
use Rattle.octets.proofs.LayoutLaws.{bytes-fields, length-bytes}
use Rattle.octets.proofs.StoreLaws.{one_byte, number-stored}
use Rattle.frame_kinds.specs.Reading.{refusal_as}
use Rattle.frame_kinds.specs.Shape.{Kind, place_of, values_in, part_in, sealed, frame_of}
use Rattle.frame_kinds.proofs.ReadingLaws.{passed}
use Rattle.frame_kinds.proofs.SealLaws.{sealed-whole, sealed-set}

-- bytes that a kind does not refuse are the frame of their values and what stands behind these
pub rewritten : (k : Kind) (s : List ℕ) → Bytes s → refusal_as k s ≡ 0 → frame_of k (values_in k s) (part_in k s) ≡ s
rewritten k s b e =
    let known = passed _ _ _ s e in
    let n = place_of k + k.extent (values_in k s) in
    let h : bytes (1 ∷ k.widths) (k.code ∷ values_in k s) ≡ take (place_of k) s =
    rw (← known.typed) (bytes-fields s b (1 ∷ k.widths) 0 (omega (arith, known.sized))) in
    rw (h, ← take-add (place_of k) (k.extent (values_in k s)) s) (sealed-whole s n (omega (arith, known.sized)) known.summed)

-- a number of a layout stands within it
within : (ws : List ℕ) (j : ℕ) → j < length ws → total (take j ws) + get_or ws j 0 ≤ total ws
within [] j h = absurd (omega arith)
within (w ∷ ws) zero h = omega arith
within (w ∷ ws) (suc j) h = omega (arith, within ws j (omega arith))

-- a frame with another number in a field of one byte: that byte, and the checksum that follows from the one it has
module _ (k : Kind) (vs part : List ℕ) (j v : ℕ) (some : j < length k.widths) (lengths : length k.widths ≡ length vs) (byte : get_or k.widths j 0 ≡ 1) (small : v < 256) where
  abbrev head : List ℕ
  head = bytes (1 ∷ k.widths) (k.code ∷ vs)

  abbrev body : List ℕ
  body = head ++ part

  abbrev at : ℕ
  at = 1 + total (take j k.widths)

  inside : at < length head
  inside = omega (arith, length-bytes (1 ∷ k.widths) (k.code ∷ vs) (ap suc lengths), within k.widths j some, byte)

  changed : set body at v ≡ bytes (1 ∷ k.widths) (k.code ∷ set vs j v) ++ part
  changed =
      set-append_left head part at v inside
      ∙ ap (λ (b : List ℕ). b ++ part) (one_byte head at v small ∙ (rw byte at (number-stored (1 ∷ k.widths) (k.code ∷ vs) (suc j) v (omega arith) (ap suc lengths))))

  pub field_changed : (last sum old : ℕ) → last + 1 ≡ length (frame_of k vs part) → sum ≡ get_or (frame_of k vs part) last 0 → old ≡ get_or (frame_of k vs part) at 0
      → set (set (frame_of k vs part) at v) last (bit_xor (bit_xor sum old) v) ≡ frame_of k (set vs j v) part
  unfolding sealed
  field_changed last sum old l s o =
      let here : at < length body = omega (arith, inside, length-append head part) in
      let end : length body ≡ last = omega (arith, length-append body (xors 0 body ∷ [])) in
      let tail : sum ≡ xors 0 body = s ∙ get_or_at body (xors 0 body) [] 0 last end in
      let was : old ≡ get_or body at 0 = o ∙ get_or-append body (xors 0 body ∷ []) 0 at here in
      rw (tail, was, ← end) (sealed-set body at v here ∙ ap sealed changed)
