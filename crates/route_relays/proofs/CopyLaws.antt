-- The copy of a data frame that goes on, from the frame's bytes: another ttl, and the checksum that follows from the old one and the two.
-- Assumes nothing.
use Rattle.octets.proofs.Words.{◌≡◌, refl, sym, ap, ◌∙◌, List, ℕ, ◌-◌, ◌≤◌, ◌<◌, arith, length, get_or, set, length-set, sets}
use lib.Bits.{bit_xor}
use Rattle.octets.specs.Layouts.{Bytes}
use Rattle.octets.proofs.NumberLaws.{num-one}
use Rattle.octets.proofs.StoreLaws.{set-stored}
use Rattle.frame_kinds.specs.Reading.{refusal_as}
use Rattle.frame_kinds.specs.Shape.{values_in, part_in, frame_of}
use Rattle.frame_kinds.proofs.FrameLaws.{rewritten, field_changed}
use Rattle.frame_kinds.proofs.ReadingLaws.{passed}
use Rattle.frame_traffic.specs.Traffic.{data_kind}
use Rattle.route_relays.specs.Laws.{TwoBytesDiffer}
use Rattle.route_relays.specs.Relays.{copy_of}

pub ten_bytes : (s : List ℕ) → refusal_as data_kind s ≡ 0 → 10 ≤ length s
ten_bytes s e = omega (arith, (passed _ _ _ s e).sized)

pub two_bytes_differ : TwoBytesDiffer
two_bytes_differ s b e =
    let vs = values_in data_kind s in
    let part = part_in data_kind s in
    let last = length s - 1 in
    let ttl = get_or s 5 0 in
    let same : frame_of data_kind vs part ≡ s = rewritten data_kind s b e in
    let small : ttl - 1 < 256 = omega (arith, b.small 5) in
    (rw same at (field_changed data_kind vs part 2 (ttl - 1) (omega arith) refl refl small last (get_or s last 0) ttl
    (omega (arith, ap length same, ten_bytes s e)) (ap (λ (t : List ℕ). get_or t last 0) (sym same)) (ap (λ (t : List ℕ). get_or t 5 0) (sym same))))
    ∙ ap (λ (n : ℕ). frame_of data_kind (set vs 2 (n - 1)) part) (sym (num-one s 5))

-- stored over the frame that was stored, these two bytes make the copy
pub copied : (s : List ℕ) → Bytes s → refusal_as data_kind s ≡ 0 → (out : List ℕ) → length s ≤ length out → (ttl : ℕ) → ttl ≡ get_or s 5 0 - 1
    → set (set (sets out 0 s) 5 ttl) (length s - 1) (bit_xor (bit_xor (get_or s (length s - 1) 0) (get_or s 5 0)) ttl) ≡ sets out 0 (copy_of s)
copied s b e out h ttl t =
    let long = ten_bytes s e in
    let size = length-set s 5 ttl in
    rw (set-stored out s 5 ttl (omega (arith, long)) h, set-stored out (set s 5 ttl) (length s - 1) _ (omega (arith, long, size)) (omega (arith, h, size)), t)
    (ap (sets out 0) (two_bytes_differ s b e))
