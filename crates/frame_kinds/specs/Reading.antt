-- Reading a frame of one kind: which bytes are refused, and what the others say.
-- Assumes nothing.
use Rattle.std.specs.Prelude.{ℕ, ◌-◌, Bool, true, not, ◌||◌, List, [], ◌∷◌, eqb, ltb, length, take}
use Rattle.octets.specs.Answers.{Said, accepted, reason, first, unless}
use Rattle.octets.specs.Numbers.{num}
use Rattle.octets.specs.Sums.{xors}
use Rattle.frame_kinds.specs.Shape.{Kind, length_of, values_in, part_in}

-- the last byte is the XOR of all before it
unfoldable pub is_sealed : List ℕ → Bool
is_sealed s = eqb (xors 0 (take (length s - 1) s)) (num 1 s (length s - 1))

-- a frame is neither empty nor over 255 bytes
abbrev pub misfit : List ℕ → Bool
misfit s = eqb (length s) 0 || ltb 255 (length s)

-- why bytes are refused as a frame of this type that should have this length and keeps its field rules or not; 0 where they are not
unfoldable pub read_refusal : ℕ → ℕ → Bool → List ℕ → ℕ
read_refusal code size good s =
    first
    (reason (misfit s) 1 ∷
    reason (not (eqb (num 1 s 0) code)) 2 ∷
    reason (not (eqb (length s) size)) 1 ∷
    reason (not (is_sealed s)) 3 ∷
    reason (not good) 4 ∷
    [])

-- why bytes are refused as a frame of one kind; 0 where they are not
abbrev pub refusal_as : Kind → List ℕ → ℕ
refusal_as k s = read_refusal k.code (length_of k (k.extent (values_in k s))) (k.rule (values_in k s) (part_in k s)) s

-- reading a frame of one kind: its type and its values, or why not
abbrev pub read_as : Kind → List ℕ → Said
read_as k s = unless (refusal_as k s) (accepted (k.code ∷ values_in k s))

-- bytes whose type is unknown
abbrev pub unknown_refusal : List ℕ → ℕ
unknown_refusal s = first (reason (misfit s) 1 ∷ reason true 2 ∷ [])

abbrev pub read_unknown : List ℕ → Said
read_unknown s = unless (unknown_refusal s) (accepted [])
