-- What a kind of frame is: its type, the widths of its fields, how many bytes follow them, and its field rules.
-- Everything that is read or written of a kind follows from these four.
-- Assumes nothing.
use Rattle.std.specs.Prelude.{ℕ, ◌+◌, Bool, cond, List, [], ◌∷◌, ◌++◌, eqb, take, drop}
use Rattle.octets.specs.Lists.{all}
use Rattle.octets.specs.Layouts.{total, fields, bytes}
use Rattle.octets.specs.Parts.{Lent, part_of}
use Rattle.octets.specs.Sums.{xors}

pub record Kind : Type 0 where
  -- the type byte
  pub code : ℕ
  -- the widths of the fields after it
  pub widths : List ℕ
  -- how many bytes follow the fields with these values: a payload's, or the entries'
  pub extent : List ℕ → ℕ
  -- whether the fields' values, and the bytes that follow, keep the rules
  pub rule : List ℕ → List ℕ → Bool

-- a field: how many bytes it has, and what is asked of its number
pub record Field : Type 0 where
  pub width : ℕ
  pub tests : List (ℕ → Bool)

abbrev pub widths_for : List Field → List ℕ
widths_for [] = []
widths_for (f ∷ fs) = f.width ∷ widths_for fs

-- what is asked of a number, of the fields' numbers, and more behind these
abbrev pub asked_of : List (ℕ → Bool) → ℕ → List Bool → List Bool
asked_of [] v more = more
asked_of (t ∷ ts) v more = t v ∷ asked_of ts v more

abbrev pub tested : List Field → List ℕ → List Bool → List Bool
tested [] vs more = more
tested (f ∷ fs) [] more = more
tested (f ∷ fs) (v ∷ vs) more = asked_of f.tests v (tested fs vs more)

-- a kind by its fields, how many bytes follow them, and what is asked beside the fields' own tests
abbrev pub followed : ℕ → List Field → (List ℕ → ℕ) → (List ℕ → List ℕ → List Bool) → Kind
followed code fs extent more =
    record { code = code; widths = widths_for fs; extent = extent; rule = λ vs part. all (tested fs vs (more vs part)) }

-- a kind that has nothing behind its fields, and whose numbers have a rule together or not
abbrev pub fixed_with : ℕ → List Field → (List ℕ → List Bool) → Kind
fixed_with code fs more = followed code fs (λ vs. 0) (λ vs part. more vs)

abbrev pub fixed : ℕ → List Field → Kind
fixed code fs = fixed_with code fs (λ vs. [])

-- the place behind the fields, where the variable part starts
abbrev pub place_of : Kind → ℕ
place_of k = 1 + total k.widths

-- the length of a frame with so many bytes behind its fields; the last byte is the checksum
abbrev pub length_of : Kind → ℕ → ℕ
length_of k extent = place_of k + 1 + extent

-- the values of the fields in a frame's bytes, and the bytes behind them
abbrev pub values_in : Kind → List ℕ → List ℕ
values_in k s = fields k.widths s 1

abbrev pub part_in : Kind → List ℕ → List ℕ
part_in k s = take (k.extent (values_in k s)) (drop (place_of k) s)

-- those bytes as a part of a lent frame
abbrev pub part_lent : Kind → Lent → Lent
part_lent k s = part_of s (place_of k) (k.extent (values_in k s.bytes))

-- the bytes with their XOR behind them
unfoldable pub sealed : List ℕ → List ℕ
sealed bs = bs ++ (xors 0 bs ∷ [])

-- the frame with these values and these bytes behind them
abbrev pub frame_of : Kind → List ℕ → List ℕ → List ℕ
frame_of k vs part = sealed (bytes (1 ∷ k.widths) (k.code ∷ vs) ++ part)

-- what f says of the one among some kinds that has type t; `none` where none has
abbrev pub among : {A : Type 0} → List Kind → ℕ → (Kind → A) → A → A
among [] t f none = none
among (k ∷ ks) t f none = cond (eqb t k.code) (f k) (among ks t f none)
