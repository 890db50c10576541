-- The head of a stored form: how many sections it has, then the contents: of each section its number, where its body starts and how long it is.
-- The bodies follow one behind the other.
-- Assumes nothing.
use Rattle.std.specs.Prelude.{ℕ, ◌+◌, Bool, true, false, ◌&&◌, List, [], ◌∷◌, ◌++◌, eqb, length, take}
use Rattle.octets.specs.Layouts.{total, fields, bytes}

pub record Section : Type 0 where
  pub number : ℕ
  pub size : ℕ

abbrev pub section : ℕ → ℕ → Section
section number size = record { number = number; size = size }

-- an entry of the contents: number 1, offset 2, length 2
abbrev pub entry_widths : List ℕ
entry_widths = 1 ∷ 2 ∷ 2 ∷ []

abbrev pub contents_widths : List Section → List ℕ
contents_widths [] = []
contents_widths (s ∷ ss) = entry_widths ++ contents_widths ss

-- the entries of sections of which the first starts at a place
abbrev pub contents_values : ℕ → List Section → List ℕ
contents_values at [] = []
contents_values at (s ∷ ss) = s.number ∷ at ∷ s.size ∷ contents_values (at + s.size) ss

abbrev pub head_widths : List Section → List ℕ
head_widths ss = 1 ∷ contents_widths ss

-- how many bytes the head has
abbrev pub head_size : List Section → ℕ
head_size ss = total (head_widths ss)

abbrev pub head_values : List Section → List ℕ
head_values ss = length ss ∷ contents_values (head_size ss) ss

abbrev pub head_bytes : List Section → List ℕ
head_bytes ss = bytes (head_widths ss) (head_values ss)

-- how many bytes a form with these sections has
abbrev pub bodies_size : List Section → ℕ
bodies_size [] = 0
bodies_size (s ∷ ss) = s.size + bodies_size ss

abbrev pub form_size : List Section → ℕ
form_size ss = head_size ss + bodies_size ss

-- where the body of a section starts, of those in this order: behind the head and the bodies before it
abbrev pub place_at : List Section → ℕ → ℕ
place_at ss i = head_size ss + bodies_size (take i ss)

-- two lists of numbers are the same
abbrev pub same : List ℕ → List ℕ → Bool
same [] [] = true
same [] (y ∷ ys) = false
same (x ∷ xs) [] = false
same (x ∷ xs) (y ∷ ys) = eqb x y && same xs ys

-- bytes have the head of a form with these sections, and its length
abbrev pub fits : List Section → List ℕ → Bool
fits ss s = same (fields (head_widths ss) s 0) (head_values ss) && eqb (length s) (form_size ss)
