-- A site: its units, the links between them, and how many links lead from one unit to another.
-- Assumes nothing.
use Rattle.std.specs.Prelude.{ℕ, zero, suc, ◌≤◌, ◌≡◌, Bool, true, false, ◌&&◌, ◌||◌, List, eqb, length}
use Rattle.octets.specs.Lists.{every, some}
use Rattle.octets.specs.Addresses.{address}

-- units, by their addresses, and which of them are linked
pub record Site : Type 0 where
  pub units : List ℕ
  pub linked : ℕ → ℕ → Bool

-- an address is that of a unit of the site
unfoldable pub among : ℕ → List ℕ → Bool
among n units = some (eqb n) units

-- one unit is within so many links of another: it is that unit, or it is linked to one that is within one link less
unfoldable pub within : Site → ℕ → ℕ → ℕ → Bool
within s zero a b = eqb a b
within s (suc r) a b = within s r a b || some (λ n. s.linked a n && within s r n b) s.units

-- the fewest links from one unit to another: so many are enough, and no fewer are
pub record Fewest (s : Site) (links a b : ℕ) : Type 0 where
  pub enough : within s links a b ≡ true
  pub least : (k : ℕ) → within s k a b ≡ true → links ≤ k

-- no two units are further apart than so many links: the diameter of a site is the least such number
abbrev pub Across : Site → ℕ → Type 0
Across s n = (a b : ℕ) → among a s.units ≡ true → among b s.units ≡ true → within s n a b ≡ true

-- ---- the sites of the request
abbrev pub most_units : ℕ
most_units = 49

abbrev pub most_across : ℕ
most_across = 16

-- up to 49 units with addresses, links both ways between two units of the site, and a diameter of at most 16. No proof needs that links go
-- both ways, nor that no unit is listed twice
pub record Sited (s : Site) : Type 0 where
  pub few : length s.units ≤ most_units
  pub addresses : every address s.units ≡ true
  pub inside : (a b : ℕ) → s.linked a b ≡ true → among b s.units ≡ true
  pub apart : (a : ℕ) → s.linked a a ≡ false
  pub both : (a b : ℕ) → s.linked a b ≡ s.linked b a
  pub across : Across s most_across
