-- A site of three units in a line, 1 - 2 - 3, and two rounds of updates there, between which their clocks pass the top.
-- Assumes nothing.
use Rattle.std.specs.Prelude.{ℕ, ◌+◌, ◌-◌, ◌*◌, ◌%◌, ◌^◌, ◌≡◌, ◌&&◌, ◌||◌, cond, List, [], ◌∷◌, eqb}
use Rattle.route_table.specs.Rows.{none}
use Rattle.route_table.specs.Tables.{found_or, lookup_of}
use Rattle.site_converges.specs.Sites.{Site, Sited}
use Rattle.site_converges.specs.Courses.{Heard, Course}
use Rattle.site_converges.specs.Rounds.{table_after}

abbrev pub line : Site
line =
    record {
      units = 1 ∷ 2 ∷ 3 ∷ [];
      linked = λ a b. eqb a 2 && (eqb b 1 || eqb b 3) || eqb b 2 && (eqb a 1 || eqb a 3);
    }

-- the first page of a unit, written and merged at a time
abbrev pub first_page : ℕ → ℕ → Heard
first_page unit time = record { from = unit; page = 0; written = time; quality = 100; time = time }

-- all begin 1,500 ms before the top; round k, from 0, is 1,000 k + 1,000 ms later; unit 2 hears unit 3 before unit 1
abbrev pub line_hears : ℕ → ℕ → List Heard
line_hears time u = cond (eqb u 2) (first_page 3 time ∷ first_page 1 time ∷ []) (first_page 2 time ∷ [])

abbrev pub line_course : Course
line_course = record { began = λ u. 2 ^ 32 - 1500; heard = λ k u. line_hears ((2 ^ 32 - 1500 + (1000 * k + 1000)) % 2 ^ 32) u }

-- it is a site as the request has it; the units at the ends do not know each other after one round, and after two they do: by unit 2, two hops away
abbrev pub LineTells : Type 0
LineTells =
    Sited line
    × (lookup_of (table_after line_course 1 1) 2 5000 ≡ record { refused = 0; next_hop = 2; hops = 1; left = 294500 })
    × (lookup_of (table_after line_course 1 1) 3 5000 ≡ found_or 11 none 0)
    × (lookup_of (table_after line_course 2 1) 3 5000 ≡ record { refused = 0; next_hop = 2; hops = 2; left = 295500 })
    × (lookup_of (table_after line_course 2 3) 1 5000 ≡ record { refused = 0; next_hop = 2; hops = 2; left = 295500 })
    × (lookup_of (table_after line_course 2 2) 2 5000 ≡ found_or 11 none 0)
