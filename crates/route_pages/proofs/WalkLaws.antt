-- The loops over the places of a table that lies in bytes: rows that stand are passed, counted, and given an entry each.
-- Assumes nothing.
use Rattle.octets.proofs.Words.{◌≡◌, sym, ap, ◌∙◌, true, false, List, [], ◌∷◌, ◌++◌, ℕ, suc, ◌+◌, ◌-◌, ◌≤◌, ◌<◌, arith, length, take, drop, take-nil, drop-nil, append-nil, set, length-set, take-suc-set, append_snoc, add-one}
use Rattle.route_table.specs.declared.row.Row.{Row}
use Rattle.route_table.specs.Rows.{stands, in_use, standing}
use Rattle.route_table.proofs.RowLaws.{in_use_end, in_use-turn}
use Rattle.route_bytes.specs.TableBytes.{place_of}
use Rattle.route_in_place.proofs.FindLaws.{places, at_place, a_place}
use Rattle.route_in_place.proofs.JudgedLaws.{tab-past}
use Rattle.route_pages.specs.Places.{rows_from}

-- the rows that stand from a place on
abbrev pub stand_from : ℕ → ℕ → List ℕ → List Row
stand_from time place s = standing time (rows_from place s)

-- ---- one place
module _ (s : List ℕ) (time place : ℕ) where
  pub none-past : 48 ≤ place → stand_from time place s ≡ []
  none-past h = ap (λ (rs : List Row). standing time (in_use rs)) (tab-past 48 (place_of s) place h)

  module _ (h : place < 48) (r : Row) (here : r ≡ place_of s place) where
    pub none_left : r.destination ≡ 0 → stand_from time place s ≡ []
    none_left z = ap (standing time) (in_use_end (places s) place (a_place (place_of s) place h) (rw (at_place (place_of s) place h r here) z))

    module _ (z : r.destination ≡ 0 → ⊥) where
      turn : rows_from place s ≡ r ∷ rows_from (place + 1) s
      turn = rw (at_place (place_of s) place h r here) at (in_use-turn (places s) place (a_place (place_of s) place h) (rw (at_place (place_of s) place h r here) z))

      pub one_gone : stands time r ≡ false → stand_from time place s ≡ stand_from time (place + 1) s
      one_gone q = rw (turn, q)

      pub one-stands : stands time r ≡ true → stand_from time place s ≡ r ∷ stand_from time (place + 1) s
      one-stands q = rw (turn, q)

-- ---- the rows on a page: those that are there, with those that are left, are all
pub record OnPage (s : List ℕ) (behind time place skip count : ℕ) (page : List Row) : Type 0 where
  pub long : length page ≡ 24
  pub few : count < 24
  pub rest : take count page ++ take (24 - count) (drop skip (stand_from time place s)) ≡ take 24 (drop behind (stand_from time 0 s))

module _ (s : List ℕ) (behind time place skip count : ℕ) (page : List Row) (g : OnPage s behind time place skip count page) where
  pub page-end : stand_from time place s ≡ [] → (take count page ≡ take 24 (drop behind (stand_from time 0 s))) × (count ≤ 24)
  page-end e = (
    sym (append-nil (take count page)) ∙ (rw (e, drop-nil {A = Row} skip, take-nil {A = Row} (24 - count)) at g.rest),
    omega (arith, g.few),
  )

  module _ (h : place < 48) (r : Row) (here : r ≡ place_of s place) (z : r.destination ≡ 0 → ⊥) where
    pub page_gone : stands time r ≡ false → OnPage s behind time (place + 1) skip count page
    page_gone q = record { long = g.long; few = g.few; rest = rw (one_gone s time place h r here z q) at g.rest }

    module _ (q : stands time r ≡ true) where
      pub page-skipped : 0 < skip → OnPage s behind time (place + 1) (skip - 1) count page
      page-skipped l =
          let e : skip ≡ suc (skip - 1) = omega arith in
          let same : drop skip (stand_from time place s) ≡ drop (skip - 1) (stand_from time (place + 1) s) = ap (λ (n : ℕ). drop n (stand_from time place s)) e ∙ rw (one-stands s time place h r here z q) in
          record { long = g.long; few = g.few; rest = rw same at g.rest }

      module _ (none : skip ≡ 0) where
        more : take (suc count) (set page count r) ++ take (24 - suc count) (drop skip (stand_from time (place + 1) s)) ≡ take 24 (drop behind (stand_from time 0 s))
        more =
            let e : 24 - count ≡ suc (24 - suc count) = omega (arith, g.few) in
            let next : take (24 - count) (drop skip (stand_from time place s)) ≡ r ∷ take (24 - suc count) (drop skip (stand_from time (place + 1) s)) = rw (e, none, one-stands s time place h r here z q) in
            rw (take-suc-set page count r (omega (arith, g.long, g.few)), append_snoc) (sym (ap (λ (l : List Row). take count page ++ l) next) ∙ g.rest)

        -- one row more, and the page is full or not
        pub page-full : count + 1 ≡ 24 → take (count + 1) (set page count r) ≡ take 24 (drop behind (stand_from time 0 s))
        page-full e =
            let left : 24 - suc count ≡ 0 = omega arith in
            rw (add-one count) (sym (append-nil (take (suc count) (set page count r))) ∙ (rw left at more))

        pub page-more : (count + 1 ≡ 24 → ⊥) → OnPage s behind time (place + 1) skip (count + 1) (set page count r)
        page-more e = record { long = length-set page count r ∙ g.long; few = omega (arith, g.few); rest = rw (add-one count) more }
