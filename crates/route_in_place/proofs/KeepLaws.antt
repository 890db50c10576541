-- The loop that keeps the rows that stand where they lie, and the calls that use it.
-- Assumes nothing.
use Rattle.octets.proofs.Words.{◌≡◌, refl, sym, ap, ◌∙◌, true, false, not, ◌&&◌, and-eq-true_iff, List, [], ◌∷◌, ◌++◌, ℕ, ◌+◌, ◌*◌, ◌-◌, ◌≤◌, ◌<◌, arith, eqb-true, not-true, eqb, length, take, drop, sets, drop-drop}
use Rattle.octets.specs.Layouts.{fields, bytes, Bytes}
use Rattle.octets.specs.Lists.{tab}
use Rattle.octets.proofs.LayoutLaws.{fields-part, length-bytes}
use Rattle.octets.proofs.RunLaws.{put-turn}
use Rattle.octets.proofs.StoreLaws.{sets_append, sets-part, sets_same, drop-sets}
use Rattle.route_table.specs.declared.row.Row.{Row}
use Rattle.route_table.specs.Rows.{stands, lost, forgotten, in_use}
use Rattle.route_table.specs.Tables.{rows_of}
use Rattle.route_table.proofs.RowLaws.{in_use_end, in_use-turn}
use Rattle.route_bytes.specs.TableBytes.{row_widths, row_values, row_from, row_at, rows_bytes, table_in, holds_table}
use Rattle.route_bytes.proofs.TableByteLaws.{rows_run}
use Rattle.route_bytes.proofs.TableTripLaws.{row_kept, flagged}
use Rattle.route_in_place.specs.Changes.{kept}
use Rattle.route_in_place.proofs.FindLaws.{at_place, a_place}
use Rattle.route_in_place.proofs.JudgedLaws.{judged-length, judged_flags, tab-past}

-- the places of a table's bytes
abbrev places : List ℕ → List Row
places s = tab 48 (row_at s)

-- what the loop has: the rows kept of the places passed, with those that are left stored behind them, are all; and the places that are left are as they were
pub record Keeping (s out : List ℕ) (unit time count place : ℕ) : Type 0 where
  pub within : place ≤ 48
  pub few : count ≤ place
  pub long : length out ≡ 539
  pub fits : Bytes s
  pub rest : sets out (11 + 11 * count) (rows_bytes (kept unit time (in_use (drop place (places s))))) ≡ sets s 11 (rows_bytes (kept unit time (in_use (places s))))
  pub counted : count + length (kept unit time (in_use (drop place (places s)))) ≡ length (kept unit time (in_use (places s)))
  pub behind : drop (11 + 11 * place) out ≡ drop (11 + 11 * place) s

-- what it leaves, and how many rows
abbrev pub Kept : List ℕ → List ℕ → ℕ → ℕ → ℕ → Type 0
Kept s out unit time count =
    (out ≡ sets s 11 (rows_bytes (kept unit time (rows_of (table_in s))))) × (count ≡ length (kept unit time (rows_of (table_in s)))) × (count ≤ 48)

module _ (s : List ℕ) (j : holds_table s ≡ true) (out : List ℕ) (unit time count place : ℕ) (g : Keeping s out unit time count place) where
  kept-all : in_use (drop place (places s)) ≡ [] → Kept s out unit time count
  unfolding table_in
  kept-all e = (rw e at g.rest, omega (arith, g.counted, ap (λ (rs : List Row). length (kept unit time rs)) e), omega (arith, g.few, g.within))

  pub keep-last : 48 ≤ place → Kept s out unit time count
  keep-last h = kept-all (ap in_use (tab-past 48 (row_at s) place h))

  module _ (h : place < 48) (r : Row) (read : r ≡ row_from (fields row_widths (take (11 + 11 * place + 11 - (11 + 11 * place)) (drop (11 + 11 * place) out)) 0)) where
    abbrev from : ℕ
    from = 11 + 11 * place

    -- the place holds what it held
    same : r ≡ row_at s place
    unfolding row_at
    same = read ∙ (rw g.behind (ap row_from (fields-part row_widths s from (from + 11 - from) (omega arith))))

    -- the row's bytes are those that lie there
    lying : bytes row_widths (row_values (row_at s place)) ≡ take 11 (drop from s)
    unfolding row_at
    lying = row_kept s g.fits from (omega (arith, judged-length s j)) (flagged s g.fits 48 (judged_flags s j) place h)

    pub keep_end : r.destination ≡ 0 → Kept s out unit time count
    keep_end z = kept-all (in_use_end (places s) place (a_place (row_at s) place h) (rw (at_place (row_at s) place h r same) z))

    module _ (z : r.destination ≡ 0 → ⊥) where
      turn : in_use (drop place (places s)) ≡ r ∷ in_use (drop (place + 1) (places s))
      turn = rw (at_place (row_at s) place h r same) at (in_use-turn (places s) place (a_place (row_at s) place h) (rw (at_place (row_at s) place h r same) z))

      further : drop (11 + 11 * (place + 1)) out ≡ drop (11 + 11 * (place + 1)) s
      further =
          let e : 11 + 11 * (place + 1) ≡ from + 11 = omega arith in
          rw e (sym (drop-drop 11 from out) ∙ (ap (λ (l : List ℕ). drop 11 l) g.behind ∙ drop-drop 11 from s))

      -- a row that is gone
      pub keep_skip : stands time r ≡ false → Keeping s out unit time count (place + 1)
      keep_skip q =
          let e : kept unit time (in_use (drop place (places s))) ≡ kept unit time (in_use (drop (place + 1) (places s))) = rw (turn, q) in
          record {
            within = omega arith;
            few = omega (arith, g.few);
            long = g.long;
            fits = g.fits;
            rest = rw e at g.rest;
            counted = rw e at g.counted;
            behind = further;
          }

      module _ (q : stands time r ≡ true) where
        abbrev start : ℕ
        start = 11 + 11 * count

        split : kept unit time (in_use (drop place (places s))) ≡ forgotten unit time r ∷ kept unit time (in_use (drop (place + 1) (places s)))
        split = rw (turn, q)

        next : 11 + 11 * (count + 1) ≡ start + 11
        next = omega arith

        more : count + 1 + length (kept unit time (in_use (drop (place + 1) (places s)))) ≡ length (kept unit time (in_use (places s)))
        more = omega (arith, g.counted, ap length split)

        -- a row that stays where it is, as it is
        pub keep_stay : (eqb start from && not (lost unit time r)) ≡ true → Keeping s out unit time (count + 1) (place + 1)
        keep_stay f =
            let (here, unlost) = (and-eq-true_iff (eqb start from) (not (lost unit time r))).0 f in
            let e : start ≡ from = eqb-true start from here in
            let rs = kept unit time (in_use (drop (place + 1) (places s))) in
            let whole : bytes row_widths (row_values r) ≡ take 11 (drop start out) =
            ap (λ (x : Row). bytes row_widths (row_values x)) same ∙ (lying ∙ rw (e, g.behind)) in
            record {
              within = omega arith;
              few = omega (arith, g.few);
              long = g.long;
              fits = g.fits;
              rest =
                  rw next
                  (sym (rw (split, not-true (lost unit time r) unlost) (sets_append (bytes row_widths (row_values r)) (rows_bytes rs) out start ∙ rw (length-bytes row_widths (row_values r) refl, whole, sets_same out start 11 (omega (arith, g.long, g.few)))))
                  ∙ g.rest);
              counted = more;
              behind = further;
            }

        -- a row that moves, or is withdrawn
        pub keep-put : (w : Row) (filled : List ℕ) → w ≡ forgotten unit time r
            → filled ≡ sets (take (start + 11 - start) (drop start out)) 0 (bytes row_widths (row_values w))
            → (new : List ℕ) → new ≡ take start out ++ (filled ++ drop (start + 11 - start) (drop start out)) → length new ≡ length out
            → Keeping s new unit time (count + 1) (place + 1)
        keep-put w filled k f new n l =
            let rs = kept unit time (in_use (drop (place + 1) (places s))) in
            let room : start + 11 ≤ length out = omega (arith, g.long, g.few) in
            let size = length-bytes row_widths (row_values w) refl in
            let first : kept unit time (in_use (drop place (places s))) ≡ w ∷ rs = rw k split in
            let put : new ≡ sets out start (bytes row_widths (row_values w)) = n ∙ (rw f (sets-part out (bytes row_widths (row_values w)) start (start + 11) (omega (arith, size)) room)) in
            record {
              within = omega arith;
              few = omega (arith, g.few);
              long = l ∙ g.long;
              fits = g.fits;
              rest = rw (n, next) (put-turn rows_run out start w rs filled room f ∙ (sym (ap (λ (x : List Row). sets out start (rows_bytes x)) first) ∙ g.rest));
              counted = more;
              behind = ap (λ (x : List ℕ). drop (11 + 11 * (place + 1)) x) put ∙ (drop-sets (bytes row_widths (row_values w)) out start (11 + 11 * (place + 1)) (omega (arith, size, g.few)) ∙ further);
            }

pub keep-first : (s : List ℕ) (unit time : ℕ) → length s ≡ 539 → Bytes s → Keeping s s unit time 0 0
keep-first s unit time l b = record { within = omega arith; few = omega arith; long = l; fits = b; rest = refl; counted = omega arith; behind = refl }
