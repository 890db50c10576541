-- The loops over a poll's places: how many others there are, whether a unit is among them, the best of them, and one sifted in.
-- Assumes nothing.
use Rattle.octets.proofs.Words.{◌≡◌, refl, sym, ap, ◌∙◌, Bool, true, false, not, ◌&&◌, ◌||◌, cond, or-true, List, [], ◌∷◌, ℕ, zero, suc, ◌+◌, ◌*◌, ◌≤◌, ◌<◌, arith, eq-eqb, ne_eqb, eqb-true, eqb-false, le-leb, lt-leb, eqb, leb, ltb, length, take, drop, drop-drop, sets}
use Rattle.std.specs.List.{list_any, range_with_len}
use Rattle.octets.specs.Layouts.{fields, bytes}
use Rattle.octets.proofs.LayoutLaws.{fields-part, length-bytes}
use Rattle.octets.proofs.TestLaws.{neither}
use Rattle.octets.proofs.StoreLaws.{sets_append, drop-sets}
use Rattle.unit_poll.specs.declared.voter.Voter.{Voter}
use Rattle.unit_poll.specs.Places.{sifted}
use Rattle.unit_poll.specs.PollBytes.{voter_widths, voter_values, voter_from, voter_at, voters_bytes, in_use, places_in, poll_in}
use Rattle.unit_poll.specs.Polls.{self_of, winning}
use Rattle.unit_poll.specs.Voters.{better, known, best}
use Rattle.unit_poll.proofs.PlaceLaws.{places-from, places-past}

-- ---- a place that is passed, the first empty one, and the end
module _ (s : List ℕ) (i : ℕ) where
  use_end : 24 ≤ i → in_use (drop i (places_in s)) ≡ []
  use_end h = rw (places-past s i h)

  module _ (h : i < 24) (v : Voter) (here : v ≡ voter_at s i) where
    use_none : v.unit ≡ 0 → in_use (drop i (places_in s)) ≡ []
    use_none z = rw (places-from s i h, ← here, eq-eqb v.unit 0 z)

    use_turn : (v.unit ≡ 0 → ⊥) → in_use (drop i (places_in s)) ≡ v ∷ in_use (drop (i + 1) (places_in s))
    use_turn z = rw (places-from s i h, ← here, ne_eqb v.unit 0 z)

-- ---- whether there is room for a unit: it has a place, or there is an empty one
abbrev Room : List ℕ → ℕ → Bool
Room s unit = known unit (in_use (places_in s)) || not (leb 24 (length (in_use (places_in s))))

-- none of the places passed was empty, or the unit's
pub record Looking (s : List ℕ) (unit i : ℕ) : Type 0 where
  pub count : i + length (in_use (drop i (places_in s))) ≡ length (in_use (places_in s))
  pub among : known unit (in_use (drop i (places_in s))) ≡ known unit (in_use (places_in s))

pub looking : (s : List ℕ) (unit : ℕ) → Looking s unit 0
looking s unit = record { count = omega arith; among = refl }

module _ (s : List ℕ) (unit i : ℕ) (k : Looking s unit i) where
  pub looked-all : 24 ≤ i → false ≡ Room s unit
  looked-all h =
      let full : 24 ≤ length (in_use (places_in s)) = omega (arith, k.count) in
      rw (← k.among, use_end s i h, le-leb 24 (length (in_use (places_in s))) full)

  module _ (h : i < 24) (v : Voter) (here : v ≡ voter_at s i) where
    pub room : (eqb v.unit 0 || eqb v.unit unit) ≡ true → true ≡ Room s unit
    room e = go (eqb v.unit 0) refl
      where
        go : (b : Bool) → eqb v.unit 0 ≡ b → true ≡ Room s unit
        go true q =
            let few : length (in_use (places_in s)) < 24 = omega (arith, k.count, ap length (use_none s i h v here (eqb-true v.unit 0 q))) in
            rw (lt-leb 24 (length (in_use (places_in s))) few) (sym (or-true (known unit (in_use (places_in s)))))
        go false q = rw (← k.among, use_turn s i h v here (eqb-false v.unit 0 q), rw q at e)

    pub looking_on : (eqb v.unit 0 || eqb v.unit unit) ≡ false → Looking s unit (i + 1)
    looking_on e =
        let (some, other) = neither (eqb v.unit 0) (eqb v.unit unit) e in
        let turn = use_turn s i h v here (eqb-false v.unit 0 some) in
        record {
          count = omega (arith, k.count, ap length turn);
          among = rw (turn, other) at k.among;
        }

-- a place that is empty, or the unit's; and the same of all of them
abbrev pub takes : List ℕ → ℕ → ℕ → Bool
takes s unit p = eqb (voter_at s p).unit 0 || eqb (voter_at s p).unit unit

some_left : (s : List ℕ) (unit n i : ℕ) → i + n ≡ 24 → Looking s unit i → list_any (takes s unit) (range_with_len i n) ≡ Room s unit
some_left s unit zero i e k = looked-all s unit i k (omega arith)
some_left s unit (suc n) i e k = go (takes s unit i) refl (λ (next : Looking s unit (i + 1)). some_left s unit n (i + 1) (omega arith) next)
  where
    go : (b : Bool) → takes s unit i ≡ b → (Looking s unit (i + 1) → list_any (takes s unit) (range_with_len (i + 1) n) ≡ Room s unit)
        → (takes s unit i || list_any (takes s unit) (range_with_len (i + 1) n)) ≡ Room s unit
    go true q rest = rw q (room s unit i k (omega arith) (voter_at s i) refl q)
    go false q rest = rw q (rest (looking_on s unit i k (omega arith) (voter_at s i) refl q))

pub some_room : (s : List ℕ) (unit : ℕ) → list_any (takes s unit) (range_with_len 0 24) ≡ Room s unit
some_room s unit = some_left s unit 24 0 refl (looking s unit)

-- ---- the best
pub leading_end : (s : List ℕ) (i : ℕ) (leader : Voter) → 24 ≤ i → best leader (in_use (drop i (places_in s))) ≡ winning (poll_in s) → leader ≡ winning (poll_in s)
leading_end s i leader h e = rw (use_end s i h) at e

pub leading : (s : List ℕ) (leader : Voter) → leader ≡ self_of (poll_in s) → best leader (in_use (drop 0 (places_in s))) ≡ winning (poll_in s)
unfolding poll_in
leading s leader e = rw e

module _ (s : List ℕ) (i : ℕ) (leader : Voter) (h : i < 24) (e : best leader (in_use (drop i (places_in s))) ≡ winning (poll_in s)) (v : Voter) (here : v ≡ voter_at s i) where
  pub leading_none : v.unit ≡ 0 → leader ≡ winning (poll_in s)
  leading_none z = rw (use_none s i h v here z) at e

  pub leading_on : (v.unit ≡ 0 → ⊥) → (next : Voter) → next ≡ better leader v → best next (in_use (drop (i + 1) (places_in s))) ≡ winning (poll_in s)
  leading_on z next q = rw q (rw (use_turn s i h v here z) at e)

-- ---- one sifted in: what is left to store is the whole, and the bytes from here on are as they were
pub record Sifting (s whole t : List ℕ) (done : Bool) (hand : Voter) (i : ℕ) : Type 0 where
  pub within : i ≤ 24
  pub rest : drop (3 + 3 * i) t ≡ drop (3 + 3 * i) s
  pub left : sets t (3 + 3 * i) (voters_bytes (sifted done hand (drop i (places_in s)))) ≡ whole

pub sifting : (s : List ℕ) (w : Voter) → Sifting s (sets s 3 (voters_bytes (sifted false w (places_in s)))) s false w 0
sifting s w = record { within = omega arith; rest = refl; left = refl }

module _ (s whole t : List ℕ) (done : Bool) (hand : Voter) (i : ℕ) (k : Sifting s whole t done hand i) where
  pub sifted_in : 24 ≤ i → t ≡ whole
  sifted_in h = rw (places-past s i h) at k.left

  module _ (h : i < 24) where
    pub kept-voter : (v : Voter) → v ≡ voter_at t i → v ≡ voter_at s i
    unfolding voter_at
    kept-voter v e =
        e ∙ ap voter_from (sym (fields-part voter_widths t (3 + 3 * i) 3 (omega arith)) ∙ (ap (λ (l : List ℕ). fields voter_widths (take 3 l) 0) k.rest ∙ fields-part voter_widths s (3 + 3 * i) 3 (omega arith)))

    module _ (v : Voter) (here : v ≡ voter_at t i) where
      abbrev passes : Bool
      passes = done || ltb 0 v.unit && ltb v.unit hand.unit

      abbrev last : Bool
      last = eqb v.unit 0 || eqb v.unit hand.unit

      pub sifting_on : (kept next : Voter) → kept ≡ cond passes v hand → next ≡ cond passes hand v
          → (filled : List ℕ) → filled ≡ sets t (3 + 3 * i) (bytes voter_widths (voter_values kept)) → Sifting s whole filled (done || not passes && last) next (i + 1)
      sifting_on kept next c n filled f =
          let size : length (bytes voter_widths (voter_values kept)) ≡ 3 = length-bytes voter_widths (voter_values kept) refl in
          let at : 3 + 3 * (i + 1) ≡ 3 + 3 * i + 3 = omega arith in
          let next_place : 3 + 3 * (i + 1) ≡ 3 + 3 * i + length (bytes voter_widths (voter_values kept)) = omega (arith, size) in
          record {
            within = omega arith;
            rest =
                rw (f, at, drop-sets (bytes voter_widths (voter_values kept)) t (3 + 3 * i) (3 + 3 * i + 3) (omega (arith, size)), ← drop-drop 3 (3 + 3 * i) t, ← drop-drop 3 (3 + 3 * i) s)
                (ap (drop 3) k.rest);
            left =
                rw (f, next_place, n)
                (sym (sets_append (bytes voter_widths (voter_values kept)) _ t (3 + 3 * i)) ∙ (rw (places-from s i h, ← kept-voter v here, ← c) at k.left));
          }
