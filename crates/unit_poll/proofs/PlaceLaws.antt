-- The 24 places of a poll's bytes against the list of others that they hold.
-- Assumes nothing.
use Rattle.octets.proofs.Words.{◌≡◌, refl, sym, ap, ap₂, ◌∙◌, Bool, true, false, ◌&&◌, cond, and-true, List, [], ◌∷◌, ℕ, zero, suc, ◌+◌, ◌*◌, ◌-◌, ◌≤◌, ◌<◌, add-one, arith, eq-eqb, ne_eqb, le-leb, eqb, length, get_or, drop, drop_of_length-le, drop-cons}
use Rattle.octets.specs.Addresses.{address}
use Rattle.octets.specs.Layouts.{fields}
use Rattle.octets.specs.Lists.{every}
use Rattle.octets.specs.Numbers.{num}
use Rattle.octets.specs.Places.{first_key}
use Rattle.octets.specs.Zeros.{is_zero, zeros_from}
use Rattle.octets.proofs.ListLaws.{length-tab, get_or-tab}
use Rattle.octets.proofs.PlaceLaws.{ok_right}
use Rattle.octets.proofs.ZeroLaws.{fields-zero}
use Rattle.unit_poll.specs.declared.voter.Voter.{Voter}
use Rattle.unit_poll.specs.Places.{is_none, ok_voter, ok_places}
use Rattle.unit_poll.specs.PollBytes.{voter_widths, voter_at, in_use, places_in, poll_in, holds_poll}
use Rattle.unit_poll.specs.Voters.{none, unit_of, voter_rule, ascending}

-- ---- places that are read from bytes
module _ (s : List ℕ) where
  pub places_long : length (places_in s) ≡ 24
  places_long = length-tab 24 (voter_at s)

  pub place_at_lem : (i : ℕ) → i < 24 → get_or (places_in s) i none ≡ voter_at s i
  place_at_lem i h = get_or-tab 24 (voter_at s) i none h

  pub places-from : (i : ℕ) → i < 24 → drop i (places_in s) ≡ voter_at s i ∷ drop (i + 1) (places_in s)
  places-from i h = rw (drop-cons (places_in s) i none (omega (arith, places_long, h)), place_at_lem i h, add-one)

  pub places-past : (i : ℕ) → 24 ≤ i → drop i (places_in s) ≡ []
  places-past i h =
      let k : length (places_in s) ≤ i = omega (arith, places_long, h) in
      drop_of_length-le (places_in s) k

-- ---- the loop that judges the places, from the last on
module _ (s : List ℕ) (own n : ℕ) (some : 0 < n) (h : n ≤ 24) where
  first_turn : drop (n - 1) (places_in s) ≡ voter_at s (n - 1) ∷ drop n (places_in s)
  first_turn =
      let back : n - 1 + 1 ≡ n = omega arith in
      places-from s (n - 1) (omega arith) ∙ ap (λ (k : ℕ). voter_at s (n - 1) ∷ drop k (places_in s)) back

  pub ok_turn : (good : Bool) (after : ℕ) → good ≡ ok_places own (drop n (places_in s)) → after ≡ first_key unit_of (drop n (places_in s))
      → (ok_voter own (voter_at s (n - 1)) after && good) ≡ ok_places own (drop (n - 1) (places_in s))
  ok_turn good after g a = rw (first_turn, g, a)

  pub unit_turn : (voter_at s (n - 1)).unit ≡ first_key unit_of (drop (n - 1) (places_in s))
  unit_turn = rw first_turn

-- ---- empty places are zeros
not_none : (v : Voter) → (v.unit ≡ 0 → ⊥) → is_none v ≡ false
not_none v e = rw (ne_eqb v.unit 0 e)

place_none : (s : List ℕ) (i : ℕ) → is_none (voter_at s i) ≡ every is_zero (fields voter_widths s (3 + 3 * i))
unfolding voter_at every
place_none s i = sym (ap (λ (b : Bool). is_zero (num 2 s (3 + 3 * i)) && b) (and-true (is_zero (num 1 s (3 + 3 * i + 2)))))

pub none-zeros : (s : List ℕ) → length s ≡ 75 → (n i : ℕ) → n + i ≡ 24 → every is_none (drop i (places_in s)) ≡ zeros_from (3 + 3 * i) s
unfolding every
none-zeros s l zero i e =
    let k : length s ≤ 3 + 3 * i = omega arith in
    rw (places-past s i (omega arith), drop_of_length-le s k)
none-zeros s l (suc n) i e =
    let next : 3 + 3 * i + 3 ≡ 3 + 3 * (i + 1) = omega arith in
    rw (places-from s i (omega arith))
    (ap₂ ◌&&◌ (place_none s i) (none-zeros s l n (i + 1) (omega arith)) ∙ sym (rw next at (fields-zero voter_widths s (3 + 3 * i) (omega arith))))

in_use-few : (vs : List Voter) → length (in_use vs) ≤ length vs
in_use-few [] = omega arith
in_use-few (v ∷ vs) = go (eqb v.unit 0) (in_use-few vs)
  where
    go : (b : Bool) → length (in_use vs) ≤ length vs → length (cond b [] (v ∷ in_use vs)) ≤ suc (length vs)
    go true h = omega arith
    go false h = omega arith

pub others-few : (s : List ℕ) → length (in_use (places_in s)) ≤ 24
others-few s = omega (arith, in_use-few (places_in s), places_long s)

-- ---- what the code judges is the definition
pub no_length : (s : List ℕ) → (length s ≡ 75 → ⊥) → false ≡ holds_poll s
unfolding holds_poll
no_length s n = rw (ne_eqb (length s) 75 n)

pub judged : (s : List ℕ) → length s ≡ 75 → (unit places : Bool) → unit ≡ address (num 2 s 0) → places ≡ ok_places (num 2 s 0) (places_in s) → (unit && places) ≡ holds_poll s
unfolding holds_poll poll_in
judged s l unit places u p =
    let vs = in_use (places_in s) in
    let zeros = none-zeros s l (24 - length vs) (length vs) (omega (arith, others-few s)) in
    rw (u, p, ok_right unit_of is_none (voter_rule (num 2 s 0)) not_none (places_in s), zeros, eq-eqb (length s) 75 l, le-leb (length vs) 24 (others-few s))
    (flat (address (num 2 s 0)) (ascending vs) (every (voter_rule (num 2 s 0)) vs) (zeros_from (3 + 3 * length vs) s))
  where
    flat : (a o r z : Bool) → (a && (o && r && z)) ≡ (a && o && r && true && z)
    flat true true true z = refl
    flat true true false z = refl
    flat true false r z = refl
    flat false o r z = refl
