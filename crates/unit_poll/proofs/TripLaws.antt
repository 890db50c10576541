-- A poll that was stored is read back, and its bytes hold it.
-- Assumes nothing.
use Rattle.octets.proofs.Words.{◌≡◌, refl, sym, ap, ◌∙◌, true, and-eq-true_iff, List, [], ◌∷◌, ◌++◌, ℕ, zero, suc, ◌+◌, ◌*◌, ◌-◌, ◌<◌, arith, eq-eqb, ne_eqb, ltb-true, length, get_or, drop, drop-append_seam, length-append, replicate}
use Rattle.octets.specs.Layouts.{fields, bytes, Fit}
use Rattle.octets.specs.Lists.{every, Each}
use Rattle.octets.specs.Numbers.{num}
use Rattle.octets.specs.Zeros.{zeros_from}
use Rattle.octets.proofs.AddressLaws.{address-fits}
use Rattle.octets.proofs.EachLaws.{each-replicate, each_append}
use Rattle.octets.proofs.LayoutLaws.{fields-bytes, length-bytes}
use Rattle.octets.proofs.ListLaws.{map_same}
use Rattle.octets.proofs.RunLaws.{run_length, run-read}
use Rattle.unit_poll.specs.declared.voter.Voter.{Voter}
use Rattle.unit_poll.specs.Places.{is_none}
use Rattle.unit_poll.specs.PollBytes.{voter_widths, voter_values, voter_from, voter_at, voters_bytes, in_use, places_in, poll_in, pad, poll_bytes, holds_poll}
use Rattle.unit_poll.specs.Polls.{Poll, poll_rule}
use Rattle.unit_poll.specs.Voters.{none}
use Rattle.unit_poll.proofs.PlaceLaws.{none-zeros}
use Rattle.unit_poll.proofs.PollLaws.{within, rules_used, pad_long, voters_run}
use Rattle.unit_poll.proofs.SiftLaws.{used}

-- ---- numbers that fit their bytes
abbrev pub VoterFits : Voter → Type 0
VoterFits v = Fit voter_widths (voter_values v)

pub record Sized (p : Poll) : Type 0 where
  pub priority : p.priority < 256
  pub others : Each VoterFits p.others

none-fits : VoterFits none
none-fits = (omega arith, (omega arith, tt))

pad-fits : (vs : List Voter) → Each VoterFits vs → Each VoterFits (pad vs)
unfolding pad
pad-fits vs e = each_append VoterFits vs (replicate (24 - length vs) none) e (each-replicate VoterFits (24 - length vs) none none-fits)

-- ---- the others among their places
zeros_unused : (k : ℕ) → in_use (replicate k none) ≡ []
zeros_unused zero = refl
zeros_unused (suc k) = refl

in_use-before : (k : ℕ) (vs : List Voter) → every used vs ≡ true → in_use (vs ++ replicate k none) ≡ vs
unfolding every
in_use-before k [] u = zeros_unused k
in_use-before k (v ∷ vs) u =
    let (here, later) = (and-eq-true_iff (used v) (every used vs)).0 u in
    let h = ltb-true 0 v.unit here in
    rw (ne_eqb v.unit 0 (omega (arith, h)), in_use-before k vs later)

in_use-pad : (vs : List Voter) → every used vs ≡ true → in_use (pad vs) ≡ vs
unfolding pad
in_use-pad vs u = in_use-before (24 - length vs) vs u

zeros-none : (k : ℕ) → every is_none (replicate k none) ≡ true
unfolding every
zeros-none zero = refl
zeros-none (suc k) = zeros-none k

pad-zeros : (vs : List Voter) → every is_none (drop (length vs) (pad vs)) ≡ true
unfolding pad
pad-zeros vs = rw (drop-append_seam vs (replicate (24 - length vs) none)) (zeros-none (24 - length vs))

module _ (p : Poll) (e : poll_rule p ≡ true) (z : Sized p) where
  abbrev head : List ℕ
  head = bytes (2 ∷ 1 ∷ []) (p.own ∷ p.priority ∷ [])

  head_long : length head ≡ 3
  head_long = length-bytes (2 ∷ 1 ∷ []) (p.own ∷ p.priority ∷ []) refl

  pub poll_long : length (poll_bytes p) ≡ 75
  unfolding poll_bytes
  poll_long = length-append head (voters_bytes (pad p.others)) ∙ omega (arith, head_long, run_length voters_run (pad p.others), pad_long p.others (within p e).few)

  places_back : places_in (poll_bytes p) ≡ pad p.others
  unfolding poll_bytes voter_at
  places_back =
      (rw (pad_long p.others (within p e).few) at (run-read voters_run (Each VoterFits) (λ v vs h. h) voter_from (voter_at (head ++ voters_bytes (pad p.others))) (pad p.others) head 3 head_long (pad-fits p.others z.others) (λ i. refl)))
      ∙ map_same (λ v. voter_from (voter_values v)) (λ v. refl) (pad p.others)

  numbers_back : fields (2 ∷ 1 ∷ []) (poll_bytes p) 0 ≡ p.own ∷ p.priority ∷ []
  unfolding poll_bytes
  numbers_back = fields-bytes (2 ∷ 1 ∷ []) (p.own ∷ p.priority ∷ []) [] (voters_bytes (pad p.others)) 0 refl (address-fits p.own (within p e).unit, (z.priority, tt))

  others_back : in_use (places_in (poll_bytes p)) ≡ p.others
  others_back = ap in_use places_back ∙ in_use-pad p.others (rules_used p.own p.others (within p e).rules)

  pub poll_back : poll_in (poll_bytes p) ≡ p
  unfolding poll_in
  poll_back =
      let own : num 2 (poll_bytes p) 0 ≡ p.own = ap (λ (vs : List ℕ). get_or vs 0 0) numbers_back in
      let priority : num 1 (poll_bytes p) 2 ≡ p.priority = ap (λ (vs : List ℕ). get_or vs 1 0) numbers_back in
      rw (own, priority, others_back)

  pub poll-held : holds_poll (poll_bytes p) ≡ true
  unfolding holds_poll
  poll-held =
      let n = length p.others in
      let zeros : zeros_from (3 + 3 * n) (poll_bytes p) ≡ true =
      sym (none-zeros (poll_bytes p) poll_long (24 - n) n (omega (arith, (within p e).few))) ∙ rw places_back (pad-zeros p.others) in
      rw (poll_back, eq-eqb (length (poll_bytes p)) 75 poll_long, e, zeros)
