-- A poll within rule, its bytes, and what its calls leave of them.
-- Assumes nothing.
use Rattle.octets.proofs.Words.{◌≡◌, refl, sym, ap, ◌∙◌, Bool, true, false, not, ◌&&◌, cond, and-eq-true_iff, List, [], ◌∷◌, ◌++◌, append-nil, ℕ, ◌+◌, ◌*◌, ◌-◌, ◌≤◌, zero-add, arith, eq-eqb, lt-ltb, eqb-true, leb-true, eqb, leb, length, take, drop, drop_of_length-le, length-append, length-drop, length-replicate, replicate, sets, sets-eq}
use Rattle.octets.specs.Addresses.{address}
use Rattle.octets.specs.Layouts.{bytes, Bytes}
use Rattle.octets.specs.Lists.{every}
use Rattle.octets.specs.Numbers.{digits}
use Rattle.octets.specs.Zeros.{zeros_from}
use Rattle.octets.proofs.AddressLaws.{address-least}
use Rattle.octets.proofs.AnswerLaws.{refusing_numbered, none-holds}
use Rattle.octets.proofs.LayoutLaws.{bytes-fields, length-bytes}
use Rattle.octets.proofs.ListLaws.{every-on}
use Rattle.octets.proofs.NumberLaws.{length_digits}
use Rattle.octets.proofs.RunLaws.{Run, run_length}
use Rattle.octets.proofs.StoreLaws.{sets_append, sets-whole}
use Rattle.frame_kinds.specs.Reading.{refusal_as}
use Rattle.frame_kinds.specs.Shape.{values_in}
use Rattle.frame_requests.specs.declared.Election.{Election}
use Rattle.frame_requests.specs.Requests.{election, election_values, election_from}
use Rattle.unit_poll.specs.declared.voter.Voter.{Voter}
use Rattle.unit_poll.specs.Places.{is_none, sifted}
use Rattle.unit_poll.specs.PollBytes.{voter_widths, voter_values, voters_bytes, in_use, places_in, poll_in, pad, poll_bytes, holds_poll, poll_left, fresh_call, hear_call}
use Rattle.unit_poll.specs.Polls.{Poll, poll_rule, voter_in, unheard_reasons, hear_refusal, with_message}
use Rattle.unit_poll.specs.Voters.{voter, none, voter_rule, ascending, known, put}
use Rattle.unit_poll.proofs.PlaceLaws.{places_long, none-zeros, others-few}
use Rattle.unit_poll.proofs.SiftLaws.{used, sifted-pad}

-- ---- the parts of the rule
pub record Within (p : Poll) : Type 0 where
  pub unit : address p.own ≡ true
  pub ascends : ascending p.others ≡ true
  pub rules : every (voter_rule p.own) p.others ≡ true
  pub few : length p.others ≤ 24

pub within : (p : Poll) → poll_rule p ≡ true → Within p
within p e =
    let (three, fits) = (and-eq-true_iff (address p.own && ascending p.others && every (voter_rule p.own) p.others) (leb (length p.others) 24)).0 e in
    let (two, rules) = (and-eq-true_iff (address p.own && ascending p.others) (every (voter_rule p.own) p.others)).0 three in
    let (unit, ascends) = (and-eq-true_iff (address p.own) (ascending p.others)).0 two in
    record { unit = unit; ascends = ascends; rules = rules; few = leb-true (length p.others) 24 fits }

pub rules_used : (own : ℕ) (vs : List Voter) → every (voter_rule own) vs ≡ true → every used vs ≡ true
rules_used own =
    every-on (voter_rule own) used
    (λ v e. lt-ltb 0 v.unit (address-least v.unit ((and-eq-true_iff (address v.unit) (not (eqb v.unit own))).0 e).0))

-- ---- the places of others
pub pad_long : (vs : List Voter) → length vs ≤ 24 → length (pad vs) ≡ 24
unfolding pad
pad_long vs h = length-append vs (replicate (24 - length vs) none) ∙ omega (arith, length-replicate (24 - length vs) none, h)

is_none_lem : (v : Voter) → is_none v ≡ true → v ≡ none
is_none_lem v e =
    let (unit, priority) = (and-eq-true_iff (eqb v.unit 0) (eqb v.priority 0)).0 e in
    let whole : voter v.unit v.priority ≡ none = rw (eqb-true v.unit 0 unit, eqb-true v.priority 0 priority) in
    whole

all_none : (vs : List Voter) → every is_none vs ≡ true → vs ≡ replicate (length vs) none
unfolding every
all_none [] e = refl
all_none (v ∷ vs) e =
    let (here, later) = (and-eq-true_iff (is_none v) (every is_none vs)).0 e in
    rw (is_none_lem v here) (ap (λ (l : List Voter). none ∷ l) (all_none vs later))

in_use-first : (vs : List Voter) → in_use vs ++ drop (length (in_use vs)) vs ≡ vs
in_use-first [] = refl
in_use-first (v ∷ vs) = go (eqb v.unit 0) (in_use-first vs)
  where
    go : (b : Bool) → in_use vs ++ drop (length (in_use vs)) vs ≡ vs → cond b [] (v ∷ in_use vs) ++ drop (length (cond b [] (v ∷ in_use vs))) (v ∷ vs) ≡ v ∷ vs
    go true h = refl
    go false h = ap (λ (l : List Voter). v ∷ l) h

pub voters_run : Run voter_widths voter_values voters_bytes
voters_run = record { none = refl; more = λ a l. refl; full = λ a. refl }

-- ---- bytes that hold a poll
module _ (s : List ℕ) (e : holds_poll s ≡ true) where
  parts : ((eqb (length s) 75 && poll_rule (poll_in s)) ≡ true) × (zeros_from (3 + 3 * length (poll_in s).others) s ≡ true)
  unfolding holds_poll
  parts = (and-eq-true_iff (eqb (length s) 75 && poll_rule (poll_in s)) (zeros_from (3 + 3 * length (poll_in s).others) s)).0 e

  pub held_long : length s ≡ 75
  held_long = eqb-true (length s) 75 ((and-eq-true_iff (eqb (length s) 75) (poll_rule (poll_in s))).0 parts.0).0

  pub held-rule : poll_rule (poll_in s) ≡ true
  held-rule = ((and-eq-true_iff (eqb (length s) 75) (poll_rule (poll_in s))).0 parts.0).1

  held-within : Within (poll_in s)
  held-within = within (poll_in s) held-rule

  held-places : places_in s ≡ pad (poll_in s).others
  unfolding pad poll_in
  held-places =
      let vs = in_use (places_in s) in
      let behind = drop (length vs) (places_in s) in
      let count : length behind ≡ 24 - length vs = length-drop (length vs) (places_in s) ∙ rw (places_long s) in
      let empty : every is_none behind ≡ true = none-zeros s held_long (24 - length vs) (length vs) (omega (arith, others-few s)) ∙ parts.1 in
      sym (in_use-first (places_in s)) ∙ ap (λ (l : List Voter). vs ++ l) (all_none behind empty ∙ ap (λ (n : ℕ). replicate n none) count)

  -- what is left when a message was sifted in
  module _ (b : Bytes s) (v : Voter) (room : (not (known v.unit (poll_in s).others) && leb 24 (length (poll_in s).others)) ≡ false) where
    abbrev others : List Voter
    others = (poll_in s).others

    put_in : (sifted false v (pad others) ≡ pad (put v others)) × (length (put v others) ≤ 24)
    put_in = sifted-pad v others held-within.ascends (rules_used (poll_in s).own others held-within.rules) held-within.few room

    stored : sets s 3 (voters_bytes (pad (put v others))) ≡ take 3 s ++ voters_bytes (pad (put v others))
    stored =
        let size : length (voters_bytes (pad (put v others))) ≡ 72 = run_length voters_run (pad (put v others)) ∙ omega (arith, pad_long (put v others) put_in.1) in
        let past : length s ≤ 3 + length (voters_bytes (pad (put v others))) = omega (arith, held_long, size) in
        sets-eq (voters_bytes (pad (put v others))) s 3 (omega (arith, held_long, size))
        ∙ rw (drop_of_length-le s past) (append-nil (take 3 s ++ voters_bytes (pad (put v others))))

    head : take 3 s ++ voters_bytes (pad (put v others)) ≡ poll_bytes (with_message (poll_in s) v)
    unfolding poll_bytes poll_in
    head = ap (λ (l : List ℕ). l ++ voters_bytes (pad (put v (poll_in s).others))) (sym (bytes-fields s b (2 ∷ 1 ∷ []) 0 (omega (arith, held_long))))

    pub heard-bytes : sets s 3 (voters_bytes (sifted false v (places_in s))) ≡ poll_bytes (with_message (poll_in s) v)
    heard-bytes =
        ap (λ (vs : List Voter). sets s 3 (voters_bytes (sifted false v vs))) held-places
        ∙ ap (λ (vs : List Voter). sets s 3 (voters_bytes vs)) put_in.0
        ∙ stored ∙ head

-- the message of a frame, as it was read
pub message_in : (f : Election) (s : List ℕ) → election_values f ≡ values_in election s → voter f.node f.priority ≡ voter_in s
message_in f s e = ap (λ (vs : List ℕ). voter (election_from vs).node (election_from vs).priority) e

-- ---- what hearing leaves, where there is room for the message
module _ (s frame : List ℕ) (e : holds_poll s ≡ true) (z : hear_refusal (poll_in s) frame ≡ 0) where
  pub hearable : (not (known (voter_in frame).unit (poll_in s).others) && leb 24 (length (poll_in s).others)) ≡ false
  unfolding hear_refusal
  hearable = (none-holds (unheard_reasons (poll_in s) frame) (refusing_numbered (refusal_as election frame), _) z).1.1.0

  pub heard-accepted : Bytes s → (held : List ℕ) → held ≡ sets s 3 (voters_bytes (sifted false (voter_in frame) (places_in s))) → poll_left 0 held ≡ hear_call s frame
  unfolding hear_call
  heard-accepted b held q = rw (e, z) (ap (poll_left 0) (q ∙ heard-bytes s e b (voter_in frame) hearable))

-- ---- a fresh poll
abbrev zeros : List ℕ
zeros = replicate 72 0

fresh-places : voters_bytes (pad []) ≡ zeros
unfolding pad digits
fresh-places = refl

pub fresh-accepted : (s : List ℕ) (own priority : ℕ) → length s ≡ 75 → address own ≡ true
    → (one two three : List ℕ) → one ≡ sets s 0 (digits 2 own) → two ≡ sets one 2 (digits 1 priority) → three ≡ sets two 3 zeros → poll_left 0 three ≡ fresh_call s own priority
unfolding fresh_call poll_bytes
fresh-accepted s own priority l g one two three a b c =
    let head = bytes (2 ∷ 1 ∷ []) (own ∷ priority ∷ []) in
    let size : length head ≡ 3 = length-bytes (2 ∷ 1 ∷ []) (own ∷ priority ∷ []) refl in
    let put : two ≡ sets s 0 head = b ∙ rw a (sym (sets_append (digits 2 own) (digits 1 priority ++ []) s 0 ∙ rw (zero-add, length_digits 2 own, append-nil (digits 1 priority)))) in
    let whole : three ≡ sets s 0 (head ++ zeros) = c ∙ rw put (sym (sets_append head zeros s 0 ∙ rw (zero-add, size))) in
    rw (eq-eqb (length s) 75 l, g)
    (ap (poll_left 0) (rw fresh-places (whole ∙ sets-whole s (head ++ zeros) (length-append head zeros ∙ omega (arith, size, l)))))
