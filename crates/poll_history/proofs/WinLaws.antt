-- The winner: one of those that were heard, which none of them beats; and there is only one such.
-- Assumes nothing.
use Rattle.octets.proofs.Words.{◌≡◌, refl, sym, ap, ◌∙◌, Bool, true, false, not, cond, and-eq-true_iff, false≢true, List, [], ◌∷◌, ℕ, ◌≤◌, ◌<◌, ℕ_discrete, dec_lt, arith, lt-ltb, le-ltb, ltb-true, eq-eqb, ne_eqb, eqb-false, not-true, eqb, ltb}
use Rattle.octets.specs.Addresses.{address}
use Rattle.octets.specs.Lists.{every, Each}
use Rattle.octets.proofs.AddressLaws.{address-least}
use Rattle.octets.proofs.EachLaws.{each_also}
use Rattle.unit_poll.specs.declared.voter.Voter.{Voter}
use Rattle.unit_poll.specs.Polls.{Poll, self_of, all_of, winning}
use Rattle.unit_poll.specs.Voters.{voter, none, beats, better, voter_rule, unit_of, ascending, voter_for, best}
use Rattle.unit_poll.proofs.PollLaws.{Within, within}
use Rattle.poll_history.specs.Laws.{Winner, Wins}
use Rattle.octets.proofs.OrderLaws.{ascending-rest, ascending_above, find_first, find_behind}

-- ---- what holds of each
each_of : (test : Voter → Bool) (vs : List Voter) → every test vs ≡ true → Each (λ v. test v ≡ true) vs
unfolding every
each_of test [] e = tt
each_of test (v ∷ vs) e =
    let (here, later) = (and-eq-true_iff (test v) (every test vs)).0 e in
    (here, each_of test vs later)

each_both : (P Q : Voter → Type 0) (vs : List Voter) → Each P vs → Each Q vs → Each (λ v. P v × Q v) vs
each_both P Q [] p q = tt
each_both P Q (v ∷ vs) p q = ((p.0, q.0), each_both P Q vs p.1 q.1)

each-voter : (P : Voter → Type 0) (u : ℕ) → 0 < u → (vs : List Voter) → Each P vs → (voter_for u vs).unit ≡ u → P (voter_for u vs)
each-voter P u z [] e h = absurd (omega arith)
each-voter P u z (r ∷ rs) e h = go (ℕ_discrete r.unit u) (each-voter P u z rs e.1)
  where
    go : Dec (r.unit ≡ u) → ((voter_for u rs).unit ≡ u → P (voter_for u rs)) → P (voter_for u (r ∷ rs))
    go (yes q) ih = rw (find_first unit_of none u r rs q) e.0
    go (no q) ih = rw (find_behind unit_of none u r rs q) (ih (rw (find_behind unit_of none u r rs q) at h))

-- ---- each of a poll within rule is its unit's only one
abbrev Own : List Voter → Voter → Type 0
Own vs v = voter_for v.unit vs ≡ v

own_behind : (r : Voter) (rs vs : List Voter) → Each (λ v. r.unit ≡ v.unit → ⊥) vs → Each (Own rs) vs → Each (Own (r ∷ rs)) vs
own_behind r rs vs n e =
    each_also (λ v. (r.unit ≡ v.unit → ⊥) × Own rs v) (Own (r ∷ rs)) (λ v k. find_behind unit_of none v.unit r rs k.0 ∙ k.1) vs
    (each_both (λ v. r.unit ≡ v.unit → ⊥) (Own rs) vs n e)

own-each : (rs : List Voter) → ascending rs ≡ true → Each (Own rs) rs
own-each [] a = tt
own-each (r ∷ rs) a = (
  find_first unit_of none r.unit r rs refl,
  own_behind r rs rs
      (each_also (λ v. ltb r.unit v.unit ≡ true) (λ v. r.unit ≡ v.unit → ⊥) (λ v h e. omega (arith, ltb-true r.unit v.unit h, e)) rs (each_of (λ v. ltb r.unit v.unit) rs (ascending_above unit_of r rs a)))
      (own-each rs (ascending-rest unit_of r rs a)),
)

module _ (p : Poll) (w : Within p) where
  ruled : Each (λ v. voter_rule p.own v ≡ true) p.others
  ruled = each_of (voter_rule p.own) p.others w.rules

  apart : (v : Voter) → voter_rule p.own v ≡ true → p.own ≡ v.unit → ⊥
  apart v e q = eqb-false v.unit p.own (not-true (eqb v.unit p.own) ((and-eq-true_iff (address v.unit) (not (eqb v.unit p.own))).0 e).1) (sym q)

  own-all : Each (Own (all_of p)) (all_of p)
  own-all = (
    find_first unit_of none p.own (self_of p) p.others refl,
    own_behind (self_of p) p.others p.others
        (each_also (λ v. voter_rule p.own v ≡ true) (λ v. p.own ≡ v.unit → ⊥) apart p.others ruled) (own-each p.others w.ascends),
  )

  addresses : Each (λ v. address v.unit ≡ true) p.others
  addresses =
      each_also (λ v. voter_rule p.own v ≡ true) (λ v. address v.unit ≡ true) (λ v e. ((and-eq-true_iff (address v.unit) (not (eqb v.unit p.own))).0 e).0) p.others ruled

-- ---- not going before
record Behind (a b : Voter) : Type 0 where
  less : a.priority ≤ b.priority
  after : a.priority ≡ b.priority → b.unit ≤ a.unit

behind_self : (a : Voter) → Behind a a
behind_self a = record { less = omega arith; after = λ e. omega arith }

behind-on : (a b c : Voter) → Behind a b → Behind b c → Behind a c
behind-on a b c h k =
    record {
      less = omega (arith, h.less, k.less);
      after = λ e.
          let x = h.after (omega (arith, h.less, k.less, e)) in
          let y = k.after (omega (arith, h.less, k.less, e)) in
          omega (arith, x, y);
    }

-- by the test
by-beats : (P : Bool → Type 0) (a b : Voter) → (Behind b a → P true) → (Behind a b → P false) → P (beats a b)
by-beats P a b first second = go (dec_lt b.priority a.priority) (ℕ_discrete b.priority a.priority) (dec_lt a.unit b.unit)
  where
    go : Dec (b.priority < a.priority) → Dec (b.priority ≡ a.priority) → Dec (a.unit < b.unit) → P (beats a b)
    go (yes h) q r = rw (lt-ltb b.priority a.priority h) (first (record { less = omega arith; after = λ e. absurd (omega (arith, h, e)) }))
    go (no h) (no q) r =
        rw (le-ltb b.priority a.priority (omega arith), ne_eqb b.priority a.priority q)
        (second (record { less = omega arith; after = λ e. absurd (q (sym e)) }))
    go (no h) (yes q) (yes r) =
        rw (le-ltb b.priority a.priority (omega arith), eq-eqb b.priority a.priority q, lt-ltb a.unit b.unit r)
        (first (record { less = omega arith; after = λ e. omega arith }))
    go (no h) (yes q) (no r) =
        rw (le-ltb b.priority a.priority (omega arith), eq-eqb b.priority a.priority q, le-ltb a.unit b.unit (omega arith))
        (second (record { less = omega arith; after = λ e. omega arith }))

behind-unbeaten : (a b : Voter) → Behind a b → beats a b ≡ false
behind-unbeaten a b k = go (dec_lt a.priority b.priority) (ℕ_discrete a.priority b.priority)
  where
    go : Dec (a.priority < b.priority) → Dec (a.priority ≡ b.priority) → beats a b ≡ false
    go (yes h) q = rw (le-ltb b.priority a.priority (omega arith), ne_eqb b.priority a.priority (omega arith))
    go (no h) (yes q) =
        let u = k.after q in
        rw (le-ltb b.priority a.priority (omega arith), eq-eqb b.priority a.priority (sym q), le-ltb a.unit b.unit u)
    go (no h) (no q) = absurd (omega (arith, k.less, h, q))

unbeaten-behind : (a b : Voter) → beats a b ≡ false → Behind a b
unbeaten-behind a b = by-beats (λ t. t ≡ false → Behind a b) a b (λ h e. absurd (false≢true (sym e))) (λ h e. h)

-- ---- the best
better-both : (v w : Voter) → (Behind v (better v w)) × (Behind w (better v w))
better-both v w =
    by-beats (λ t. (Behind v (cond t w v)) × (Behind w (cond t w v))) w v (λ h. (h, behind_self w)) (λ h. (behind_self v, h))

best_top : (v : Voter) (vs : List Voter) → Each (λ x. Behind x (best v vs)) (v ∷ vs)
best_top v [] = (behind_self v, tt)
best_top v (w ∷ ws) =
    let (top, rest) = best_top (better v w) ws in
    let (one, two) = better-both v w in
    (behind-on v (better v w) (best (better v w) ws) one top, (behind-on w (better v w) (best (better v w) ws) two top, rest))

best-each : (P : Voter → Type 0) (v : Voter) (vs : List Voter) → P v → Each P vs → P (best v vs)
best-each P v [] p e = p
best-each P v (w ∷ ws) p e = best-each P (better v w) ws (go (beats w v)) e.1
  where
    go : (t : Bool) → P (cond t w v)
    go true = e.0
    go false = p

-- ---- the winner of a poll within rule
pub wins : Wins
wins p e =
    let w = within p e in
    let own = own-all p w in
    record {
      heard = best-each (Own (all_of p)) (self_of p) p.others own.0 own.1;
      unit = best-each (λ v. address v.unit ≡ true) (self_of p) p.others w.unit (addresses p w);
      unbeaten = λ u a h. behind-unbeaten (voter_for u (all_of p)) (winning p) (each-voter (λ x. Behind x (winning p)) u (address-least u a) (all_of p) (best_top (self_of p) p.others) h);
    }

-- neither goes before the other: they are the same
same-voter : (a b : Voter) → Behind a b → Behind b a → a ≡ b
same-voter a b h k =
    let p : a.priority ≡ b.priority = omega (arith, h.less, k.less) in
    let x = h.after p in
    let y = k.after (sym p) in
    let u : a.unit ≡ b.unit = omega (arith, x, y) in
    let whole : voter a.unit a.priority ≡ voter b.unit b.priority = rw (u, p) in
    whole

-- polls that hold the same message of each unit have one winner
pub one-winner : (p q : Poll) (v w : Voter) → Winner p v → Winner q w → ((u : ℕ) → voter_for u (all_of p) ≡ voter_for u (all_of q)) → v ≡ w
one-winner p q v w a b same =
    let vq : voter_for v.unit (all_of q) ≡ v = sym (same v.unit) ∙ a.heard in
    let wp : voter_for w.unit (all_of p) ≡ w = same w.unit ∙ b.heard in
    let x : beats v w ≡ false = rw vq at (b.unbeaten v.unit a.unit (ap (λ (r : Voter). r.unit) vq)) in
    let y : beats w v ≡ false = rw wp at (a.unbeaten w.unit b.unit (ap (λ (r : Voter). r.unit) wp)) in
    same-voter v w (unbeaten-behind v w x) (unbeaten-behind w v y)
