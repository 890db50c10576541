-- A poll over any frames: it stays within rule, and holds the last message of each unit.
-- Assumes nothing.
use Rattle.octets.proofs.Words.{◌≡◌, refl, sym, ap, ◌∙◌, Bool, true, false, not, ◌&&◌, cond, List, [], ◌∷◌, ℕ, ℕ_discrete, eq-eqb, ne_eqb, eqb-true, eqb-false, le-leb, not-false, eqb, leb, length}
use Rattle.octets.specs.Addresses.{address}
use Rattle.octets.specs.Lists.{every}
use Rattle.octets.proofs.AnswerLaws.{refusing_numbered, none-holds}
use Rattle.octets.proofs.OrderLaws.{put-every, put-ascending}
use Rattle.frame_kinds.specs.Reading.{refusal_as}
use Rattle.frame_kinds.proofs.ReadingLaws.{passed}
use Rattle.frame_requests.specs.Requests.{election}
use Rattle.unit_poll.specs.declared.voter.Voter.{Voter}
use Rattle.unit_poll.specs.Polls.{Poll, poll_rule, self_of, all_of, fresh_poll, voter_in, unheard_reasons, hear_refusal, with_message, heard_by, winning}
use Rattle.unit_poll.specs.Voters.{none, voter_rule, unit_of, known, voter_for, put}
use Rattle.unit_poll.proofs.PollLaws.{within, rules_used}
use Rattle.unit_poll.proofs.SiftLaws.{sifted-pad}
use Rattle.poll_history.specs.Histories.{poll_after, taken, last_since, ending}
use Rattle.poll_history.specs.Laws.{SameWinner, NeverTwo, KeepsRule, HoldsLast}
use Rattle.octets.proofs.OrderLaws.{find_first, find_behind, find_put, find_other}
use Rattle.poll_history.proofs.WinLaws.{wins, one-winner}

-- ---- what is known of a message that is heard
record Heard (p : Poll) (s : List ℕ) : Type 0 where
  unit : address (voter_in s).unit ≡ true
  other : eqb (voter_in s).unit p.own ≡ false
  room : (not (known (voter_in s).unit p.others) && leb 24 (length p.others)) ≡ false

heard : (p : Poll) (s : List ℕ) → hear_refusal p s ≡ 0 → Heard p s
unfolding hear_refusal
heard p s e =
    let none = none-holds (unheard_reasons p s) (refusing_numbered (refusal_as election s), _) e in
    record { unit = (passed _ _ _ s (eqb-true (refusal_as election s) 0 (not-false _ none.0))).kept; other = none.1.0; room = none.1.1.0 }

module _ (p : Poll) (s : List ℕ) (k : Heard p s) where
  abbrev new : Voter
  new = voter_in s

  heard-rule : poll_rule p ≡ true → poll_rule (with_message p new) ≡ true
  heard-rule e =
      let w = within p e in
      let few = (sifted-pad new p.others w.ascends (rules_used p.own p.others w.rules) w.few k.room).1 in
      rw (w.unit, put-ascending unit_of new p.others w.ascends, put-every unit_of (voter_rule p.own) new p.others (rw (k.unit, k.other)) w.rules, le-leb (length (put new p.others)) 24 few)

  -- its unit has it, and every other unit has what it had
  heard-voter : (u : ℕ) → voter_for u (all_of (with_message p new)) ≡ cond (eqb new.unit u) new (voter_for u (all_of p))
  heard-voter u = go (ℕ_discrete new.unit u) (ℕ_discrete p.own u)
    where
      others : List Voter
      others = put new p.others

      go : Dec (new.unit ≡ u) → Dec (p.own ≡ u) → voter_for u (self_of p ∷ put new p.others) ≡ cond (eqb new.unit u) new (voter_for u (self_of p ∷ p.others))
      go (yes e) (yes o) = absurd (eqb-false new.unit p.own k.other (e ∙ sym o))
      go (yes e) (no o) =
          find_behind unit_of none u (self_of p) (put new p.others) o ∙ (ap (λ (n : ℕ). voter_for n (put new p.others)) (sym e) ∙ (find_put unit_of none new p.others ∙ sym (rw (eq-eqb new.unit u e))))
      go (no e) (yes o) = rw (ne_eqb new.unit u e) (find_first unit_of none u (self_of p) (put new p.others) o ∙ sym (find_first unit_of none u (self_of p) p.others o))
      go (no e) (no o) =
          rw (ne_eqb new.unit u e) (find_behind unit_of none u (self_of p) (put new p.others) o ∙ (find_other unit_of none u new e p.others ∙ sym (find_behind unit_of none u (self_of p) p.others o)))

-- ---- one frame, accepted or not: what holds of the poll after it and of whether it is accepted
by-heard : (p : Poll) (s : List ℕ) (P : Poll → Bool → Type 0) → (Heard p s → P (with_message p (voter_in s)) true) → P p false → P (heard_by p s) (eqb (hear_refusal p s) 0)
by-heard p s P accepted refused = go (ℕ_discrete (hear_refusal p s) 0)
  where
    go : Dec (hear_refusal p s ≡ 0) → P (heard_by p s) (eqb (hear_refusal p s) 0)
    go (yes z) = rw (eq-eqb (hear_refusal p s) 0 z) (accepted (heard p s z))
    go (no z) = rw (ne_eqb (hear_refusal p s) 0 z) refused

pub one-rule : (p : Poll) (s : List ℕ) → poll_rule p ≡ true → poll_rule (heard_by p s) ≡ true
one-rule p s e = by-heard p s (λ q t. poll_rule q ≡ true) (λ k. heard-rule p s k e) e

-- ---- any frames
after-rule : (p : Poll) (ss : List (List ℕ)) → poll_rule p ≡ true → poll_rule (poll_after p ss) ≡ true
after-rule p [] e = e
after-rule p (s ∷ ss) e = after-rule (heard_by p s) ss (one-rule p s e)

after_last : (u : ℕ) (p : Poll) (ss : List (List ℕ)) → last_since (voter_for u (all_of p)) u (taken p ss) ≡ voter_for u (all_of (poll_after p ss))
after_last u p [] = refl
after_last u p (s ∷ ss) =
    let later = after_last u (heard_by p s) ss in
    by-heard p s
    (λ q t. last_since (voter_for u (all_of q)) u (taken q ss) ≡ voter_for u (all_of (poll_after q ss))
    → last_since (voter_for u (all_of p)) u (cond t (voter_in s ∷ taken q ss) (taken q ss)) ≡ voter_for u (all_of (poll_after q ss)))
    (λ k ih. ap (λ (v : Voter). last_since v u (taken (with_message p (voter_in s)) ss)) (sym (heard-voter p s k u)) ∙ ih)
    (λ ih. ih) later

-- ---- from a fresh poll on
pub keeps_rule : KeepsRule
unfolding every
keeps_rule c a = after-rule (fresh_poll c.own c.priority) c.frames (rw a)

pub holds-last : HoldsLast
holds-last c a u = sym (after_last u (fresh_poll c.own c.priority) c.frames)

pub same-winner : SameWinner
same-winner a b ka kb same =
    ap (λ (v : Voter). v.unit)
    (one-winner (ending a) (ending b) (winning (ending a)) (winning (ending b)) (wins (ending a) (keeps_rule a ka)) (wins (ending b) (keeps_rule b kb))
    (λ u. holds-last a ka u ∙ (same u ∙ sym (holds-last b kb u))))

pub never_two : NeverTwo
never_two a b ka kb na nb apart same = apart (sym na ∙ (same-winner a b ka kb same ∙ nb))
