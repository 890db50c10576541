-- A choice takes the best of the two, and the slice that is handed back is the chosen one.
-- Assumes nothing.
use Rattle.octets.proofs.Words.{◌≡◌, sym, ◌∙◌, true, false, ◌||◌, false≢true, ℕ, ◌≤◌, arith, eqb-true, eqb-false, not-false, eqb}
use Rattle.octets.proofs.AnswerLaws.{refusing_numbered, none-holds}
use Rattle.octets.proofs.TestLaws.{or_elim, neither, by_bool, of-cond}
use Rattle.frame_beacons.specs.EitherBeacons.{either_refusal, either_in, reasons_for, refusal_for}
use Rattle.unit_choice.specs.Choices.{Heard, heard, rank_of, ours, ranks_above, chosen_of, handed_back}
use Rattle.unit_choice.specs.Laws.{followed, Ours, FollowsOurs, NoneBetter, RefusedIfNeither, Exchanged, UnreadNeverWins, HandsBackOne}
use Rattle.unit_choice.proofs.OrderLaws.{above_ours, above_foreign, never, never_above_itself, never_both}

-- by whether the second ranks above the first
module _ (network : ℕ) (a b : Heard) where
  the_second : ranks_above (rank_of network b) (rank_of network a) ≡ true → followed network a b ≡ b
  unfolding chosen_of
  the_second e = rw e

  the_first : ranks_above (rank_of network b) (rank_of network a) ≡ false → followed network a b ≡ a
  unfolding chosen_of
  the_first e = rw e

pub none-better : NoneBetter
none-better network a b =
    let r = rank_of network a in
    let s = rank_of network b in
    by_bool _ (ranks_above s r)
    (λ e. rw (the_second network a b e) (never_both s r e, never_above_itself s))
    (λ e. rw (the_first network a b e) (never_above_itself r, e))

pub exchanged : Exchanged
exchanged network a b =
    let r = rank_of network a in
    let s = rank_of network b in
    record {
      apart = λ e. or_elim (followed network b a ≡ followed network a b) (ranks_above r s) (ranks_above s r) e
          (λ x. the_second network b a x ∙ sym (the_first network a b (never_both r s x)))
          (λ x. the_first network b a (never_both s r x) ∙ sym (the_second network a b x));
      equal = λ e. let (x, y) = neither (ranks_above r s) (ranks_above s r) e in (the_first network a b y, the_first network b a x);
    }

-- ---- ours
module _ (network : ℕ) (h : Heard) where
  accepted : ours (rank_of network h) ≡ true → refusal_for network h.frame ≡ 0
  unfolding rank_of
  accepted e = eqb-true _ _ e

  refused : ours (rank_of network h) ≡ false → refusal_for network h.frame ≡ 0 → ⊥
  unfolding rank_of
  refused e = eqb-false _ _ e

  is_ours : ours (rank_of network h) ≡ true → Ours network h
  unfolding refusal_for
  is_ours e =
      let n = either_refusal h.frame in
      let none = none-holds (reasons_for network h.frame) (refusing_numbered n, _) (accepted e) in
      record {
        readable = eqb-true n 0 (not-false (eqb n 0) none.0);
        sent = eqb-true _ _ (not-false (eqb (either_in h.frame).network network) none.1.1.0);
      }

pub refused_if_neither : RefusedIfNeither
unfolding chosen_of rank_of
refused_if_neither network a b =
    record {
      either = λ e. rw e;
      neither = λ e.
          let number : (chosen_of network a b).refused ≡ refusal_for network a.frame = rw e in
          (number, λ z. refused network a (neither (ours (rank_of network a)) (ours (rank_of network b)) e).0 (sym number ∙ z));
    }

pub follows-ours : FollowsOurs
follows-ours network a b z =
    let r = rank_of network a in
    let s = rank_of network b in
    let one : (ours r || ours s) ≡ true = by_bool _ (ours r || ours s) (λ e. e) (λ e. absurd (((refused_if_neither network a b).neither e).1 z)) in
    by_bool _ (ranks_above s r)
    (λ e. rw (the_second network a b e) (is_ours network b (above_ours s r e)))
    (λ e. rw (the_first network a b e) (is_ours network a (by_bool _ (ours r) (λ o. o) (λ o. absurd (false≢true (sym e ∙ above_foreign s r (rw o at one) o))))))

pub unread_never_wins : UnreadNeverWins
unread_never_wins network a b o u =
    let r = rank_of network a in
    let s = rank_of network b in
    let foreign : ours s ≡ false = never (ours s) (λ e. u (is_ours network b e).readable) in (
      the_first network a b (never (ranks_above s r) (λ e. false≢true (sym foreign ∙ above_ours s r e))),
      the_second network b a (above_foreign r s o foreign),
    )

-- ---- the slice and the number
small : (network : ℕ) (a b : Heard) → (chosen_of network a b).which ≤ 1
unfolding chosen_of
small network a b = of-cond (λ (n : ℕ). n ≤ 1) (ranks_above (rank_of network b) (rank_of network a)) 1 0 (λ e. omega arith) (λ e. omega arith)

pub hands_back_one : HandsBackOne
unfolding handed_back
hands_back_one network a qualityOfA b qualityOfB z =
    record {
      which = small network (heard a.bytes qualityOfA) (heard b.bytes qualityOfB);
      first = λ w. rw (z, w);
      second = λ w. rw (z, w);
    }
