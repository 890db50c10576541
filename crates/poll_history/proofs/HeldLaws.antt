-- The theorems of polls, of the buffers that firmware holds.
-- Assumes nothing.
use Rattle.octets.proofs.Words.{◌≡◌, refl, sym, ap, ◌∙◌, Bool, true, false, not, cond, List, [], ◌∷◌, ℕ, arith, eqb, length}
use Rattle.octets.specs.Addresses.{address}
use Rattle.octets.specs.Calls.{stored}
use Rattle.octets.specs.Layouts.{Bytes}
use Rattle.octets.specs.Lists.{every, Each}
use Rattle.octets.proofs.CallLaws.{after-refused, stored-none}
use Rattle.octets.proofs.NumberLaws.{num_lt}
use Rattle.octets.proofs.OrderLaws.{by_place}
use Rattle.unit_poll.specs.declared.voter.Voter.{Voter}
use Rattle.unit_poll.specs.PollBytes.{poll_in, poll_bytes, WinnerLeft, winner_left, fresh_call, hear_call, winner_call}
use Rattle.unit_poll.specs.Polls.{Poll, poll_rule, fresh_poll, fresh_refusal, voter_in, hear_refusal, with_message, heard_by, winner_of}
use Rattle.unit_poll.specs.Voters.{voter, unit_of, put}
use Rattle.unit_poll.proofs.TripLaws.{VoterFits, Sized, poll_back, poll-held}
use Rattle.poll_history.specs.Held.{buffer_after, taken_in_c, Held, begun, Machine, RefusedLeaves, StaysStored, AlwaysNames, SameLastInC, SameWinnerInC, NeverTwoInC}
use Rattle.poll_history.specs.Histories.{poll_after, taken, last_of, ending, log}
use Rattle.poll_history.proofs.HistoryLaws.{one-rule, keeps_rule, same-winner, never_two}

-- ---- a refused call leaves all as it was
fresh-leaves : (s : List ℕ) (own priority : ℕ) → ((fresh_call s own priority).status ≡ 0 → ⊥) → (fresh_call s own priority).poll ≡ s
unfolding fresh_call
fresh-leaves s own priority n = after-refused (stored 75 s (fresh_refusal own)) s (poll_bytes (fresh_poll own priority)) n

hear-leaves : (s frame : List ℕ) → ((hear_call s frame).status ≡ 0 → ⊥) → (hear_call s frame).poll ≡ s
unfolding hear_call
hear-leaves s frame n = after-refused (hear_call s frame).status s (poll_bytes (heard_by (poll_in s) frame)) n

winner-leaves : (s : List ℕ) (held : ℕ) → ((winner_call s held).status ≡ 0 → ⊥) → (winner_call s held).winner ≡ held
unfolding winner_call
winner-leaves s held n = after-refused (winner_call s held).status held (winner_of (poll_in s)) n

pub refused-leaves : RefusedLeaves
refused-leaves = record { fresh = fresh-leaves; hear = hear-leaves; winner = winner-leaves }

-- ---- numbers keep fitting
message-fits : (s : List ℕ) → Bytes s → VoterFits (voter_in s)
message-fits s b = (num_lt s b 2 1, (num_lt s b 1 3, tt))

put-fits : (w : Voter) (vs : List Voter) → VoterFits w → Each VoterFits vs → Each VoterFits (put w vs)
put-fits w [] h e = (h, tt)
put-fits w (v ∷ vs) h e =
    by_place unit_of (Each VoterFits) w v vs (λ k. (e.0, put-fits w vs h e.1)) (λ k. (h, e.1)) (λ k. (h, e))

sized-heard : (p : Poll) (s : List ℕ) → Bytes s → Sized p → Sized (heard_by p s)
sized-heard p s b z = go (eqb (hear_refusal p s) 0)
  where
    go : (t : Bool) → Sized (cond t (with_message p (voter_in s)) p)
    go true = record { priority = z.priority; others = put-fits (voter_in s) p.others (message-fits s b) z.others }
    go false = z

-- ---- one call on the bytes of a poll
module _ (p : Poll) (s : List ℕ) (e : poll_rule p ≡ true) (z : Sized p) where
  heard-status : (hear_call (poll_bytes p) s).status ≡ hear_refusal p s
  unfolding hear_call
  heard-status = rw (poll-held p e z, poll_back p e z)

  heard-buffer : (hear_call (poll_bytes p) s).poll ≡ poll_bytes (heard_by p s)
  unfolding hear_call
  heard-buffer = rw (poll-held p e z, poll_back p e z) (go (eqb (hear_refusal p s) 0))
    where
      go : (t : Bool) → cond t (poll_bytes (cond t (with_message p (voter_in s)) p)) (poll_bytes p) ≡ poll_bytes (cond t (with_message p (voter_in s)) p)
      go true = refl
      go false = refl

-- ---- any frames
all-stored : (p : Poll) (ss : List (List ℕ)) → poll_rule p ≡ true → Sized p → Each Bytes ss
    → (buffer_after (poll_bytes p) ss ≡ poll_bytes (poll_after p ss)) × (taken_in_c (poll_bytes p) ss ≡ taken p ss)
all-stored p [] e z b = (refl, refl)
all-stored p (s ∷ ss) e z b =
    let (held, said) = all-stored (heard_by p s) ss (one-rule p s e) (sized-heard p s b.0 z) b.1 in (
      rw (heard-buffer p s e z) held,
      rw (heard-buffer p s e z, heard-status p s e z, said),
    )

-- ---- from a fresh poll on
module _ (h : Held) (m : Machine h) where
  abbrev own : ℕ
  own = h.course.own

  fresh-none : (eqb (length h.buffer) 75 ≡ true) × (fresh_refusal own ≡ 0)
  unfolding fresh_call
  fresh-none = stored-none (eqb (length h.buffer) 75) (fresh_refusal own) m.accepted

  pub fresh-address : address own ≡ true
  fresh-address = go (address own) fresh-none.1
    where
      go : (b : Bool) → cond {A = ℕ} (not b) 4 0 ≡ 0 → b ≡ true
      go true q = refl
      go false q = absurd (omega arith)

  fresh-buffer : begun h ≡ poll_bytes (fresh_poll own h.course.priority)
  unfolding fresh_call
  fresh-buffer = rw (fresh-none.0, fresh-none.1)

  fresh-rule : poll_rule (fresh_poll own h.course.priority) ≡ true
  unfolding every
  fresh-rule = rw fresh-address

  fresh-sized : Sized (fresh_poll own h.course.priority)
  fresh-sized = record { priority = m.priority; others = tt }

  all : (buffer_after (begun h) h.course.frames ≡ poll_bytes (ending h.course)) × (taken_in_c (begun h) h.course.frames ≡ taken (fresh_poll own h.course.priority) h.course.frames)
  all = rw fresh-buffer (all-stored (fresh_poll own h.course.priority) h.course.frames fresh-rule fresh-sized m.frames)

  ended-sized : Sized (ending h.course)
  ended-sized = go (fresh_poll own h.course.priority) h.course.frames fresh-sized m.frames
    where
      go : (p : Poll) (ss : List (List ℕ)) → Sized p → Each Bytes ss → Sized (poll_after p ss)
      go p [] z b = z
      go p (s ∷ ss) z b = go (heard_by p s) ss (sized-heard p s b.0 z) b.1

pub stays_stored : StaysStored
stays_stored h m = ((all h m).0, ap (λ l. voter h.course.own h.course.priority ∷ l) (all h m).1)

pub always_names : AlwaysNames
unfolding winner_call
always_names h m held =
    let rule = keeps_rule h.course (fresh-address h m) in
    let z = ended-sized h m in
    rw ((all h m).0, poll-held (ending h.course) rule z, poll_back (ending h.course) rule z)

-- the last messages by the statuses are those of the course
last-same : (a b : Held) → Machine a → Machine b → SameLastInC a b → (u : ℕ) → last_of u (log a.course) ≡ last_of u (log b.course)
last-same a b ma mb same u = sym (ap (last_of u) (stays_stored a ma).1) ∙ (same u ∙ ap (last_of u) (stays_stored b mb).1)

pub same-winner-in-c : SameWinnerInC
same-winner-in-c a b ma mb same held other =
    always_names a ma held
    ∙ (ap (winner_left 0) (same-winner a.course b.course (fresh-address a ma) (fresh-address b mb) (last-same a b ma mb same)) ∙ sym (always_names b mb other))

pub never_two_in_c : NeverTwoInC
never_two_in_c a b ma mb held other na nb apart same =
    never_two a.course b.course (fresh-address a ma) (fresh-address b mb)
    (sym (ap (λ (w : WinnerLeft). w.winner) (always_names a ma held)) ∙ na)
    (sym (ap (λ (w : WinnerLeft). w.winner) (always_names b mb other)) ∙ nb) apart (last-same a b ma mb same)
