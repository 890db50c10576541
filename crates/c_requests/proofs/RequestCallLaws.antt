-- The calls on a request to join and on one for slots, from what the core answers.
-- Assumes nothing.
use Rattle.std.proofs.Common.{Result, Ok, Err, IfOk}
use Rattle.octets.proofs.Words.{◌≡◌, refl, sym, ap, ◌∙◌, List, ℕ, ℕ_discrete, ◌≤◌, arith, eq-eqb, ne_eqb, eqb, length, sets}
use Rattle.octets.specs.Calls.{after}
use Rattle.octets.proofs.CallLaws.{after-refused}
use Rattle.octets.proofs.StoreLaws.{sets-whole}
use Rattle.octets.specs.declared.refusals.Refusal.{Refusal}
use Rattle.octets.proofs.TestLaws.{of_choice}
use Rattle.slot_sets.specs.Sets.{Slots}
use Rattle.slot_sets.proofs.CountLaws.{count_fits}
use Rattle.book.specs.Books.{Contents, contents}
use Rattle.book_joins.specs.declared.grants.Granted.{Granted}
use Rattle.book_joins.specs.Joins.{Answered, answered_by, grants, join_of, ask_of}
use Rattle.book_joins.proofs.ResponseLaws.{length-responses}
use Rattle.book_bytes.specs.BookBytes.{book_size, bytes_of_book}
use Rattle.c_requests.specs.RequestCalls.{request_left, answered_to}

-- an answer that leaves a buffer alone where it refuses, and has at most a response for the control slot and for each of 64 data slots
pub record Short (out : List ℕ) (a : Answered) : Type 0 where
  pub kept : (a.refused ≡ 0 → ⊥) → a.held ≡ out
  pub written : a.written ≤ 845

grants_short : (refused : ℕ) (b : Contents) (unit time at : ℕ) (own : Slots 64) (out : List ℕ) → Short out (grants refused b unit time at own out)
grants_short refused b unit time at own out =
    record {
      kept = λ z. after-refused refused out _ z;
      written = of_choice (λ n. n ≤ 845) (eqb refused 0) (omega (arith, length-responses b.plan unit time at own, count_fits 64 own)) (omega arith);
    }

module _ (b : Contents) (frame : List ℕ) (time : ℕ) (out : List ℕ) where
  pub join_short_lem : Short out (join_of b frame time out)
  unfolding join_of
  join_short_lem = grants_short _ b _ time _ _ out

  pub ask_short_lem : Short out (ask_of b frame time out)
  unfolding ask_of
  ask_short_lem = grants_short _ b _ time _ _ out

pub few-written : (out : List ℕ) (a : Answered) → Short out a → (b : Contents) (next : Result Granted Refusal) (held : List ℕ) → answered_by b next held ≡ a → IfOk next (λ g. g.written ≤ 845)
few-written out a h b (Ok g) held e = omega (arith, ap (λ (x : Answered). x.written) e, h.written)
few-written out a h b (Err r) held e = tt

-- what is granted, written where the book is
pub stored : (b : Contents) (held s last : List ℕ) (written : ℕ) (next : Result Granted Refusal) (g : Granted) → next ≡ Ok g → length s ≡ book_size → length (bytes_of_book (contents g.book)) ≡ book_size
    → last ≡ sets s 0 (bytes_of_book (contents g.book)) → let a = answered_by b next held in
    request_left 0 last held g.written ≡ request_left a.refused (after a.refused s (bytes_of_book a.book)) held (after a.refused written a.written)
stored b held s last written next g e l r p =
    rw (e, p, sets-whole s (bytes_of_book (contents g.book)) (r ∙ sym l))

same_held : (b : Contents) (next : Result Granted Refusal) (held : List ℕ) → held ≡ (answered_by b next held).held
same_held b (Ok g) held = refl
same_held b (Err r) held = refl

-- ---- what a call leaves whose answer is `a`
module _ (s out : List ℕ) (written : ℕ) (a : Answered) where
  pub no_book_lem : (length s ≡ book_size → ⊥) → request_left 14 s out written ≡ answered_to s out written a
  no_book_lem e = rw (ne_eqb (length s) book_size e)

  -- the last fact is what `settle` ensures
  pub settled : Short out a → (b : Contents) (next : Result Granted Refusal) (held : List ℕ) → answered_by b next held ≡ a → length s ≡ book_size
      → (last : List ℕ) (status said : ℕ) → let g = answered_by b next held in
      request_left status last held said ≡ request_left g.refused (after g.refused s (bytes_of_book g.book)) held (after g.refused written g.written)
      → request_left status last held said ≡ answered_to s out written a
  settled h b next held e l last status said w =
      let kept : held ≡ after a.refused out a.held = by_cases (ℕ_discrete a.refused 0) in
      w ∙ rw (e, eq-eqb (length s) book_size l, kept)
    where
      by_cases : Dec (a.refused ≡ 0) → held ≡ after a.refused out a.held
      by_cases (yes z) = same_held b next held ∙ (ap (λ (x : Answered). x.held) e ∙ rw z)
      by_cases (no z) = same_held b next held ∙ (ap (λ (x : Answered). x.held) e ∙ (h.kept z ∙ rw (ne_eqb a.refused 0 z)))
