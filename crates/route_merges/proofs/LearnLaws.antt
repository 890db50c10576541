-- What every row keeps while candidates are learned.
-- Assumes nothing.
use Rattle.octets.proofs.Words.{◌≡◌, sym, ◌∙◌, Bool, true, false, and-false, false≢true, List, [], ◌∷◌, ◌⊎◌, inl, inr, ⊎_elim, ℕ, ◌<◌, arith, eqb-true, ne_eqb, ltb-true, eqb, length}
use Rattle.octets.specs.Lists.{every, Each}
use Rattle.octets.proofs.TestLaws.{of-cond}
use Rattle.octets.proofs.OrderLaws.{put-every}
use Rattle.route_table.specs.declared.row.Row.{Row}
use Rattle.route_table.proofs.HasLaws.{row_for-every}
use Rattle.route_table.specs.Rows.{leading_to, none, usable, withdrawn_at, row_for}
use Rattle.route_merges.specs.declared.candidate.Candidate.{Candidate}
use Rattle.route_merges.specs.Candidates.{bad}
use Rattle.route_merges.specs.Learning.{put, row_by, gives_way, taken_back, Learned, met, new_to, learn, learn_all}

module _ (P : List Row → Type 0) (via time : ℕ) where
  -- rows change only by the candidate's own row, where its destination has a row or there is room for one, or by one that is taken back
  pub by-learn : (c : Candidate) (l : Learned) → P l.rows
      → (bad c ≡ false → ((row_for c.destination l.rows).destination ≡ c.destination) ⊎ (length l.rows < 48) → P (put (row_by via time c) l.rows))
      → ((row_for c.destination l.rows).destination ≡ c.destination → taken_back via time (row_for c.destination l.rows) ≡ true
      → P (put (withdrawn_at time (row_for c.destination l.rows)) l.rows))
      → P (learn via time c l).rows
  unfolding learn
  by-learn c l same new back =
      let r = row_for c.destination l.rows in
      let Q : Learned → Type 0 = λ x. P x.rows in
      of-cond Q (eqb r.destination c.destination) (met via time c r l) (new_to via time c l)
      (λ e.
      let there = eqb-true r.destination c.destination e in
      of-cond Q (bad c) _ _
      (λ b. of-cond Q (taken_back via time r) _ _ (back there) (λ k. same))
      (λ b. of-cond Q (gives_way via time c r) _ _ (λ k. new b (inl there)) (λ k. same)))
      (λ e.
      of-cond Q (bad c) _ _ (λ b. same)
      (λ b. of-cond Q _ _ _ (λ k. new b (inr (ltb-true _ _ k))) (λ k. same)))

  -- what each candidate keeps, all of them keep
  pub by-learn_all : (K : Candidate → Type 0) → ((c : Candidate) → K c → (l : Learned) → P l.rows → P (learn via time c l).rows)
      → (cs : List Candidate) → Each K cs → (l : Learned) → P l.rows → P (learn_all via time cs l).rows
  by-learn_all K h [] k l p = p
  by-learn_all K h (c ∷ cs) k l p = by-learn_all K h cs k.1 (learn via time c l) (h c k.0 l p)

-- a test that a candidate's row keeps, and that a row keeps when it is withdrawn
pub record Kept (test : Row → Bool) (via time : ℕ) (c : Candidate) : Type 0 where
  pub new : bad c ≡ false → test (row_by via time c) ≡ true
  pub back : (r : Row) → test r ≡ true → test (withdrawn_at time r) ≡ true

module _ (test : Row → Bool) (via time : ℕ) (v : 0 < via) where
  pub learn-every : (c : Candidate) → Kept test via time c → (l : Learned) → every test l.rows ≡ true → every test (learn via time c l).rows ≡ true
  learn-every c k l e =
      by-learn (λ rs. every test rs ≡ true) via time c l e (λ b room. put-every leading_to test (row_by via time c) l.rows (k.new b) e)
      (λ there t.
      ⊎_elim (λ h. put-every leading_to test _ l.rows (k.back _ h) e) (λ z. absurd (false≢true (sym (none_back (row_for c.destination l.rows) z) ∙ t)))
      (row_for-every test c.destination l.rows e))
    where
      none_back : (r : Row) → r ≡ none → taken_back via time r ≡ false
      none_back r z = rw (z, ne_eqb 0 via (omega arith)) (and-false (usable time none))

  pub learn_all-every : (cs : List Candidate) → Each (Kept test via time) cs → (l : Learned) → every test l.rows ≡ true
      → every test (learn_all via time cs l).rows ≡ true
  learn_all-every = by-learn_all (λ rs. every test rs ≡ true) via time (Kept test via time) learn-every
