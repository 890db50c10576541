-- No update makes more than 48 rows of at most 48: a row in place of another adds none, and a new one is learned only where there is room. So few rows are
-- compared.
-- Assumes nothing.
use Rattle.octets.proofs.Words.{◌≡◌, refl, ap, true, List, [], ◌∷◌, ⊎_elim, ℕ, suc, ◌≤◌, ◌<◌, arith, ne_eqb, length}
use Rattle.octets.specs.Lists.{Each}
use Rattle.octets.proofs.OrderLaws.{by_place, put-length, put-ascending, ascending-rest}
use Rattle.route_table.specs.declared.row.Row.{Row}
use Rattle.route_table.specs.Rows.{leading_to, withdrawn_at, ascending, row_for}
use Rattle.route_merges.specs.declared.candidate.Candidate.{Candidate}
use Rattle.route_merges.specs.Laws.{FewForEach}
use Rattle.route_merges.specs.Learning.{put, row_by, Learned, learn, learn_all}
use Rattle.route_merges.proofs.CompareLaws.{compared-few}
use Rattle.route_merges.proofs.LearnLaws.{by-learn, by-learn_all}
use Rattle.route_merges.proofs.SearchLaws.{none_above}

-- a row that is put where its destination has one adds none
put-there : (w : Row) (d : ℕ) → w.destination ≡ d → 0 < d → (rs : List Row) → ascending rs ≡ true → (row_for d rs).destination ≡ d → length (put w rs) ≡ length rs
put-there w d e p [] a h = absurd (omega arith)
put-there w d e p (r ∷ rs) a h =
    by_place leading_to (λ l. length l ≡ suc (length rs)) w r rs
    (λ low.
    let behind : (row_for d rs).destination ≡ d = rw (ne_eqb r.destination d (omega arith)) at h in
    ap suc (put-there w d e p rs (ascending-rest leading_to r rs a) behind))
    (λ same. refl)
    (λ high. absurd (omega (arith, ap (λ (x : Row). x.destination) (none_above d r rs a (omega arith)))))

-- rows in order, and no more than a table has
abbrev pub Few : List Row → Type 0
Few rs = (ascending rs ≡ true) × (length rs ≤ 48)

learn-few : (via time : ℕ) (c : Candidate) → 0 < c.destination → (l : Learned) → Few l.rows → Few (learn via time c l).rows
learn-few via time c p l (a, h) = (
  by-learn (λ rs. ascending rs ≡ true) via time c l a (λ b room. put-ascending leading_to _ l.rows a) (λ there t. put-ascending leading_to _ l.rows a),
  by-learn (λ rs. length rs ≤ 48) via time c l h
      (λ b room.
      ⊎_elim (λ there. omega (arith, put-there (row_by via time c) c.destination refl p l.rows a there, h))
      (λ k. omega (arith, put-length leading_to (row_by via time c) l.rows, k)) room)
      (λ there t. omega (arith, put-there (withdrawn_at time (row_for c.destination l.rows)) c.destination there p l.rows a there, h)),
)

-- candidates for units
pub learn_all-few : (via time : ℕ) (cs : List Candidate) → Each (λ c. 0 < c.destination) cs → (l : Learned) → Few l.rows → Few (learn_all via time cs l).rows
learn_all-few via time = by-learn_all Few via time (λ c. 0 < c.destination) (learn-few via time)

-- so at most 48 are compared for each
pub few_for_each : FewForEach
few_for_each via time [] u l a h = omega arith
few_for_each via time (c ∷ cs) u l a h =
    let (ascends, fits) = learn-few via time c u.0 l (a, h) in
    let rest = few_for_each via time cs u.1 (learn via time c l) ascends fits in
    omega (arith, compared-few c.destination l.rows, h, rest)
