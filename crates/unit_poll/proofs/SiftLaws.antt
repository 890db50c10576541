-- A message sifted into the places of ascending others is put among them.
-- Assumes nothing.
use Rattle.octets.proofs.Words.{◌≡◌, refl, sym, ap, ◌∙◌, Bool, true, false, not, ◌&&◌, and-eq-true_iff, false≢true, List, [], ◌∷◌, ◌++◌, suc, ◌-◌, ◌≤◌, ◌<◌, ℕ_discrete, dec_lt, arith, eq-eqb, ne_eqb, le-leb, lt-ltb, le-ltb, ltb-true, leb, ltb, length, replicate}
use Rattle.octets.specs.Lists.{every}
use Rattle.octets.proofs.OrderLaws.{ascending-rest, put_above, put_same, put-below}
use Rattle.unit_poll.specs.declared.voter.Voter.{Voter}
use Rattle.unit_poll.specs.Places.{sifted}
use Rattle.unit_poll.specs.PollBytes.{pad}
use Rattle.unit_poll.specs.Voters.{none, unit_of, ascending, known, put}

-- a place is in use
abbrev pub used : Voter → Bool
used v = ltb 0 v.unit

ascending-step : (v w : Voter) (vs : List Voter) → ascending (v ∷ w ∷ vs) ≡ true → v.unit < w.unit
ascending-step v w vs e = ltb-true _ _ ((and-eq-true_iff (ltb v.unit w.unit) (ascending (w ∷ vs))).0 e).0

-- once it is at its end every place stays
sifted-done : (w : Voter) (vs : List Voter) → sifted true w vs ≡ vs
sifted-done w [] = refl
sifted-done w (v ∷ vs) = ap (λ l. v ∷ l) (sifted-done w vs)

-- ---- one step over a place
module _ (w v : Voter) (vs : List Voter) (u : 0 < v.unit) where
  sifted_above : v.unit < w.unit → sifted false w (v ∷ vs) ≡ v ∷ sifted false w vs
  sifted_above h = rw (lt-ltb 0 v.unit u, lt-ltb v.unit w.unit h)

  sifted-same : v.unit ≡ w.unit → sifted false w (v ∷ vs) ≡ w ∷ vs
  sifted-same e = rw (lt-ltb 0 v.unit u, le-ltb v.unit w.unit (omega arith), ne_eqb v.unit 0 (omega arith), eq-eqb v.unit w.unit e, sifted-done v vs)

  sifted-below : w.unit < v.unit → sifted false w (v ∷ vs) ≡ w ∷ sifted false v vs
  sifted-below h = rw (lt-ltb 0 v.unit u, le-ltb v.unit w.unit (omega arith), ne_eqb v.unit 0 (omega arith), ne_eqb v.unit w.unit (omega arith))

sifted-free : (w : Voter) (vs : List Voter) → sifted false w (none ∷ vs) ≡ w ∷ vs
sifted-free w vs = ap (λ l. w ∷ l) (sifted-done none vs)

parted : (v : Voter) (vs : List Voter) → every used (v ∷ vs) ≡ true → (0 < v.unit) × (every used vs ≡ true)
unfolding every
parted v vs e =
    let (here, later) = (and-eq-true_iff (used v) (every used vs)).0 e in
    (ltb-true 0 v.unit here, later)

-- one below all of some that ascend moves each of them up
moved : (w : Voter) (vs zs : List Voter) → ascending (w ∷ vs) ≡ true → every used vs ≡ true → sifted false w (vs ++ (none ∷ zs)) ≡ w ∷ (vs ++ zs)
moved w [] zs a u = sifted-free w zs
moved w (v ∷ vs) zs a u =
    let (here, later) = parted v vs u in
    sifted-below w v (vs ++ (none ∷ zs)) here (ascending-step w v vs a) ∙ ap (λ (l : List Voter). w ∷ l) (moved v vs zs (ascending-rest unit_of w (v ∷ vs) a) later)

-- a unit that has none takes a free place
sifted-new : (w : Voter) (vs zs : List Voter) → ascending vs ≡ true → every used vs ≡ true → known w.unit vs ≡ false
    → (sifted false w (vs ++ (none ∷ zs)) ≡ put w vs ++ zs) × (length (put w vs) ≡ suc (length vs))
sifted-new w [] zs a u k = (sifted-free w zs, refl)
sifted-new w (v ∷ vs) zs a u k = go (dec_lt v.unit w.unit) (ℕ_discrete v.unit w.unit) (parted v vs u) (sifted-new w vs zs (ascending-rest unit_of v vs a))
  where
    other : (v.unit ≡ w.unit → ⊥) → known w.unit vs ≡ false
    other n = rw (ne_eqb v.unit w.unit n) at k

    go : Dec (v.unit < w.unit) → Dec (v.unit ≡ w.unit) → (0 < v.unit) × (every used vs ≡ true)
        → (every used vs ≡ true → known w.unit vs ≡ false → (sifted false w (vs ++ (none ∷ zs)) ≡ put w vs ++ zs) × (length (put w vs) ≡ suc (length vs)))
        → (sifted false w (v ∷ (vs ++ (none ∷ zs))) ≡ put w (v ∷ vs) ++ zs) × (length (put w (v ∷ vs)) ≡ suc (suc (length vs)))
    go (yes h) q (here, later) ih =
        let (s, n) = ih later (other (λ e. omega arith)) in
        (rw (sifted_above w v (vs ++ (none ∷ zs)) here h, put_above unit_of w v vs h, s), rw (put_above unit_of w v vs h, n))
    go (no h) (yes e) p ih = absurd (false≢true (sym k ∙ rw (eq-eqb v.unit w.unit e)))
    go (no h) (no e) (here, later) ih =
        let b : w.unit < v.unit = omega arith in
        (rw (sifted-below w v (vs ++ (none ∷ zs)) here b, put-below unit_of w v vs b, moved v vs zs a later), rw (put-below unit_of w v vs b))

-- no unit below the first of some that ascend has one
unknown : (w v : Voter) (vs : List Voter) → ascending (v ∷ vs) ≡ true → w.unit < v.unit → known w.unit vs ≡ false
unknown w v [] p b = refl
unknown w v (x ∷ vs) p b =
    let c : w.unit < x.unit = omega (arith, ascending-step v x vs p) in
    rw (ne_eqb x.unit w.unit (omega arith)) (unknown w x vs (ascending-rest unit_of v (x ∷ vs) p) c)

-- a unit that has one keeps its place
sifted-known : (w : Voter) (vs zs : List Voter) → ascending vs ≡ true → every used vs ≡ true → known w.unit vs ≡ true
    → (sifted false w (vs ++ zs) ≡ put w vs ++ zs) × (length (put w vs) ≡ length vs)
sifted-known w [] zs a u k = absurd (false≢true k)
sifted-known w (v ∷ vs) zs a u k = go (dec_lt v.unit w.unit) (ℕ_discrete v.unit w.unit) (parted v vs u) (sifted-known w vs zs (ascending-rest unit_of v vs a))
  where
    other : (v.unit ≡ w.unit → ⊥) → known w.unit vs ≡ true
    other n = rw (ne_eqb v.unit w.unit n) at k

    go : Dec (v.unit < w.unit) → Dec (v.unit ≡ w.unit) → (0 < v.unit) × (every used vs ≡ true)
        → (every used vs ≡ true → known w.unit vs ≡ true → (sifted false w (vs ++ zs) ≡ put w vs ++ zs) × (length (put w vs) ≡ length vs))
        → (sifted false w (v ∷ (vs ++ zs)) ≡ put w (v ∷ vs) ++ zs) × (length (put w (v ∷ vs)) ≡ suc (length vs))
    go (yes h) q (here, later) ih =
        let (s, n) = ih later (other (λ e. omega arith)) in
        (rw (sifted_above w v (vs ++ zs) here h, put_above unit_of w v vs h, s), rw (put_above unit_of w v vs h, n))
    go (no h) (yes e) (here, later) ih = (rw (sifted-same w v (vs ++ zs) here e, put_same unit_of w v vs e), rw (put_same unit_of w v vs e))
    go (no h) (no e) (here, later) ih =
        let b : w.unit < v.unit = omega arith in
        absurd (false≢true (sym (unknown w v vs a b) ∙ other e))

-- in the 24 places: where the unit has one, or there is room
pub sifted-pad : (w : Voter) (vs : List Voter) → ascending vs ≡ true → every used vs ≡ true → length vs ≤ 24 → (not (known w.unit vs) && leb 24 (length vs)) ≡ false
    → (sifted false w (pad vs) ≡ pad (put w vs)) × (length (put w vs) ≤ 24)
unfolding pad
sifted-pad w vs a u few h = go (known w.unit vs) refl (dec_lt (length vs) 24)
  where
    go : (b : Bool) → known w.unit vs ≡ b → Dec (length vs < 24)
        → (sifted false w (vs ++ replicate (24 - length vs) none) ≡ put w vs ++ replicate (24 - length (put w vs)) none) × (length (put w vs) ≤ 24)
    go true k d =
        let (s, n) = sifted-known w vs (replicate (24 - length vs) none) a u k in
        (rw n s, omega (arith, n, few))
    go false k (yes r) =
        let free : 24 - length vs ≡ suc (24 - suc (length vs)) = omega arith in
        let (s, n) = sifted-new w vs (replicate (24 - suc (length vs)) none) a u k in
        (rw (n, free) s, omega (arith, n, r))
    go false k (no r) = absurd (false≢true (sym h ∙ rw (k, le-leb 24 (length vs) (omega arith))))
