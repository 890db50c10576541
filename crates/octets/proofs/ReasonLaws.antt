-- Reasons in two parts: those in front, and those behind them.
-- Assumes nothing.
use Rattle.octets.proofs.Words.{◌≡◌, refl, sym, ◌∙◌, Bool, true, false, not, cond, false≢true, List, [], ◌∷◌, ◌++◌, ℕ, ℕ_discrete, eq-eqb, ne_eqb, eqb}
use Rattle.octets.specs.Answers.{Reason, refusing, first}
use Rattle.octets.proofs.AnswerLaws.{Numbered, NoneHolds}

-- those in front as one number
pub first_append : (rs qs : List Reason) → Numbered rs → first (rs ++ qs) ≡ first (refusing (first rs) ∷ qs)
first_append [] qs h = refl
first_append (r ∷ rs) qs h = go r.holds refl (first_append rs qs h.1)
  where
    go : (b : Bool) → r.holds ≡ b → first (rs ++ qs) ≡ first (refusing (first rs) ∷ qs)
        → cond b r.number (first (rs ++ qs)) ≡ cond (not (eqb (cond b r.number (first rs)) 0)) (cond b r.number (first rs)) (first qs)
    go true q e = rw (ne_eqb r.number 0 (λ z. false≢true (sym (rw (eq-eqb r.number 0 z) at h.0) ∙ q)))
    go false q e = e

-- reasons behind others matter only where none of those holds
pub first-behind : (rs qs ps : List Reason) → (NoneHolds rs → first qs ≡ first ps) → first (rs ++ qs) ≡ first (rs ++ ps)
first-behind [] qs ps h = h tt
first-behind (r ∷ rs) qs ps h = go r.holds refl (λ n. first-behind rs qs ps (λ m. h (n, m)))
  where
    go : (b : Bool) → r.holds ≡ b → (r.holds ≡ false → first (rs ++ qs) ≡ first (rs ++ ps))
        → cond b r.number (first (rs ++ qs)) ≡ cond b r.number (first (rs ++ ps))
    go true q e = refl
    go false q e = e q

-- a number that refuses is the first of its own
pub first-refusing : (n : ℕ) → first (refusing n ∷ []) ≡ n
first-refusing n = go (ℕ_discrete n 0)
  where
    go : Dec (n ≡ 0) → first (refusing n ∷ []) ≡ n
    go (yes z) = rw z
    go (no z) = rw (ne_eqb n 0 z)
