-- The correction of a drift: on each side of its two limits, and what it leaves of the drift.
-- Assumes nothing.
use Rattle.octets.proofs.Words.{◌≡◌, refl, sym, ap, subst, Bool, true, false, ℕ, zero, suc, ◌-◌, ◌/◌, ◌≤◌, ◌<◌, arith, lt-ltb, le-ltb, ltb-true, ltb-false, ltb}
use Rattle.std.proofs.Common.{ℤ, pos, negsuc, ◌-ℤ◌, neg_ℤ, nat_abs}
use lib.IntN.{neg_ℤ-neg_ℤ, +ℤ_invr, +ℤ_idr}
use Rattle.unit_clock.specs.Clock.{halved, correction}

-- ---- how much is taken
module _ (d : ℤ) (size : ℕ) (e : size ≡ nat_abs d) where
  pub hard : 100 < size → correction d ≡ d
  unfolding correction
  hard h = rw (lt-ltb 100 (nat_abs d) (omega arith))

  pub by-half : size ≤ 100 → 50 < size → correction d ≡ halved d
  unfolding correction
  by-half h k = rw (le-ltb 100 (nat_abs d) (omega arith), lt-ltb 50 (nat_abs d) (omega arith))

  pub kept : size ≤ 50 → correction d ≡ pos 0
  unfolding correction
  kept h = rw (le-ltb 100 (nat_abs d) (omega arith), le-ltb 50 (nat_abs d) (omega arith))

-- ---- what is left
-- the second of two numbers lies between zero and the first
pub data Within : ℤ → ℤ → Type 0 where
  none : {d : ℤ} → Within d (pos 0)
  ahead : (m n : ℕ) → m ≤ n → Within (pos n) (pos m)
  behind : (m n : ℕ) → m ≤ n → Within (negsuc n) (negsuc m)

itself : (d : ℤ) → Within d d
itself (pos n) = ahead n n (omega arith)
itself (negsuc n) = behind n n (omega arith)

less_ahead : (n k : ℕ) → k ≤ n → pos n -ℤ pos k ≡ pos (n - k)
less_ahead n zero h = ap pos (omega arith)
less_ahead n (suc k) h = rw (le-ltb n (suc k) h)

less_behind : (n k : ℕ) → k ≤ n → negsuc n -ℤ neg_ℤ (pos k) ≡ negsuc (n - k)
less_behind n k h = rw (neg_ℤ-neg_ℤ (pos k), lt-ltb k (suc n) (omega arith)) (ap negsuc (omega arith))

half-left : (d : ℤ) → Within d (d -ℤ halved d)
unfolding halved
half-left (pos n) = subst (Within (pos n)) (sym (less_ahead n (n / 2) (omega arith))) (ahead _ n (omega arith))
half-left (negsuc n) = subst (Within (negsuc n)) (sym (less_behind n (suc n / 2) (omega arith))) (behind _ n (omega arith))

pub left-within : (d : ℤ) → Within d (d -ℤ correction d)
left-within d = go (ltb 100 (nat_abs d)) (ltb 50 (nat_abs d)) refl refl
  where
    go : (a b : Bool) → ltb 100 (nat_abs d) ≡ a → ltb 50 (nat_abs d) ≡ b → Within d (d -ℤ correction d)
    go true b x y = rw (hard d _ refl (ltb-true 100 (nat_abs d) x), +ℤ_invr d) none
    go false true x y = rw (by-half d _ refl (ltb-false 100 (nat_abs d) x) (ltb-true 50 (nat_abs d) y)) (half-left d)
    go false false x y = rw (kept d _ refl (ltb-false 50 (nat_abs d) y), +ℤ_idr d) (itself d)
