-- Whole numbers modulo 2^32, and numbers of 32 bits read with their sign: a sum goes through, and either is the other's way back.
-- Assumes nothing.
use Rattle.octets.proofs.Words.{◌≡◌, refl, sym, ap, subst, ◌∙◌, Bool, true, false, cond, ℕ, zero, suc, ◌+◌, ◌-◌, ◌%◌, ◌^◌, ◌≤◌, ◌<◌, arith, ltb-true, ltb-false, lt-ltb, le-ltb, ltb}
use Rattle.std.proofs.Common.{ℤ, pos, negsuc, ◌+ℤ◌, ◌-ℤ◌, neg_ℤ, nat_abs, int_div, w32, rules}
use Rattle.std.specs.Int.{cast_signed, cast_unsigned}
use Rattle.std.proofs.lemmas.Int.{of_z-to_z, quot_fits}
use lib.IntN.{sub_ℕ, -ℤ-+ℤ_cancel}
use lib.Signed.{mag}
use Rattle.moments.specs.Moments.{age_at}
use Rattle.moments.proofs.MomentLaws.{age_bound, leads}
use Rattle.unit_clock.specs.Clock.{signed, wrapped, halved}

-- ---- ages
pub same-age : (a b c d : ℕ) → a % 2 ^ 32 ≡ c % 2 ^ 32 → b % 2 ^ 32 ≡ d % 2 ^ 32 → age_at a b ≡ age_at c d
unfolding age_at
same-age a b c d e f = rw (e, f)

-- ---- modulo 2^32
pub wrapped_bound : (z : ℤ) → wrapped z < 2 ^ 32
unfolding wrapped
wrapped_bound (pos n) = omega arith
wrapped_bound (negsuc n) = omega arith

pub above : (n : ℕ) → wrapped (pos n) ≡ n % 2 ^ 32
unfolding wrapped
above n = refl

minus : (size : ℕ) → size ≤ 2 ^ 32 → wrapped (neg_ℤ (pos size)) ≡ (2 ^ 32 - size) % 2 ^ 32
unfolding wrapped
minus zero h = omega arith
minus (suc n) h = omega arith

below : (n : ℕ) → (wrapped (negsuc n) + suc n) % 2 ^ 32 ≡ 0
unfolding wrapped
below n = omega arith

between : (a b : ℕ) → (wrapped (sub_ℕ a b) + b) % 2 ^ 32 ≡ a % 2 ^ 32
between a b = go (ltb a b) refl
  where
    go : (t : Bool) → ltb a b ≡ t → (wrapped (cond t (negsuc (b - suc a)) (pos (a - b))) + b) % 2 ^ 32 ≡ a % 2 ^ 32
    go true e = omega (arith, below (b - suc a), ltb-true a b e)
    go false e = omega (arith, above (a - b), ltb-false a b e)

-- two numbers that lead to one place by the same way are the same
pub cancel : (r s way : ℕ) → r < 2 ^ 32 → (r + way) % 2 ^ 32 ≡ (s + way) % 2 ^ 32 → r ≡ s % 2 ^ 32
cancel r s way h e = omega arith

both_below : (a b : ℕ) → wrapped (negsuc (suc (a + b))) ≡ (wrapped (negsuc a) + wrapped (negsuc b)) % 2 ^ 32
both_below a b =
    cancel _ _ (suc (suc (a + b))) (wrapped_bound (negsuc (suc (a + b))))
    (below (suc (a + b)) ∙ sum (wrapped (negsuc a)) (wrapped (negsuc b)) (below a) (below b))
  where
    sum : (x y : ℕ) → (x + suc a) % 2 ^ 32 ≡ 0 → (y + suc b) % 2 ^ 32 ≡ 0 → 0 ≡ (x + y + suc (suc (a + b))) % 2 ^ 32
    sum x y e f = omega arith

wrapped_sum : (a b : ℤ) → wrapped (a +ℤ b) ≡ (wrapped a + wrapped b) % 2 ^ 32
wrapped_sum (pos a) (pos b) = omega (arith, above a, above b, above (a + b))
wrapped_sum (pos a) (negsuc b) = omega (arith, above a, below b, between a (suc b), wrapped_bound (sub_ℕ a (suc b)))
wrapped_sum (negsuc a) (pos b) = omega (arith, below a, above b, between b (suc a), wrapped_bound (sub_ℕ b (suc a)))
wrapped_sum (negsuc a) (negsuc b) = both_below a b

-- a difference leads back
pub leads_back : (a b : ℤ) → (wrapped (a -ℤ b) + wrapped b) % 2 ^ 32 ≡ wrapped a
leads_back a b = sym (wrapped_sum (a -ℤ b) b) ∙ ap wrapped (-ℤ-+ℤ_cancel a b)

-- and is the one number of 32 bits that does
pub is_less : (a b : ℤ) (r : ℕ) → r < 2 ^ 32 → (r + wrapped b) % 2 ^ 32 ≡ wrapped a → r ≡ wrapped (a -ℤ b)
is_less a b r h e = omega (arith, leads_back a b, wrapped_bound (a -ℤ b))

-- an age is a difference
pub age-wrapped : (a b : ℕ) → age_at a b ≡ wrapped (pos a -ℤ pos b)
age-wrapped a b = is_less (pos a) (pos b) (age_at a b) (age_bound a b) (omega (arith, above a, above b, leads a b))

-- ---- with a sign
signed-ahead : (n : ℕ) → n < 2 ^ 31 → signed n ≡ pos n
unfolding signed
signed-ahead n h = rw (lt-ltb n (2 ^ 31) h)

signed-behind : (n : ℕ) → 2 ^ 31 ≤ n → n < 2 ^ 32 → signed n ≡ negsuc (2 ^ 32 - suc n)
unfolding signed
signed-behind n h l = rw (le-ltb n (2 ^ 31) h, lt-ltb n (2 ^ 32) l)

pub signed-wrapped : (z : ℤ) → mag z < 2 ^ 31 → signed (wrapped z) ≡ z
unfolding wrapped
signed-wrapped (pos n) h =
    let same : n % 2 ^ 32 ≡ n = omega arith in
    rw same (signed-ahead n h)
signed-wrapped (negsuc n) h =
    let same : (2 ^ 32 - suc n % 2 ^ 32) % 2 ^ 32 ≡ 2 ^ 32 - suc n = omega arith in
    let back : 2 ^ 32 - suc (2 ^ 32 - suc n) ≡ n = omega arith in
    rw same (signed-behind (2 ^ 32 - suc n) (omega arith) (omega arith) ∙ ap negsuc back)

-- what holds on both sides of half of the way round
of-signed : (P : ℤ → Type 0) (n : ℕ) → n < 2 ^ 32 → (n < 2 ^ 31 → P (pos n)) → (2 ^ 31 ≤ n → P (negsuc (2 ^ 32 - suc n))) → P (signed n)
of-signed P n h p q = go (ltb n (2 ^ 31)) refl
  where
    go : (t : Bool) → ltb n (2 ^ 31) ≡ t → P (signed n)
    go true e = let l = ltb-true n (2 ^ 31) e in subst P (sym (signed-ahead n l)) (p l)
    go false e = let l = ltb-false n (2 ^ 31) e in subst P (sym (signed-behind n l h)) (q l)

pub wrapped-signed : (n : ℕ) → n < 2 ^ 32 → wrapped (signed n) ≡ n
wrapped-signed n h =
    of-signed (λ z. wrapped z ≡ n) n h (λ l. omega (arith, above n))
    (λ l. omega (arith, below (2 ^ 32 - suc n), wrapped_bound (negsuc (2 ^ 32 - suc n))))

pub signed-mag : (n : ℕ) → n < 2 ^ 32 → mag (signed n) < 2 ^ 31
signed-mag n h = of-signed (λ z. mag z < 2 ^ 31) n h (λ l. l) (λ l. omega arith)

-- ---- numbers of 32 bits as the code casts them
cast-signed : (n : ℕ) → n < 2 ^ 32 → cast_signed w32 n ≡ signed n
unfolding signed
cast-signed n h = rw (lt-ltb n (2 ^ 32) h)

cast-wrapped : (z : ℤ) → mag z < 2 ^ 31 → cast_unsigned w32 z ≡ wrapped z
unfolding wrapped
cast-wrapped (pos n) h = omega arith
cast-wrapped (negsuc n) h = omega arith

module _ (bits : ℕ) (drift : ℤ) (h : bits < 2 ^ 32) (e : drift ≡ cast_signed w32 bits) where
  as_cast : cast_signed w32 (cast_unsigned w32 drift) ≡ signed bits
  as_cast = ap (λ z. cast_signed w32 (cast_unsigned w32 z)) e ∙ ap (cast_signed w32) (of_z-to_z w32 bits h) ∙ cast-signed bits h

  pub sized : nat_abs (cast_signed w32 (cast_unsigned w32 drift)) ≡ nat_abs (signed bits)
  sized = ap nat_abs as_cast

  -- half of it, rounded toward zero
  pub half-cast : cast_unsigned w32 (cast_signed w32 (cast_unsigned w32 (int_div (cast_signed w32 (cast_unsigned w32 drift)) (pos 2)))) ≡ wrapped (halved (signed bits))
  unfolding halved
  half-cast =
      let half = int_div (signed bits) (pos 2) in
      let fits : mag half < 2 ^ 31 = (quot_fits w32 (signed bits) (pos 2) (record { sfits = signed-mag bits h }) (search rules)).sfits in
      let same : cast_unsigned w32 half ≡ wrapped half = cast-wrapped half fits in
      ap (λ z. cast_unsigned w32 (cast_signed w32 (cast_unsigned w32 (int_div z (pos 2))))) as_cast
      ∙ of_z-to_z w32 (cast_unsigned w32 half) (omega (arith, wrapped_bound half)) ∙ same
