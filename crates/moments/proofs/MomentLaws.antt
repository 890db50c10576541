-- Times modulo 2^32: ages are below it, ages over two steps forward add up, and what follows from that about order.
-- Assumes nothing.
use Rattle.std.proofs.Common.{◌≡◌, ℕ, ◌+◌, ◌%◌, ◌^◌, ◌<◌, ◌≤◌, true, false, arith, ltb-false, ltb-true, lt-ltb}
use Rattle.moments.specs.Moments.{age_at, in_order}

-- ---- one step
-- ages have 32 bits,
pub age_bound : (time happened : ℕ) → age_at time happened < 2 ^ 32
unfolding age_at
age_bound time happened = omega arith

-- and lead from one time to the other
pub leads : (time happened : ℕ) → (age_at time happened + happened) % 2 ^ 32 ≡ time % 2 ^ 32
unfolding age_at
leads time happened = omega arith

-- the number below 2^32 that leads from one time to another is the age
pub is_age : (now then r : ℕ) → now < 2 ^ 32 → then < 2 ^ 32 → r < 2 ^ 32 → (r + then) % 2 ^ 32 ≡ now → r ≡ age_at now then
is_age now then r n t b e = omega (arith, leads now then, age_bound now then)

-- ---- no step
-- what happens has no age
pub no_age : (t : ℕ) → age_at t t ≡ 0
unfolding age_at
no_age t = omega arith

pub in_order_self : (t : ℕ) → in_order t t ≡ true
unfolding in_order
in_order_self t = lt-ltb (age_at t t) (2 ^ 31) (omega (arith, no_age t))

-- ---- order is an age below half of the way round
-- what is less than half of the way old is in order
pub young_in_order : (time happened limit : ℕ) → limit < 2 ^ 31 → age_at time happened ≤ limit → in_order happened time ≡ true
unfolding in_order
young_in_order time happened limit l h = lt-ltb (age_at time happened) (2 ^ 31) (omega arith)

-- what is not in order is half of the way old or more
pub not-in_order : (happened time : ℕ) → in_order happened time ≡ false → 2 ^ 31 ≤ age_at time happened
unfolding in_order
not-in_order happened time e = ltb-false (age_at time happened) (2 ^ 31) e

-- ---- two steps
-- ages add up over two steps forward
add-up : (a b c : ℕ) → age_at b a < 2 ^ 31 → age_at c b < 2 ^ 31 → age_at c a ≡ age_at c b + age_at b a
unfolding age_at
add-up a b c p q = omega arith

pub ages_add : (a b c : ℕ) → in_order a b ≡ true → in_order b c ≡ true → age_at c a ≡ age_at c b + age_at b a
unfolding in_order
ages_add a b c p q = add-up a b c (ltb-true (age_at b a) (2 ^ 31) p) (ltb-true (age_at c b) (2 ^ 31) q)

-- what happened before two times is no older at the earlier, if the later is in order as well
pub older_on : (happened a b c : ℕ) → in_order happened a ≡ true → in_order a b ≡ true → in_order b c ≡ true → in_order a c ≡ true
    → age_at b happened ≤ age_at c happened
older_on happened a b c h p q r = omega (arith, ages_add happened a b h p, ages_add happened a c h r, ages_add a b c p q)

-- ---- ages since one beginning
-- of two times the one that is no older since a beginning is the earlier, and the ages differ by the step
pub age-between : (began a b : ℕ) → age_at a began ≤ age_at b began → age_at b a + age_at a began ≡ age_at b began
unfolding age_at
age-between began a b h = omega arith

-- a step forward, from a time that is in order with the beginning, leads to one that is no younger since then
pub in_turn_lem : (began a b : ℕ) → in_order began a ≡ true → in_order a b ≡ true → age_at a began ≤ age_at b began
in_turn_lem began a b p q = omega (arith, ages_add began a b p q)

-- ---- true time
-- the age between two moments less than a turn apart is the time between them
pub true-age : (a b : ℕ) → a ≤ b → b < a + 2 ^ 32 → a + age_at (b % 2 ^ 32) (a % 2 ^ 32) ≡ b
true-age a b h l = omega (arith, leads (b % 2 ^ 32) (a % 2 ^ 32), age_bound (b % 2 ^ 32) (a % 2 ^ 32))
