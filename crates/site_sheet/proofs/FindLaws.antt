-- What is in lists: what each element gives, and the first of those that are named.
-- Assumes nothing.
use Rattle.octets.proofs.Words.{◌≡◌, refl, sym, ap, subst, Bool, true, false, and-eq-true_iff, List, [], ◌∷◌, Memᴰ, mem_head, mem_tail, ⊎_elim, ◌≤◌, arith, eq-eqb, ltb-true, ltb-false, leb-true, leb-false, eqb-true, eqb, leb, ltb}
use mathlib.Core.List.Memᴰ
use Rattle.octets.proofs.TestLaws.{or_elim, neither, of-cond}
use Rattle.site_sheet.specs.Verdicts.{Named, gather, only, up_to, Found, nobody, found, sooner, soonest}

-- ---- what each gives
module _ {A : Type 0} (f : A → List Named) where
  pub in_gather : (l : List A) {n : Named} → Memᴰ n (gather f l) → (a : A) × Memᴰ a l × Memᴰ n (f a)
  unfolding gather
  in_gather (x ∷ l) m =
      ⊎_elim (λ k. (x, mem_head refl, k)) (λ k. let (a, there, given) = in_gather l k in (a, mem_tail there, given))
      (Memᴰ.append_cases (f x) m)
  in_gather [] {n = n} m = elim m [ ]

  pub gather_in : (l : List A) {a : A} {n : Named} → Memᴰ a l → Memᴰ n (f a) → Memᴰ n (gather f l)
  unfolding gather
  gather_in (x ∷ l) {a} {n} (mem_head e) k = Memᴰ.append_left (gather f l) (subst (λ (y : A). Memᴰ n (f y)) e k)
  gather_in (x ∷ l) {a} {n} (mem_tail m) k = Memᴰ.append_right (f x) (gather_in l m k)
  gather_in [] {a = a} {n = n} x'' k = elim x'' [ ]

pub in_only : (test : Bool) (m : Named) {n : Named} → Memᴰ n (only test m) → (test ≡ true) × (n ≡ m)
in_only true m k = (refl, Memᴰ.eq_of_singleton k)
in_only false m {n = n} k = elim k [ ]

pub only_in : (test : Bool) (m : Named) → test ≡ true → Memᴰ m (only test m)
only_in test m e = rw e (mem_head refl)

-- ---- the first of those that are named
-- the lower unit is not above the other's, and where they are one the higher is not
pub record UpTo (m n : Named) : Type 0 where
  pub lower : m.lower ≤ n.lower
  pub higher : m.lower ≡ n.lower → m.higher ≤ n.higher

module _ (m n : Named) where
  up_to-says : up_to m n ≡ true → UpTo m n
  up_to-says e =
      or_elim _ (ltb m.lower n.lower) _ e
      (λ t. let l = ltb-true m.lower n.lower t in record { lower = omega arith; higher = λ q. absurd (omega (arith, l, q)) })
      (λ t.
      let (p, q) = (and-eq-true_iff (eqb m.lower n.lower) (leb m.higher n.higher)).0 t in
      record { lower = omega (arith, eqb-true m.lower n.lower p); higher = λ _. leb-true m.higher n.higher q })

  or_back : up_to m n ≡ false → UpTo n m
  or_back e =
      let (above, apart) = neither (ltb m.lower n.lower) _ e in
      record {
        lower = omega (arith, ltb-false m.lower n.lower above);
        higher = λ q. let t = rw (eq-eqb m.lower n.lower (sym q)) at apart in omega (arith, leb-false m.higher n.higher t);
      }

  same-up-to : n ≡ m → UpTo m n
  same-up-to e = record { lower = omega (arith, ap (λ (x : Named). x.lower) e); higher = λ _. omega (arith, ap (λ (x : Named). x.higher) e) }

up_to-on : {l m n : Named} → UpTo l m → UpTo m n → UpTo l n
up_to-on p q =
    let low = p.lower in
    let low' = q.lower in
    record {
      lower = omega (arith, low, low');
      higher = λ e. omega (arith, p.higher (omega (arith, low, low', e)), q.higher (omega (arith, low, low', e)));
    }

-- nobody is found where nobody is named; who is found is named, and up to everybody who is
abbrev pub Leads : Found → List Named → Type 0
Leads nobody l = (n : Named) → Memᴰ n l → ⊥
Leads (found m) l = Memᴰ m l × ((n : Named) → Memᴰ n l → UpTo m n)

-- who is not behind one more, nor behind the others
in_front : (m x : Named) (l : List Named) → UpTo m x → ((n : Named) → Memᴰ n l → UpTo m n)
    → (n : Named) → Memᴰ n (x ∷ l) → UpTo m n
in_front m x l h others n (mem_head e) = up_to-on h (same-up-to x n e)
in_front m x l h others n (mem_tail k) = others n k

leads_more : (x : Named) (l : List Named) (f : Found) → Leads f l → Leads (found (sooner x f)) (x ∷ l)
leads_more x l nobody h = (mem_head refl, in_front x x l (same-up-to x x refl) (λ n k. absurd (h n k)))
leads_more x l (found y) h =
    of-cond (λ m. Leads (found m) (x ∷ l)) (up_to x y) x y
    (λ q. (mem_head refl, in_front x x l (same-up-to x x refl) (λ n k. up_to-on (up_to-says x y q) (h.1 n k))))
    (λ q. (mem_tail h.0, in_front y x l (or_back x y q) h.1))

pub leads : (l : List Named) → Leads (soonest l) l
unfolding soonest
leads [] = λ n k. Memᴰ.not-nil k
leads (x ∷ l) = leads_more x l (soonest l) (leads l)

pub nobody-found : (l : List Named) → ((n : Named) → Memᴰ n l → ⊥) → soonest l ≡ nobody
unfolding soonest
nobody-found [] h = refl
nobody-found (x ∷ l) h = absurd (h x (mem_head refl))
