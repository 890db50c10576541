-- The neighbours of each unit by places: a mask of one place, a link more, and that the masks say who is near whom.
-- Assumes nothing.
use Rattle.octets.proofs.Words.{◌≡◌, refl, sym, ap, ap₂, ◌∙◌, Bool, true, false, not, ◌&&◌, ◌||◌, and-false, or-false, List, ◌∷◌, ℕ, ◌+◌, ◌<◌, ◌≤◌, ℕ_discrete, arith, eq-eqb, ne_eqb, eqb-true, eqb-false, lt-ltb, ltb-true, ltb-false, eqb, ltb, length, get_or, set, get_or-set_same, get_or-set_other, length-set}
use mathlib.Core.Bool.{and_comm}
use Rattle.octets.specs.Lists.{some}
use Rattle.octets.proofs.TestLaws.{by_bool}
use Rattle.slot_sets.specs.Sets.{Slots, slots_of, has, union, minus, firsts}
use Rattle.slot_sets.proofs.SetLaws.{union-has, minus-has, firsts-has}
use Rattle.site_sheet.specs.Seen.{Single, Neighbouring}
use Rattle.site_sheet.specs.Sheets.{Link, joins, linked}

-- ---- one place
below_or_not : (k p : ℕ) → p < 64 → ((ltb k (p + 1) && ltb k 64) && not (ltb k p && ltb k 64)) ≡ eqb k p
below_or_not k p h =
    by_bool _ (ltb k p)
    (λ q.
    let l = ltb-true k p q in
    tests (lt-ltb k (p + 1) (omega (arith, l))) q (lt-ltb k 64 (omega (arith, l, h))) ∙ sym (ne_eqb k p (λ e. omega (arith, l, e))))
    (λ q.
    let l = ltb-false k p q in
    by_bool _ (ltb k (p + 1))
    (λ r. let m = ltb-true k (p + 1) r in tests r q (lt-ltb k 64 (omega (arith, m, h))) ∙ sym (eq-eqb k p (omega (arith, l, m))))
    (λ r. let m = ltb-false k (p + 1) r in tests r q refl ∙ sym (ne_eqb k p (λ e. omega (arith, m, e)))))
  where
    tests : {x y z : Bool} → ltb k (p + 1) ≡ x → ltb k p ≡ y → ltb k 64 ≡ z → ((ltb k (p + 1) && ltb k 64) && not (ltb k p && ltb k 64)) ≡ ((x && z) && not (y && z))
    tests e f g = λ i. (e i && g i) && not (f i && g i)

pub single_as : (p a b w : ℕ) → p < 64 → slots_of a ≡ firsts (p + 1) → slots_of b ≡ firsts p → slots_of w ≡ minus (slots_of a) (slots_of b) → Single p w
single_as p a b w h ea eb ew k =
    ap (λ (s : Slots 64). has s k) ew
    ∙ (minus-has 64 (slots_of a) (slots_of b) k
    ∙ (ap₂ (λ (x y : Bool). x && not y) (ap (λ (s : Slots 64). has s k) ea ∙ firsts-has (p + 1) k) (ap (λ (s : Slots 64). has s k) eb ∙ firsts-has p k)
    ∙ below_or_not k p h))

-- ---- a place more in one mask
pub place_more : (masks : List ℕ) (one other w m : ℕ) → one < length masks → Single other w → slots_of m ≡ union (slots_of (get_or masks one 0)) (slots_of w)
    → (i k : ℕ) → has (slots_of (get_or (set masks one m) i 0)) k ≡ (has (slots_of (get_or masks i 0)) k || (eqb i one && eqb k other))
place_more masks one other w m h single e i k = go (ℕ_discrete i one)
  where
    go : Dec (i ≡ one) → has (slots_of (get_or (set masks one m) i 0)) k ≡ (has (slots_of (get_or masks i 0)) k || (eqb i one && eqb k other))
    go (yes q) =
        rw (q, get_or-set_same masks one m 0 h, e, eq-eqb one one refl) (union-has 64 (slots_of (get_or masks one 0)) (slots_of w) k ∙ ap (λ (b : Bool). has (slots_of (get_or masks one 0)) k || b) (single k))
    go (no q) = rw (get_or-set_other masks one i m 0 q, ne_eqb i one q) (sym (or-false (has (slots_of (get_or masks i 0)) k)))

-- ---- a link more
same_back : (a b : ℕ) → eqb a b ≡ eqb b a
same_back a b = by_bool _ (eqb a b) (λ q. q ∙ sym (eq-eqb b a (sym (eqb-true a b q)))) (λ q. q ∙ sym (ne_eqb b a (λ e. eqb-false a b q (sym e))))

-- the tests of a link in the order of the definition
in_order_lem : (x p q : Bool) → ((x || p) || q) ≡ ((p || q) || x)
in_order_lem true true q = refl
in_order_lem true false true = refl
in_order_lem true false false = refl
in_order_lem false p q = sym (or-false (p || q))

-- a place is that of an end of the link exactly if its unit is
pub record Placed (n : ℕ) (units : ℕ → ℕ) (l : Link) (one other : ℕ) : Type 0 where
  pub one-there : one < n
  pub other-there : other < n
  pub is_one : (i : ℕ) → i < n → eqb i one ≡ eqb (units i) l.one
  pub is_other : (i : ℕ) → i < n → eqb i other ≡ eqb (units i) l.other

module _ (n : ℕ) (units : ℕ → ℕ) (l : Link) (rest : List Link) (masks : List ℕ) (one other : ℕ) where
  pub link_more : Placed n units l one other → n ≤ length masks → Neighbouring rest n units masks → (w m v k : ℕ) → Single other w
      → slots_of m ≡ union (slots_of (get_or masks one 0)) (slots_of w) → Single one v → slots_of k ≡ union (slots_of (get_or (set masks one m) other 0)) (slots_of v)
      → Neighbouring (l ∷ rest) n units (set (set masks one m) other k)
  unfolding linked some
  link_more placed room before w m v k sw em sv ek = record { known = λ i j h. now_known i j h }
    where
      now_known : (i j : ℕ) → i < n → has (slots_of (get_or (set (set masks one m) other k) i 0)) j ≡ (ltb j n && (joins (units i) (units j) l || linked rest (units i) (units j)))
      now_known i j h =
          place_more (set masks one m) other one v k (omega (arith, placed.other-there, room, length-set masks one m)) sv ek i j
          ∙ (ap (λ (b : Bool). b || (eqb i other && eqb j one)) (place_more masks one other w m (omega (arith, placed.one-there, room)) sw em i j)
          ∙ by_bool _ (ltb j n) inside outside)
        where
          inside : ltb j n ≡ true → ((has (slots_of (get_or masks i 0)) j || (eqb i one && eqb j other)) || (eqb i other && eqb j one)) ≡ (ltb j n && (joins (units i) (units j) l || linked rest (units i) (units j)))
          inside q =
              let j-there = ltb-true j n q in
              rw q
              (ap₂ (λ (a : Bool) (b : Bool). (a || b) || (eqb i other && eqb j one)) (before.known i j h ∙ ap (λ (b : Bool). b && linked rest (units i) (units j)) q) (ap₂ ◌&&◌ (placed.is_one i h) (placed.is_other j j-there))
              ∙ (ap (λ (b : Bool). (linked rest (units i) (units j) || (eqb (units i) l.one && eqb (units j) l.other)) || b) (ap₂ ◌&&◌ (placed.is_other i h) (placed.is_one j j-there))
              ∙ (in_order_lem (linked rest (units i) (units j)) (eqb (units i) l.one && eqb (units j) l.other) (eqb (units i) l.other && eqb (units j) l.one)
              ∙ ap₂ (λ (a b : Bool). (a || b) || linked rest (units i) (units j)) (ap₂ ◌&&◌ (same_back (units i) l.one) (same_back (units j) l.other))
              (ap₂ ◌&&◌ (same_back (units i) l.other) (same_back (units j) l.one) ∙ and_comm (eqb l.other (units i)) (eqb l.one (units j))))))

          none : has (slots_of (get_or masks i 0)) j ≡ false → (a b : Bool) → ((has (slots_of (get_or masks i 0)) j || (a && false)) || (b && false)) ≡ false
          none e a b = rw (e, and-false a, and-false b)

          outside : ltb j n ≡ false → ((has (slots_of (get_or masks i 0)) j || (eqb i one && eqb j other)) || (eqb i other && eqb j one)) ≡ (ltb j n && (joins (units i) (units j) l || linked rest (units i) (units j)))
          outside q =
              let past = ltb-false j n q in
              rw (q, ne_eqb j other (λ e. omega (arith, e, past, placed.other-there)), ne_eqb j one (λ e. omega (arith, e, past, placed.one-there)))
              (none (before.known i j h ∙ ap (λ (b : Bool). b && linked rest (units i) (units j)) q) (eqb i one) (eqb i other))
