-- Rows weighed unit by unit: over all units up to one that no row's is above, they weigh what all the rows do, if free rows weigh nothing.
-- Assumes nothing.
use Rattle.octets.proofs.Words.{◌≡◌, refl, sym, ap, ap₂, ◌∙◌, Bool, true, false, cond, and-eq-true_iff, List, [], ◌∷◌, ℕ, zero, suc, ◌+◌, ◌≤◌, ℕ_discrete, one-add, arith, eq-eqb, ne_eqb, eqb-true, leb-true, lt-ltb, leb, ltb, leb-suc-suc, length}
use Rattle.octets.specs.Lists.{every}
use Rattle.octets.specs.Addresses.{address}
use Rattle.slot_sets.specs.Sets.{no_slots}
use Rattle.book_members.specs.Members.{Row, vacant_row, place_for}
use Rattle.book_members.specs.Rules.{row_rule}
use Rattle.book_members.proofs.RowLaws.{row}
use Rattle.book_members.proofs.RowSums.{weigh, tally, tally_pass, tally_skip, of_unit, alone_here, alone-behind}
use Rattle.book_members.proofs.RowRuleLaws.{rule-either}
use Rattle.book_history.specs.Histories.{sum_to}

pub sum_same : (f g : ℕ → ℕ) (n : ℕ) → ((u : ℕ) → 1 ≤ u → u ≤ n → f u ≡ g u) → sum_to f n ≡ sum_to g n
unfolding sum_to
sum_same f g zero h = refl
sum_same f g (suc n) h = ap₂ ◌+◌ (h (suc n) (omega arith) (omega arith)) (sum_same f g n (λ u l m. h u l (omega arith)))

sum_add : (f g : ℕ → ℕ) (n : ℕ) → sum_to (λ u. f u + g u) n ≡ sum_to f n + sum_to g n
unfolding sum_to
sum_add f g zero = refl
sum_add f g (suc n) = omega (arith, sum_add f g n)

sum-none : (f : ℕ → ℕ) (n : ℕ) → ((u : ℕ) → 1 ≤ u → u ≤ n → f u ≡ 0) → sum_to f n ≡ 0
unfolding sum_to
sum-none f zero h = refl
sum-none f (suc n) h = omega (arith, h (suc n) (omega arith) (omega arith), sum-none f n (λ u l m. h u l (omega arith)))

module _ (weight : Row → ℕ) where
  -- ---- the weight of one row, by its unit
  abbrev pub mine : ℕ → Row → ℕ
  mine unit r = cond (of_unit unit r) (weight r) 0

  mine_own : (unit : ℕ) (r : Row) → r.unit ≡ unit → mine unit r ≡ weight r
  mine_own unit r e = rw (eq-eqb r.unit unit e)

  mine_other : (unit : ℕ) (r : Row) → (r.unit ≡ unit → ⊥) → mine unit r ≡ 0
  mine_other unit r n = rw (ne_eqb r.unit unit n)

  mine_sum : (r : Row) (n : ℕ) → 1 ≤ r.unit → r.unit ≤ n → sum_to (λ u. mine u r) n ≡ weight r
  unfolding sum_to
  mine_sum r zero l m = absurd (omega arith)
  mine_sum r (suc n) l m = go (mine_sum r n l) (ℕ_discrete r.unit (suc n))
    where
      go : (r.unit ≤ n → sum_to (λ u. mine u r) n ≡ weight r) → Dec (r.unit ≡ suc n) → mine (suc n) r + sum_to (λ u. mine u r) n ≡ weight r
      go ih (yes e) = omega (arith, mine_own (suc n) r e, sum-none (λ u. mine u r) n (λ u p q. mine_other u r (λ z. omega (arith, z, e, q))))
      go ih (no e) = omega (arith, mine_other (suc n) r e, ih (omega arith))

  -- ---- all rows
  sum_rows : (rs : List Row) (n : ℕ) → sum_to (λ u. weigh (mine u) rs) n ≡ weigh (λ r. sum_to (λ u. mine u r) n) rs
  unfolding weigh
  sum_rows [] n = sum-none (λ u. 0) n (λ u l m. refl)
  sum_rows (r ∷ rs) n = sum_add (λ u. mine u r) (λ u. weigh (mine u) rs) n ∙ ap (λ (k : ℕ). sum_to (λ u. mine u r) n + k) (sum_rows rs n)

  module _ (dataSlots n : ℕ) (most : (u : ℕ) → address u ≡ true → u ≤ n) (free : (r : Row) → vacant_row r ≡ true → r.slots ≡ no_slots → weight r ≡ 0) where
    row-sum : (r : Row) → row_rule dataSlots r ≡ true → sum_to (λ u. mine u r) n ≡ weight r
    row-sum r e =
        rule-either dataSlots r e
        (λ t none.
        let empty = eqb-true r.unit 0 t in
        sum-none (λ u. mine u r) n (λ u l m. mine_other u r (λ z. omega (arith, z, empty, l))) ∙ sym (free r t none))
        (λ t m. mine_sum r n (leb-true 1 r.unit ((and-eq-true_iff (leb 1 r.unit) (leb r.unit 0xFFFE)).0 m.unit).0) (most r.unit m.unit))

    pub units-sum : (rs : List Row) → every (row_rule dataSlots) rs ≡ true → sum_to (λ u. weigh (mine u) rs) n ≡ weigh weight rs
    unfolding weigh every
    units-sum rs e = sum_rows rs n ∙ go rs e
      where
        go : (rs : List Row) → every (row_rule dataSlots) rs ≡ true → weigh (λ r. sum_to (λ u. mine u r) n) rs ≡ weigh weight rs
        go [] e = refl
        go (r ∷ rs) e =
            let (here, later) = (and-eq-true_iff (row_rule dataSlots r) (every (row_rule dataSlots) rs)).0 e in
            ap₂ ◌+◌ (row-sum r here) (go rs later)

  -- ---- a unit's own row
  -- where it has none, nothing
  none_mine : (unit : ℕ) (rs : List Row) → tally (of_unit unit) rs ≡ 0 → weigh (mine unit) rs ≡ 0
  unfolding weigh
  none_mine unit [] e = refl
  none_mine unit (r ∷ rs) e = go (none_mine unit rs) (of_unit unit r) refl
    where
      go : (tally (of_unit unit) rs ≡ 0 → weigh (mine unit) rs ≡ 0) → (b : Bool) → of_unit unit r ≡ b → cond b (weight r) 0 + weigh (mine unit) rs ≡ 0
      go ih true q = absurd (omega (arith, e, tally_pass (of_unit unit) r rs q))
      go ih false q = omega (arith, ih (sym (tally_skip (of_unit unit) r rs q) ∙ e))

  -- else what the one weighs that it has
  pub held_by_lem : (unit : ℕ) (rs : List Row) → tally (of_unit unit) rs ≤ 1 → weigh (mine unit) rs ≡ cond (ltb (place_for unit rs) (length rs)) (weight (row rs (place_for unit rs))) 0
  unfolding weigh place_for
  held_by_lem unit [] h = refl
  held_by_lem unit (r ∷ rs) h = go (of_unit unit r) refl (held_by_lem unit rs (alone-behind (of_unit unit) r rs h))
    where
      go : (b : Bool) → of_unit unit r ≡ b → weigh (mine unit) rs ≡ cond (ltb (place_for unit rs) (length rs)) (weight (row rs (place_for unit rs))) 0
          → cond b (weight r) 0 + weigh (mine unit) rs
          ≡ cond (ltb (cond b 0 (1 + place_for unit rs)) (length (r ∷ rs))) (weight (row (r ∷ rs) (cond b 0 (1 + place_for unit rs)))) 0
      go true q ih =
          let there : ltb 0 (suc (length rs)) ≡ true = lt-ltb 0 (suc (length rs)) (omega arith) in
          rw there (omega (arith, none_mine unit rs (alone_here (of_unit unit) r rs h q)))
      go false q ih = rw (one-add, leb-suc-suc (suc (place_for unit rs)) (length rs)) (omega (arith, ih))
