-- The rows of a book restored from bytes, as the code has them: those that a plan uses, and zeros behind them.
-- Assumes nothing.
use Rattle.octets.proofs.Words.{◌≡◌, refl, ap₂, cond, List, ◌∷◌, ◌++◌, ℕ, zero, suc, ◌≤◌, ◌<◌, min, arith, lt-ltb, le-ltb, ltb, drop, replicate}
use Rattle.octets.specs.Lists.{tab}
use Rattle.slot_sets.proofs.MaskLaws.{mask-nothing}
use Rattle.book_members.specs.Members.{Row, row_of, rows_of, empty_row}
use Rattle.book_members.proofs.RowLoopLaws.{nobody}
use Rattle.book_image.specs.Images.{row_in}

-- a row of so many, zeros behind them
abbrev pub place_in : List ℕ → ℕ → ℕ → ℕ → Row
place_in s time count i = cond (ltb i count) (row_in s time i) empty_row

-- values in front, and behind them always the same
padded : (f g : ℕ → Row) (z : Row) (k n : ℕ) → k ≤ n → ((i : ℕ) → i < k → f i ≡ g i) → ((i : ℕ) → k ≤ i → i < n → z ≡ g i) → tab k f ++ drop k (replicate n z) ≡ tab n g
unfolding tab
padded f g z zero zero h p q = refl
padded f g z zero (suc n) h p q =
    ap₂ ◌∷◌ (q 0 (omega arith) (omega arith)) (padded (λ i. f (suc i)) (λ i. g (suc i)) z zero n (omega arith) (λ i l. absurd (omega (arith, l))) (λ i l m. q (suc i) (omega arith) (omega arith)))
padded f g z (suc k) zero h p q = absurd (omega arith)
padded f g z (suc k) (suc n) h p q =
    ap₂ ◌∷◌ (p 0 (omega arith)) (padded (λ i. f (suc i)) (λ i. g (suc i)) z k n (omega arith) (λ i l. p (suc i) (omega arith)) (λ i l m. q (suc i) (omega arith) (omega arith)))

-- the rows that a plan uses, and the zeros that the others are as the code has them
pub in_front : (s : List ℕ) (time count k : ℕ) → k ≡ min count 21 → tab k (row_in s time) ++ drop k (rows_of (replicate 21 nobody)) ≡ tab 21 (place_in s time count)
unfolding rows_of
in_front s time count k e =
    padded (row_in s time) (place_in s time count) (row_of nobody) k 21 (omega (arith, e))
    (λ i l. let h : i < count = omega (arith, l, e) in rw (lt-ltb i count h))
    (λ i l m. let h : count ≤ i = omega (arith, l, m, e) in rw (le-ltb i count h, mask-nothing))
