-- Texts put one behind the other, and how long a number is.
-- Assumes nothing.
use Rattle.octets.proofs.Words.{◌≡◌, refl, sym, ◌∙◌, List, [], ◌∷◌, ◌++◌, ℕ, ◌+◌, ◌≤◌, add-zero, arith, ltb, length, length-append}
use Rattle.octets.specs.Lists.{tab}
use Rattle.octets.proofs.ListLaws.{tab_snoc}
use Rattle.octets.proofs.StoreLaws.{sets_append}
use Rattle.octets.proofs.TestLaws.{of_choice}
use Rattle.book_drawing.specs.declared.text.Text.{Text}
use Rattle.book_drawing.specs.Texts.{Put}
use Rattle.book_drawing.specs.Views.{decimal}

pub none_put : (f : ℕ → ℕ) (t : Text) → Put t (tab 0 f) t
unfolding tab
none_put f t = record { same = refl; stored = refl; behind = sym (add-zero t.place) }

pub then_put : (s t : List ℕ) (start mid next : Text) → Put start s mid → Put mid t next → Put start (s ++ t) next
then_put s t start mid next p q =
    record {
      same = q.same ∙ p.same;
      stored = q.stored ∙ rw (p.stored, p.behind, sets_append s t start.out.now start.place);
      behind = omega (arith, p.behind, q.behind, length-append s t);
    }

-- a byte a turn
pub one_more : (f : ℕ → ℕ) (n byte : ℕ) (start mid next : Text) → Put start (tab n f) mid → byte ≡ f n → Put mid (byte ∷ []) next → Put start (tab (n + 1) f) next
one_more f n byte start mid next p e q = rw (tab_snoc n f, ← e) (then_put (tab n f) (byte ∷ []) start mid next p q)

pub decimal_short : (n : ℕ) → length (decimal n) ≤ 3
decimal_short n =
    let short : List ℕ → Type 0 = λ l. length l ≤ 3 in
    of_choice short (ltb n 10) (omega arith) (of_choice short (ltb n 100) (omega arith) (omega arith))
