-- Free slots and held ones are all the data slots.
-- Assumes nothing.
use Rattle.octets.proofs.Words.{◌≡◌, refl, ap, ◌∙◌, List, [], ◌∷◌, ℕ, ◌+◌}
use Rattle.slot_sets.specs.Sets.{count}
use Rattle.book_members.specs.Members.{Row, free}
use Rattle.book_members.proofs.RowSums.{weigh}
use Rattle.book_members.proofs.RowRuleLaws.{holdings, free_and_held, ruled_current}
use Rattle.book.specs.Books.{rows_at}
use Rattle.book_history.specs.Laws.{held_count, AllAccounted}
use Rattle.book.proofs.WithinLaws.{within}

pub held-sum : (rs : List Row) → held_count rs ≡ holdings rs
unfolding held_count weigh
held-sum [] = refl
held-sum (r ∷ rs) = ap (λ (n : ℕ). count r.slots + n) (held-sum rs)

pub all_accounted : AllAccounted
all_accounted b time e =
    let w = within b e in
    let g = ruled_current time w.rows in
    ap (λ (n : ℕ). count (free b.plan.data_slots (rows_at b time)) + n) (held-sum (rows_at b time))
    ∙ free_and_held w.few g
