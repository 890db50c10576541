-- The row for a destination when a row is put among others, or candidates are learned: none is taken away.
-- Assumes nothing.
use Rattle.octets.proofs.Words.{◌≡◌, List, [], ◌∷◌, ℕ, ℕ_discrete}
use Rattle.octets.specs.Lists.{Each}
use Rattle.octets.proofs.OrderLaws.{by_place, find_put, find_other}
use Rattle.route_table.specs.declared.row.Row.{Row}
use Rattle.route_table.specs.Rows.{none, leading_to}
use Rattle.route_table.proofs.HasLaws.{Has}
use Rattle.route_merges.specs.declared.candidate.Candidate.{Candidate}
use Rattle.route_merges.specs.Learning.{put, Learned, learn, learn_all}
use Rattle.route_merges.proofs.LearnLaws.{by-learn}

-- to put a row takes none away
pub put_has : (d : ℕ) (w : Row) (rs : List Row) → Has d rs → Has d (put w rs)
put_has d w rs h = go (ℕ_discrete w.destination d)
  where
    go : Dec (w.destination ≡ d) → Has d (put w rs)
    go (yes e) = rw (← e, find_put leading_to none w rs)
    go (no e) = rw (find_other leading_to none d w e rs) h

pub learn-has : (d via time : ℕ) (c : Candidate) (l : Learned) → Has d l.rows → Has d (learn via time c l).rows
learn-has d via time c l h = by-learn (Has d) via time c l h (λ b room. put_has d _ l.rows h) (λ there t. put_has d _ l.rows h)

pub learn_all-has : (d via time : ℕ) (cs : List Candidate) (l : Learned) → Has d l.rows → Has d (learn_all via time cs l).rows
learn_all-has d via time [] l h = h
learn_all-has d via time (c ∷ cs) l h = learn_all-has d via time cs (learn via time c l) (learn-has d via time c l h)

-- what holds of each row, and of one that is put, holds of each of all
pub each-put : (P : Row → Type 0) (w : Row) → P w → (rs : List Row) → Each P rs → Each P (put w rs)
each-put P w p [] e = (p, tt)
each-put P w p (r ∷ rs) e =
    let later = each-put P w p rs e.1 in
    by_place leading_to (Each P) w r rs (λ h. (e.0, later)) (λ h. (p, e.1)) (λ h. (p, e))
