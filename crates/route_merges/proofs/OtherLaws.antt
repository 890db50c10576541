-- A candidate changes no row but its destination's.
-- Assumes nothing.
use Rattle.octets.proofs.Words.{◌≡◌, refl, sym, ap, ◌∙◌, Bool, true, false, not, cond, List, [], ◌∷◌, ℕ, eqb-true, eqb-false, not-true, eqb}
use Rattle.octets.specs.Lists.{Each}
use Rattle.octets.proofs.AddressLaws.{address-some}
use Rattle.octets.proofs.OrderLaws.{find_other}
use Rattle.frame_kinds.specs.Shape.{part_in}
use Rattle.frame_traffic.specs.Traffic.{update, entries_of}
use Rattle.route_table.specs.declared.row.Row.{Row}
use Rattle.route_table.specs.Rows.{none, leading_to, withdrawn_at, standing, row_for}
use Rattle.route_table.specs.Tables.{rows_of}
use Rattle.route_table.proofs.RuleLaws.{rows_of-pad}
use Rattle.route_merges.specs.declared.candidate.Candidate.{Candidate}
use Rattle.route_merges.specs.Candidates.{candidates}
use Rattle.route_merges.specs.Laws.{OthersUnchanged}
use Rattle.route_merges.specs.Learning.{row_by, Learned, learned, learn, learn_all}
use Rattle.route_merges.specs.Merges.{update_in, merged_rows, merge_of}
use Rattle.route_merges.proofs.CandidateLaws.{offers-each}
use Rattle.route_merges.proofs.KeepLaws.{merge-rules, merge-gives}
use Rattle.route_merges.proofs.LearnLaws.{by-learn, by-learn_all}

module _ (d : ℕ) (some : d ≡ 0 → ⊥) where
  -- the row for another destination is not this one's
  row_other : (x : ℕ) → (x ≡ d → ⊥) → (rs : List Row) → (row_for x rs).destination ≡ d → ⊥
  row_other x n [] e = some (sym e)
  row_other x n (r ∷ rs) e = go (eqb r.destination x) refl e (row_other x n rs)
    where
      go : (b : Bool) → eqb r.destination x ≡ b → (cond b r (row_for x rs)).destination ≡ d → ((row_for x rs).destination ≡ d → ⊥) → ⊥
      go true q e h = n (sym (eqb-true r.destination x q) ∙ e)
      go false q e h = h e

  -- ---- candidates for others
  abbrev Other : Candidate → Type 0
  Other c = c.destination ≡ d → ⊥

  module _ (via time : ℕ) where
    learn-other : (c : Candidate) → Other c → (l : Learned) → row_for d (learn via time c l).rows ≡ row_for d l.rows
    learn-other c n l =
        by-learn (λ rs. row_for d rs ≡ row_for d l.rows) via time c l refl (λ b room. find_other leading_to none d (row_by via time c) n l.rows)
        (λ there t. find_other leading_to none d (withdrawn_at time (row_for c.destination l.rows)) (row_other c.destination n l.rows) l.rows)

    learn_all-other : (cs : List Candidate) → Each Other cs → (l : Learned) → row_for d (learn_all via time cs l).rows ≡ row_for d l.rows
    learn_all-other cs o l =
        by-learn_all (λ rs. row_for d rs ≡ row_for d l.rows) via time Other (λ c n x e. learn-other c n x ∙ e) cs o l refl

-- ---- an update
pub others_unchanged : OthersUnchanged
unfolding merged_rows
others_unchanged t s quality time d z a (n, h) =
    let some = address-some d a in
    let o = (update_in s).origin in
    let es = entries_of (update_in s).count (part_in update s) in
    let all = (merged_rows t s quality time).rows in
    let rows : rows_of (merge_of t s quality time).table ≡ all = ap rows_of (merge-gives t s quality time z) ∙ rows_of-pad t.own time all (merge-rules t s quality time z) in
    let others = offers-each t.own o quality (Other d some) (λ e. not (eqb e.destination d)) (λ e k q. eqb-false e.destination d (not-true _ k)) es h in
    ap (row_for d) rows ∙ learn_all-other d some o time (candidates t.own o quality es) (n, others) (learned (standing time (rows_of t)) 0)
