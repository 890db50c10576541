-- Joining and asking: who is refused for room, and how many slots the others hold.
-- Assumes nothing.
use Rattle.octets.proofs.Words.{◌≡◌, refl, sym, ap, ap₂, ◌∙◌, Bool, true, false, not, ◌&&◌, ◌||◌, cond, false≢true, List, [], ◌∷◌, ℕ, ◌+◌, ◌*◌, ◌≤◌, zero-add, arith, ne_eqb, eqb-false, le-ltb, eqb, ltb, length}
use Rattle.octets.specs.Answers.{first}
use Rattle.octets.specs.Lists.{every}
use Rattle.slot_sets.specs.Sets.{Slots, count}
use Rattle.book_members.specs.Members.{Row, vacant_row, place_for, vacant, spare}
use Rattle.book_members.proofs.RowRuleLaws.{vacant-free, ruled_current}
use Rattle.book.specs.Books.{Contents, within_rule, rows_at, holding}
use Rattle.book_joins.specs.Joins.{grant_for, join_in, seat, no_row_for, join_reasons, join_of, ask_in, join_responses}
use Rattle.book_joins.proofs.ResponseLaws.{length-responses}
use Rattle.book_history.specs.Laws.{full, Newcomer, RefusedIfFull, due, Admitted, GrantedElse, AskedFor}
use Rattle.book.proofs.WithinLaws.{within}
use Rattle.book_history.proofs.CallLaws.{joined_slots, join_short}
use Rattle.book_history.proofs.GrantLaws.{lesser, count-granted}
use Rattle.book_history.proofs.ShareLaws.{count-asks}
use Rattle.book_history.proofs.TakingLaws.{join-taken, ask-taken, taken_live, taken-holding}

-- ---- who is refused
-- every row is live exactly if none is free
full-vacant : (rs : List Row) → every (λ r. not (vacant_row r)) rs ≡ eqb (vacant rs) 0
unfolding every vacant
full-vacant [] = refl
full-vacant (r ∷ rs) = go (vacant_row r) (full-vacant rs)
  where
    go : (b : Bool) → every (λ r. not (vacant_row r)) rs ≡ eqb (vacant rs) 0 → (not b && every (λ r. not (vacant_row r)) rs) ≡ eqb (cond b 1 0 + vacant rs) 0
    go true ih = sym (ne_eqb (1 + vacant rs) 0 (λ z. omega (arith, z)))
    go false ih = rw zero-add ih

either_way : (a b : Bool) → (a || b) ≡ true → (not a && not b) ≡ false
either_way true b e = refl
either_way false true e = refl
either_way false false e = absurd (false≢true e)

-- of a newcomer's reasons only room is left
newcomer_reasons : (b : Contents) (s : List ℕ) (time : ℕ) (out : List ℕ) → within_rule b ≡ true → Newcomer b s time
    → first (join_reasons b s time (length out)) ≡ cond (no_row_for b (join_in s).node time) 12 (cond (join_short b s time out) 5 0)
newcomer_reasons b s time out w n =
    rw (w, n.frame, ne_eqb (join_in s).node b.plan.manager n.other, either_way (eqb (join_in s).network 0) (eqb (join_in s).network b.plan.network) n.network, n.order)

module _ (b : Contents) (s : List ℕ) (time : ℕ) (out : List ℕ) (w : within_rule b ≡ true) (n : Newcomer b s time) where
  no_row : no_row_for b (join_in s).node time ≡ full b time
  no_row = ap (λ (live : Bool). not live && eqb (vacant (rows_at b time)) 0) n.unknown ∙ sym (full-vacant (rows_at b time))

  newcomer_refused : (join_of b s time out).refused ≡ cond (full b time) 12 (cond (join_short b s time out) 5 0)
  unfolding join_of
  newcomer_refused =
      newcomer_reasons b s time out w n
      ∙ ap (λ (t : Bool). cond t 12 (cond (join_short b s time out) 5 0)) no_row

pub refused_if_full : RefusedIfFull
refused_if_full b s time out w n = (
  λ e. newcomer_refused b s time out w n ∙ ap (λ (t : Bool). cond t 12 (cond (join_short b s time out) 5 0)) e,
  λ e. go (full b time) (join_short b s time out) (sym (newcomer_refused b s time out w n) ∙ e),
)
  where
    go : (t short : Bool) → ◌≡◌ {A = ℕ} (cond t 12 (cond short 5 0)) 12 → t ≡ true
    go true short e = refl
    go false true e = absurd (omega arith)
    go false false e = absurd (omega arith)

-- ---- what is then held
module _ (b : Contents) (s : List ℕ) (time : ℕ) (out : List ℕ) (w : within_rule b ≡ true) (n : Newcomer b s time) (room : full b time ≡ false) where
  abbrev rows : List Row
  rows = rows_at b time

  abbrev given : Slots 64
  given = grant_for b.plan.data_slots rows (join_in s).slots

  -- what it then holds is what it is granted
  newly : joined_slots b s time ≡ given
  newly = ap (λ (t : Bool). cond t (holding b (join_in s).node time) given) n.unknown

  given-due : count given ≡ due b s time
  given-due =
      let parts = within b w in
      let some = eqb-false (vacant rows) 0 (sym (full-vacant rows) ∙ room) in
      count-granted b.plan.data_slots rows (join_in s).slots (omega (arith, some)) (vacant-free parts.few (ruled_current time parts.rows))

  fits : 13 * (1 + due b s time) ≤ length out → join_short b s time out ≡ false
  unfolding join_responses
  fits h =
      let unit = (join_in s).node in
      ap (ltb (length out))
      (length-responses b.plan unit time (seat b unit time) (joined_slots b s time) ∙ ap (λ (k : ℕ). 13 * (1 + k)) (ap count newly ∙ given-due))
      ∙ le-ltb (length out) (13 * (1 + due b s time)) h

  accepted : 13 * (1 + due b s time) ≤ length out → (join_of b s time out).refused ≡ 0
  accepted h = newcomer_refused b s time out w n ∙ ap₂ {C = ℕ} (λ (t short : Bool). cond t 12 (cond short 5 0)) room (fits h)

  admitted : (join_of b s time out).refused ≡ 0 → Admitted b s time out
  admitted e =
      let t = join-taken b s time out e in
      let holds = taken-holding t ∙ newly in
      let k = lesser (join_in s).slots (due b s time) (spare b.plan.data_slots rows + 1) refl (omega arith) in
      record {
        accepted = e;
        member = taken_live t;
        slots = holds;
        exact = ap count holds ∙ given-due;
        least = k.least;
        most = k.within-wish;
      }

pub granted_else : GrantedElse
granted_else b s time out w n room h = admitted b s time out w n room (accepted b s time out w n room h)

-- ---- a member that asks
pub asked_for : AskedFor
asked_for b s time out e =
    let t = ask-taken b s time out e in
    ap count (taken-holding t) ∙ count-asks b.plan.data_slots (rows_at b time) (place_for (ask_in s).node (rows_at b time)) (ask_in s).slots t.place.there
