-- One call after the other: what holds of a table and of when units were heard stays so.
-- Assumes nothing.
use Rattle.octets.proofs.Words.{◌≡◌, refl, sym, ap, subst, ◌∙◌, Bool, true, false, ◌&&◌, cond, List, [], ◌∷◌, map, ℕ, ◌+◌, ℕ_discrete, arith, eq-eqb, ne_eqb, eqb, length}
use Rattle.octets.specs.Lists.{every}
use Rattle.octets.proofs.ListLaws.{every-on, every-both, every_map}
use Rattle.octets.proofs.EachLaws.{each_all}
use Rattle.moments.specs.Elapsed.{Clock, started, now_at}
use Rattle.moments.specs.Moments.{age_at, in_order}
use Rattle.frame_kinds.specs.Shape.{part_in}
use Rattle.frame_traffic.specs.Traffic.{update, entries_of}
use Rattle.route_table.specs.declared.row.Row.{Row}
use Rattle.route_table.specs.declared.table.Table.{Table}
use Rattle.route_table.specs.Rows.{row_rule, forgotten, in_use, pad, standing}
use Rattle.route_table.specs.Tables.{rows_of, within_rule, fresh_of, forget_of}
use Rattle.route_table.proofs.KeepLaws.{standing-rules, forgotten-rules, fresh-within, forget-within}
use Rattle.route_table.proofs.RuleLaws.{ruled, rows_of-pad}
use Rattle.route_table.proofs.StandingLaws.{standing-every}
use Rattle.route_table.proofs.TableLaws.{within, forgettable}
use Rattle.route_merges.specs.Candidates.{candidates}
use Rattle.route_merges.specs.Learning.{learned}
use Rattle.route_merges.specs.Merges.{update_in, merge_refusal, merged_rows, merge_of}
use Rattle.route_merges.proofs.KeepLaws.{merged_able, merge-rules, merge-gives, merge-within}
use Rattle.route_merges.proofs.LearnLaws.{Kept, learn_all-every}
use Rattle.route_merges.proofs.MergeLaws.{some-origin}
use Rattle.route_forwards.specs.Forwards.{forward_refusal, forward_of}
use Rattle.route_forwards.proofs.ForwardLaws.{onward, forward-within}
use Rattle.route_history.specs.TableCalls.{Call, merge, forget, forward, lookup, relay, page, about, time_of, answer, next}
use Rattle.route_history.specs.TableLaws.{Times, After, FromFresh, borne, before, Accounts, RefusedKeeps}
use Rattle.route_history.proofs.FreshLaws.{borne-later, grown, borne-on, borne-new, before_on, borne-kept, borne-forgotten, before-later}

-- what holds of a table, the clock of the calls on the way to it, and when units were heard
pub record Good (t : Table) (k : Clock) (times : Times) : Type 0 where
  pub rule : within_rule t ≡ true
  pub accounts : Accounts t k times

-- a table that is made of rows within rule has these rows
rows_are : (t : Table) (rs : List Row) → t.rows ≡ pad rs → every (row_rule t.own t.time) rs ≡ true → rows_of t ≡ rs
rows_are t rs e r = ap in_use e ∙ rows_of-pad t.own t.time rs r

-- ---- the calls that change a table, where they are accepted
module _ (t : Table) (k : Clock) (times : Times) (g : Good t k times) where
  abbrev rs : List Row
  rs = rows_of t

  -- the clock after an accepted call at a time
  abbrev then : ℕ → Clock
  then time = record { last = time; elapsed = now_at k time }

  -- the rows at the time of an accepted call
  aged : (time : ℕ) → in_order t.time time ≡ true → every (borne (now_at k time) time times) rs ≡ true
  aged time o =
      subst (λ (last : ℕ). every (borne (k.elapsed + age_at time last) time times) rs ≡ true) (sym g.accounts.shown)
      (every-both (row_rule t.own t.time) (borne k.elapsed t.time times) (borne (k.elapsed + age_at time t.time) time times)
      (λ r a b. borne-later k.elapsed t.time time times r o (ruled t.own t.time r a).past b) rs (within t g.rule).rules g.accounts.rows)

  before_then : (time unit : ℕ) → before (now_at k time) (times unit) ≡ true
  before_then time unit = before-later k.elapsed (now_at k time) (omega arith) (times unit) (g.accounts.past unit)

  merged-good : (s : List ℕ) (quality time : ℕ) → (merge_of t s quality time).refused ≡ 0
      → Good (merge_of t s quality time).table (then time) (grown (λ unit. eqb (update_in s).origin unit) (now_at k time) time times)
  unfolding merged_rows
  merged-good s quality time z =
      let m = merged_able t s quality time z in
      let o = (update_in s).origin in
      let now = now_at k time in
      let from : ℕ → Bool = λ unit. eqb o unit in
      let heard : Times = grown from now time times in
      let gives = merge-gives t s quality time z in
      let new = (merged_rows t s quality time).rows in
      let same = rows_are (merge_of t s quality time).table new (ap (λ (x : Table). x.rows) gives) (rw gives (merge-rules t s quality time z)) in
      let older : every (borne now time heard) rs ≡ true = every-on (borne now time times) (borne now time heard) (borne-on from now time times) rs (aged time m.timely) in
      let cs = candidates t.own o quality (entries_of (update_in s).count (part_in update s)) in
      let learnt : every (borne now time heard) new ≡ true =
      learn_all-every (borne now time heard) o time (some-origin t s quality time m) cs
      (each_all (Kept (borne now time heard) o time) (λ c. borne-kept now heard o time c (borne-new from now time times o (eq-eqb o o refl) c)) cs)
      (learned (standing time rs) 0) (standing-every (borne now time heard) time rs older) in
      record {
        rule = merge-within t s quality time z;
        accounts = record {
          shown = rw gives;
          rows = rw (same, gives) learnt;
          past = λ unit. before_on from now time times unit (before_then time unit);
        };
      }

  forgotten-good : (unit time : ℕ) → (forget_of t unit time).refused ≡ 0 → Good (forget_of t unit time).table (then time) times
  unfolding forget_of
  forgotten-good unit time z =
      let o = (forgettable t unit time z).ordered in
      let new = map (forgotten unit time) (standing time rs) in
      let same : in_use (pad new) ≡ new = rows_of-pad t.own time new (forgotten-rules t.own t.time time unit rs (within t g.rule).rules) in
      let here = borne (now_at k time) time times in
      let borne-still = every_map here here (forgotten unit time) (borne-forgotten (now_at k time) times unit time) (standing time rs) (standing-every here time rs (aged time o)) in
      record {
        rule = forget-within t unit time z;
        accounts = record {
          shown = rw (eq-eqb (forget_of t unit time).refused 0 z);
          rows = rw (eq-eqb (forget_of t unit time).refused 0 z, same) borne-still;
          past = before_then time;
        };
      }

  forwarded_good : (network manager : ℕ) (s : List ℕ) (delay time : ℕ) (out : List ℕ) → (forward_of t network manager s delay time out).answer.refused ≡ 0
      → Good (forward_of t network manager s delay time out).answer.table (then time) times
  unfolding forward_of
  forwarded_good network manager s delay time out z =
      let o = onward t network manager s delay time (length out) z in
      let new = standing time rs in
      let same : in_use (pad new) ≡ new = rows_of-pad t.own time new (standing-rules t.own t.time time rs (within t g.rule).rules) in
      let accepted = eq-eqb (forward_refusal t network manager s delay time (length out)) 0 z in
      record {
        rule = forward-within t network manager s delay time out z;
        accounts = record {
          shown = rw accepted;
          rows = rw (accepted, same) (standing-every (borne (now_at k time) time times) time rs (aged time o.ordered));
          past = before_then time;
        };
      }

  -- any call that is accepted
  accepted-good : (c : Call) → (answer t c).refused ≡ 0
      → Good (next t c) (cond (about c).changes (then (time_of c)) k) (λ unit. cond ((about c).brings unit) (now_at k (time_of c) ∷ times unit) (times unit))
  accepted-good (merge s quality time) z = merged-good s quality time z
  accepted-good (forget unit time) z = forgotten-good unit time z
  accepted-good (forward network manager s delay time out) z = forwarded_good network manager s delay time out z
  accepted-good (lookup d time) z = g
  accepted-good (relay s time least out) z = g
  accepted-good (page p time out) z = g

-- ---- those that are refused
pub merge-kept : (t : Table) (s : List ℕ) (quality time : ℕ) → ((merge_of t s quality time).refused ≡ 0 → ⊥) → (merge_of t s quality time).table ≡ t
unfolding merge_of
merge-kept t s quality time z = rw (ne_eqb (merge_refusal t s quality time) 0 z)

pub forget-kept : (t : Table) (unit time : ℕ) → ((forget_of t unit time).refused ≡ 0 → ⊥) → (forget_of t unit time).table ≡ t
unfolding forget_of
forget-kept t unit time z = rw (ne_eqb (forget_of t unit time).refused 0 z)

pub forward-kept : (t : Table) (network manager : ℕ) (s : List ℕ) (delay time : ℕ) (out : List ℕ) → ((forward_of t network manager s delay time out).answer.refused ≡ 0 → ⊥)
    → (forward_of t network manager s delay time out).answer.table ≡ t
unfolding forward_of
forward-kept t network manager s delay time out z = rw (ne_eqb (forward_refusal t network manager s delay time (length out)) 0 z)

-- any call
pub refused_keeps : RefusedKeeps
refused_keeps t (merge s quality time) z = merge-kept t s quality time z
refused_keeps t (forget unit time) z = forget-kept t unit time z
refused_keeps t (forward network manager s delay time out) z = forward-kept t network manager s delay time out z
refused_keeps t (lookup d time) z = refl
refused_keeps t (relay s time least out) z = refl
refused_keeps t (page p time out) z = refl

-- ---- any call
-- what holds of the table that a call is given holds of the one that it leaves, if it does where the call is accepted
pub by_call : (P : Table → Type 0) (n : ℕ) (old new : Table) → ((n ≡ 0 → ⊥) → new ≡ old) → P old → (n ≡ 0 → P new) → P new
by_call P n old new kept p h = go (ℕ_discrete n 0)
  where
    go : Dec (n ≡ 0) → P new
    go (yes z) = h z
    go (no z) = rw (kept z) p

-- the same, where what is known of it goes by whether the call is accepted
by-refusal : (P : Bool → Table → Type 0) (n : ℕ) (old new : Table) → (n ≡ 0 → P true new) → P false old → ((n ≡ 0 → ⊥) → new ≡ old) → P (eqb n 0) new
by-refusal P n old new accepted refused kept = go (ℕ_discrete n 0)
  where
    go : Dec (n ≡ 0) → P (eqb n 0) new
    go (yes z) = rw (eq-eqb n 0 z) (accepted z)
    go (no z) = rw (ne_eqb n 0 z, kept z) refused

pub good-next : (t : Table) (k : Clock) (times : Times) (c : Call) → Good t k times → After Good t k times (c ∷ [])
good-next t k times c g =
    by-refusal
    (λ b new. Good new (cond (b && (about c).changes) (then t k times g (time_of c)) k) (λ unit. cond (b && (about c).brings unit) (now_at k (time_of c) ∷ times unit) (times unit)))
    (answer t c).refused t (next t c) (accepted-good t k times g c) g (refused_keeps t c)

pub good-after : (t : Table) (k : Clock) (times : Times) (cs : List Call) → Good t k times → After Good t k times cs
good-after t k times [] g = g
good-after t k times (c ∷ cs) g = good-after (next t c) _ _ cs (good-next t k times c g)

fresh-good : (own began : ℕ) → (fresh_of own began).refused ≡ 0 → Good (fresh_of own began).table (started began) (λ unit. [])
unfolding every fresh_of
fresh-good own began z =
    let accepted = eq-eqb (fresh_of own began).refused 0 z in
    record { rule = fresh-within own began z; accounts = record { shown = rw accepted; rows = rw accepted; past = λ unit. refl } }

pub good-fresh : FromFresh Good
good-fresh own began cs z = good-after (fresh_of own began).table (started began) (λ unit. []) cs (fresh-good own began z)
