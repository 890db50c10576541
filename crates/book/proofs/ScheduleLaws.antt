-- The schedule of a member, slot by slot, and in a buffer.
-- Assumes nothing.
use Rattle.octets.proofs.Words.{◌≡◌, refl, sym, ap, ap₂, ◌∙◌, Bool, true, false, ◌&&◌, cond, and-eq-true_iff, eqb-true, leb-true, ltb-false, not-false, eqb, leb, List, [], ◌∷◌, ◌++◌, append-nil, ℕ, zero, suc, ◌+◌, ◌-◌, ◌≤◌, ◌<◌, min, zero-add, suc-add, arith, length, take, length-take-le, drop, length-drop, drop_of_length-le, replicate, sets, sets-eq}
use Rattle.std.proofs.lemmas.List.{length-replicate}
use borrow.Rule.Slice.PartMut.{put_mid}
use Rattle.octets.specs.Lists.{tab}
use Rattle.slot_sets.specs.Sets.{Slots}
use Rattle.site_plan.specs.declared.plan.Plan.{Plan}
use Rattle.site_plan.specs.Plans.{slots, sleep_slot_at}
use Rattle.site_plan.specs.Schedules.{sleep, kind_of}
use Rattle.site_plan.proofs.RegionLaws.{kinds_by_region}
use Rattle.book_members.specs.Members.{place_for}
use Rattle.octets.proofs.AnswerLaws.{none-holds}
use Rattle.site_plan.proofs.PlanLaws.{kept}
use Rattle.book.proofs.WithinLaws.{within}
use Rattle.book.specs.Books.{Contents, within_rule, rows_at, live_at, holding}
use Rattle.book.specs.Schedules.{hop_rule, kinds_for, schedule_reasons, schedule_refusal}
use Rattle.octets.proofs.ListLaws.{length-tab}
use Rattle.octets.proofs.StoreLaws.{sets_append, sets-whole}

-- values that are one from a place on
same-behind : (m n : ℕ) (f : ℕ → ℕ) (v : ℕ) → ((k : ℕ) → m ≤ k → k < m + n → f k ≡ v) → tab (m + n) f ≡ tab m f ++ replicate n v
unfolding tab
same-behind zero zero f v e = refl
same-behind zero (suc n) f v e = rw zero-add (ap₂ ◌∷◌ (e 0 (omega arith) (omega arith)) (sym (ap (λ (i : ℕ). tab i (λ k. f (suc k))) (zero-add n)) ∙ same-behind zero n (λ k. f (suc k)) v (λ k h l. e (suc k) (omega arith) (omega (arith, l)))))
same-behind (suc m) n f v e = rw suc-add (ap (λ (l : List ℕ). f 0 ∷ l) (same-behind m n (λ k. f (suc k)) v (λ k h l. e (suc k) (omega (arith, h)) (omega (arith, l)))))

-- the slots awake, and those asleep behind them
pub both-put : (p : Plan) (row hop : ℕ) (own : Slots 64) (count awake : ℕ) (held out last : List ℕ) → awake ≡ min (sleep_slot_at p) count
    → out ≡ sets held 0 (tab awake (kind_of p row hop own)) → last ≡ sets out awake (replicate (count - awake) sleep) → last ≡ sets held 0 (tab count (kind_of p row hop own))
both-put p row hop own count awake held out last a o l =
    let f = kind_of p row hop own in
    let n : awake + (count - awake) ≡ count = omega (arith, a) in
    let whole : tab count f ≡ tab awake f ++ replicate (count - awake) sleep =
    sym (ap (λ (i : ℕ). tab i f) n) ∙ same-behind awake (count - awake) f sleep (λ k h b. (kinds_by_region p row hop own k).behind (omega (arith, a, h, b, n))) in
    rw (l, o, whole) (sym (sets_append (tab awake f) (replicate (count - awake) sleep) held 0 ∙ rw (length-tab awake f, zero-add)))

-- the same of a loop and a fill behind it, which leave no place of the buffer
pub both-filled : (p : Plan) (row hop : ℕ) (own : Slots 64) (held out last : List ℕ) (awake slot : ℕ) → awake ≡ min (length held) (sleep_slot_at p) → slot ≡ awake
    → length out ≡ length held → out ≡ tab slot (kind_of p row hop own) ++ drop slot held → last ≡ replicate (length (take (length out - awake) (drop awake out))) sleep
    → put_mid awake (length out - awake) out last ≡ tab (length held) (kind_of p row hop own)
both-filled p row hop own held out last awake slot a z l o e =
    let f = kind_of p row hop own in
    let n = length held - awake in
    let w = length-tab awake f in
    let front : out ≡ sets held 0 (tab awake f) = o ∙ rw z (sym (sets-eq (tab awake f) held 0 (omega (arith, w)) ∙ rw (w, zero-add))) in
    let left : length (drop awake out) ≡ n = omega (arith, length-drop awake out) in
    let none : drop (length out - awake) (drop awake out) ≡ [] = drop_of_length-le (drop awake out) {i = length out - awake} (omega (arith, left)) in
    let asleep : last ≡ replicate n sleep = e ∙ ap (λ (i : ℕ). replicate i sleep) (length-take-le (length out - awake) (drop awake out) (omega (arith, left)) ∙ omega arith) in
    let long : length (replicate n sleep) ≡ n = length-replicate n sleep in
    let past : drop (awake + length (replicate n sleep)) out ≡ [] = drop_of_length-le out {i = awake + length (replicate n sleep)} (omega (arith, long)) in
    let behind : put_mid awake (length out - awake) out last ≡ sets out awake (replicate n sleep) =
    rw (none, asleep, append-nil) (sym (sets-eq (replicate n sleep) out awake (omega (arith, long)) ∙ rw (past, append-nil))) in
    both-put p row hop own (length held) awake held out _ (omega arith) front behind ∙ sets-whole held (tab (length held) f) (length-tab (length held) f)

-- the slots of a member, as the code puts them into the start of a buffer
pub scheduled : (b : Contents) (unit hop time at : ℕ) (own : Slots 64) (out put : List ℕ) (count : ℕ) → count ≡ slots b.plan → count ≤ length out → at ≡ place_for unit (rows_at b time)
    → own ≡ holding b unit time → put ≡ tab (length (take count out)) (kind_of b.plan at hop own) → put ++ drop count out ≡ sets out 0 (kinds_for b unit hop time)
scheduled b unit hop time at own out put count c l a o p =
    let f = kind_of b.plan at hop own in
    let n = length-tab (slots b.plan) f in
    rw (p, length-take-le count out l, c, ← a, ← o) (sym (sets-eq (tab (slots b.plan) f) out 0 (omega (arith, n)) ∙ rw (n, zero-add)))

-- a hop within rule is one of the plan's
hop_below : (p : Plan) (unit hop : ℕ) → hop_rule p unit hop ≡ true → hop ≤ p.max_hops
hop_below p unit hop = go (eqb unit p.manager)
  where
    go : (b : Bool) → cond b (eqb hop 0) (leb 1 hop && leb hop p.max_hops) ≡ true → hop ≤ p.max_hops
    go true e = omega (arith, eqb-true hop 0 e)
    go false e = leb-true hop p.max_hops ((and-eq-true_iff (leb 1 hop) (leb hop p.max_hops)).0 e).1

-- what holds where there is a schedule
pub record Schedulable (b : Contents) (unit hop time room : ℕ) : Type 0 where
  pub book : within_rule b ≡ true
  pub near : hop ≤ 10
  pub member : live_at b unit time ≡ true
  pub fits : slots b.plan ≤ room

pub schedulable : (b : Contents) (unit hop time room : ℕ) → schedule_refusal b unit hop time room ≡ 0 → Schedulable b unit hop time room
schedulable b unit hop time room e =
    let none =
    none-holds (schedule_reasons b unit hop time room) _ e in
    let ruled = not-false (within_rule b) none.0 in
    let below = hop_below b.plan unit hop (not-false (hop_rule b.plan unit hop) none.1.1.1.0) in
    record {
      book = ruled;
      near = omega (arith, below, (kept b.plan (within b ruled).plan).few-hops);
      member = not-false (live_at b unit time) none.1.1.1.1.0;
      fits = ltb-false room (slots b.plan) none.1.1.1.1.1.0;
    }
