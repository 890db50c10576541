-- A unit's slots stay its own over every call that is neither its own request nor its leaving, as long as it is not silent.
-- Assumes nothing.
use Rattle.octets.proofs.Words.{◌≡◌, refl, sym, ap, subst, ◌∙◌, Bool, true, false, not, ◌&&◌, ◌||◌, cond, false≢true, and-eq-true_iff, List, [], ◌∷◌, ◌++◌, map, ℕ, ◌+◌, ◌≤◌, arith, eq-eqb, le-leb, leb-true, not-true, eqb, leb}
use Rattle.octets.specs.Lists.{every}
use Rattle.moments.specs.Elapsed.{Clock, started, now_at, moved, clock_after}
use Rattle.moments.specs.Moments.{age_at, in_order}
use Rattle.moments.proofs.MomentLaws.{no_age, in_order_self}
use Rattle.octets.specs.Addresses.{address}
use Rattle.site_plan.specs.declared.plan.Plan.{Plan}
use Rattle.book.specs.Books.{Contents}
use Rattle.book_joins.specs.Responses.{told_in}
use Rattle.book_history.specs.Calls.{Call, join, ask, heard, leave, schedule, image, refusal_of, next, about, unit_of, time_of, changes}
use Rattle.book_history.specs.Histories.{begun, after_calls, answer, Happened, recorded, step_of, Grant, renewed, changed_by, granted, granting, recent, counts}
use Rattle.book_history.specs.BookLaws.{slots_at, its, StaysItsOwn}
use Rattle.book_history.proofs.RuleLaws.{keeps_plan}
use Rattle.book_history.proofs.BookRuleLaws.{plan_after}
use Rattle.book_history.proofs.KnownLaws.{heard-counts, chosen, Known, known_next, known-after, known-begun}

-- what counts wholly at a time counts so at each before it
sooner : (p : Plan) (unit now then : ℕ) (g : Grant) → now ≤ then → counts p unit then g ≡ g.told → counts p unit now g ≡ g.told
sooner p unit now then g h e = go (recent p unit now g) (recent p unit then g) (before (eqb unit p.manager)) e
  where
    before : (m : Bool) → (m || leb then (g.at + 300000)) ≡ true → (m || leb now (g.at + 300000)) ≡ true
    before true q = refl
    before false q = le-leb now _ (omega (arith, h, leb-true then (g.at + 300000) q))

    go : (s t : Bool) → (t ≡ true → s ≡ true) → cond t g.told [] ≡ g.told → cond s g.told [] ≡ g.told
    go true t on q = refl
    go false true on q = absurd (false≢true (on refl))
    go false false on q = q

module _ (unit : ℕ) (a : address unit ≡ true) where
  -- a unit was told the same before, and then all of that counted
  abbrev Still : Plan → Clock → Grant → Clock → Grant → Type 0
  Still p k g k' g' = counts p unit k'.elapsed g' ≡ g'.told → (g'.told ≡ g.told) × (counts p unit k.elapsed g ≡ g.told)

  -- ---- one call
  module _ (b : Contents) (k : Clock) (g : Grant) (h : Known b unit k g) where
    -- its own accepted call, if that does not move it
    own_still : (c : Call) → refusal_of b c ≡ 0 → unit_of c ≡ unit → (about c).moves ≡ false
        → Still b.plan k g (cond (changes c) (record { last = time_of c; elapsed = now_at k (time_of c) }) k) (renewed c (answer b c) (now_at k (time_of c)) g)
    own_still (join s time out) z u m e = absurd (false≢true (sym m))
    own_still (ask s time out) z u m e = absurd (false≢true (sym m))
    own_still (heard v time) z u m e =
        let then = heard-counts b k.elapsed unit time g (subst (λ (w : ℕ). refusal_of b (heard w time) ≡ 0) u z) h.knows in
        (refl, sooner b.plan unit k.elapsed _ g (omega arith) then)
    own_still (leave v time) z u m e = absurd (false≢true (sym m))
    own_still (schedule v hop time out) z u m e = (refl, e)
    own_still (image time out) z u m e = (refl, e)

    -- any call but its own request and its leaving
    stays_put : (n u : ℕ) (moves : Bool) → (eqb n 0 && eqb u unit && moves) ≡ false → n ≡ 0 → u ≡ unit → moves ≡ false
    stays_put n u moves e z s = rw (eq-eqb n 0 z, eq-eqb u unit s) at e

    later : (t : Bool) (time : ℕ) → k.elapsed ≤ (cond t (record { last = time; elapsed = now_at k time }) k).elapsed
    later true time = omega arith
    later false time = omega arith

    call_still : (c : Call) → its unit (record { call = c; answer = answer b c }) ≡ false
        → Still b.plan k g (moved k (step_of (record { call = c; answer = answer b c }))) (changed_by told_in unit c (answer b c) (now_at k (time_of c)) g)
    call_still c m =
        chosen (Still b.plan k g) (refusal_of b c) (unit_of c) unit (changes c) _ k (renewed c (answer b c) (now_at k (time_of c)) g) g
        (λ z u. own_still c z u (stays_put (refusal_of b c) (unit_of c) (about c).moves m z u))
        (λ z n e. (refl, sooner b.plan unit k.elapsed _ g (later (changes c) (time_of c)) e))
        (λ z e. (refl, e))

  -- ---- all of them
  all_still : (b : Contents) (k : Clock) (g : Grant) (cs : List Call) → Known b unit k g → every (λ h. not (its unit h)) (recorded b cs) ≡ true
      → Still b.plan k g (clock_after k (map step_of (recorded b cs))) (granted unit k g (recorded b cs))
  unfolding every
  all_still b k g [] h m e = (refl, e)
  all_still b k g (c ∷ cs) h m e =
      let happens : Happened = record { call = c; answer = answer b c } in
      let k' = moved k (step_of happens) in
      let g' = changed_by told_in unit c (answer b c) (now_at k (time_of c)) g in
      let (here, behind) = (and-eq-true_iff (not (its unit happens)) (every (λ h. not (its unit h)) (recorded (next b c) cs))).0 m in
      let rest =
      subst (λ (p : Plan). Still p k' g' (clock_after k (map step_of (recorded b (c ∷ cs)))) (granted unit k g (recorded b (c ∷ cs)))) (keeps_plan b c).0
      (all_still (next b c) k' g' cs (known_next unit a b k g c h) behind) e in
      let (same, all) = call_still b k g h c (not-true _ here) rest.1 in
      (rest.0 ∙ same, all)

  -- a book, the calls up to then and those since
  own-since : (b : Contents) (k : Clock) (g : Grant) (cs more : List Call) (time : ℕ) → Known b unit k g
      → every (λ h. not (its unit h)) (recorded (after_calls b cs) more) ≡ true → in_order (after_calls b (cs ++ more)).time time ≡ true
      → recent b.plan unit (now_at (clock_after k (map step_of (recorded b (cs ++ more)))) time) (granted unit k g (recorded b (cs ++ more))) ≡ true
      → slots_at (after_calls b (cs ++ more)) unit time ≡ slots_at (after_calls b cs) unit (after_calls b cs).time
  own-since b k g (c ∷ cs) more time h m o e =
      own-since (next b c) _ _ cs more time (known_next unit a b k g c h) m o
      (subst (λ (p : Plan). recent p unit (now_at (clock_after k (map step_of (recorded b (c ∷ cs ++ more)))) time) (granted unit k g (recorded b (c ∷ cs ++ more))) ≡ true)
      (sym (keeps_plan b c).0) e)
  own-since b k g [] more time h m o e =
      let new = after_calls b more in
      let k' = clock_after k (map step_of (recorded b more)) in
      let g' = granted unit k g (recorded b more) in
      let h' = known-after unit a b k g more h in
      let last = sym h'.clock in
      let plan = plan_after b more in
      let now_all : counts b.plan unit (now_at k' time) g' ≡ g'.told = ap (λ (t : Bool). cond t g'.told []) e in
      let (same, all) = all_still b k g more h m (sooner b.plan unit k'.elapsed (now_at k' time) g' (omega arith) now_all) in
      let then : slots_at b unit b.time ≡ counts b.plan unit k.elapsed g =
      h.knows.slots b.time (in_order_self b.time) ∙ ap (λ (now : ℕ). counts b.plan unit now g) (omega (arith, no_age b.time)) in
      h'.knows.slots time o
      ∙ ((λ i. counts (plan i) unit (k'.elapsed + age_at time (last i)) g') ∙ (now_all ∙ (same ∙ (sym all ∙ sym then))))

pub stays_its_own : StaysItsOwn
stays_its_own start cs more unit time z a m o e =
    let b = (begun start).book in
    own-since unit a b (started b.time) (granting b unit) cs more time (known-begun start unit z a) m o e
