-- What the answers to a unit's own calls say of it is what the book has for it, at every time that may come: kept by every call.
-- Assumes nothing.
use Rattle.octets.proofs.Words.{◌≡◌, refl, sym, ap, subst, ◌∙◌, Bool, true, false, ◌&&◌, ◌||◌, cond, List, [], ◌∷◌, map, ℕ, suc, ◌+◌, ◌^◌, ◌≤◌, ◌<◌, ℕ_discrete, arith, eq-eqb, ne_eqb, eqb-true, lt-ltb, le-ltb, lt-leb, leb-true, eqb, leb, length, set}
use Rattle.octets.specs.Lists.{every}
use Rattle.octets.proofs.ListLaws.{every-at}
use Rattle.moments.specs.Moments.{age_at, in_order}
use Rattle.moments.specs.Elapsed.{Clock, started, now_at, moved, clock_after}
use Rattle.moments.proofs.MomentLaws.{in_order_self, not-in_order, ages_add}
use Rattle.octets.specs.Addresses.{address}
use Rattle.octets.proofs.AddressLaws.{address-some}
use Rattle.slot_sets.specs.Sets.{Slots}
use Rattle.site_plan.specs.declared.plan.Plan.{Plan}
use Rattle.book_members.specs.Members.{Row, empty_row, vacant_row, place_for}
use Rattle.book_members.proofs.RowLaws.{row}
use Rattle.book_members.proofs.RowSums.{weigh_set, one, tally, of_unit}
use Rattle.book_members.proofs.LookupLaws.{found_none, found-unit, found-there}
use Rattle.book_members.proofs.PairLaws.{led_first}
use Rattle.book_members.proofs.RowRuleLaws.{units-least}
use Rattle.book.specs.Books.{Contents, within_rule, rows_in, rows_at, live_at, heard_of, leave_of, holding}
use Rattle.book.proofs.WithinLaws.{within}
use Rattle.book_joins.specs.Responses.{slots_told, told_in}
use Rattle.book_history.specs.Calls.{Call, join, ask, heard, leave, schedule, image, refusal_of, next, unit_of, time_of}
use Rattle.book_history.proofs.WrittenLaws.{rows_written}
use Rattle.book_history.proofs.TakingLaws.{ruled_rows, some-unit, Taken, join-taken, ask-taken, heard-taken, taken-within, leave_freed}
use Rattle.book_history.proofs.RuleLaws.{keeps_rule, refused_keeps, keeps_plan}
use Rattle.book_history.proofs.HoldingLaws.{others_stay}
use Rattle.book_history.proofs.SilenceLaws.{row_written, stays_while_live}
use Rattle.book_history.specs.Histories.{Start, begun, after_calls, answer, recorded, step_of, clock_of, Grant, grant, changed_by, granted, granting, recent, counts}
use Rattle.book_history.specs.BookLaws.{slots_at, AnswersTell}
use Rattle.book_history.proofs.BookRuleLaws.{begun-within, begun-new, plan_after}
use Rattle.book_history.proofs.SettledLaws.{Settled, taken-settled, left-settled}
use Rattle.book_history.proofs.ToldLaws.{join-told, ask-told}
use Rattle.book_history.proofs.SlotsAtLaws.{same-slots, no_slots_lem, row-slots, row_counts, live_soon, none-counts}

-- ---- what is known of a unit
-- where so many ms had elapsed at the book's last accepted time: its grant is of the past, and at every time that may come what the book has for it is what then counts
pub record Knows (b : Contents) (elapsed unit : ℕ) (g : Grant) : Type 0 where
  pub past : g.at ≤ elapsed
  pub slots : (later : ℕ) → in_order b.time later ≡ true → slots_at b unit later ≡ counts b.plan unit (elapsed + age_at later b.time) g

nothing-counts : (p : Plan) (unit now at : ℕ) → counts p unit now (grant [] at) ≡ []
nothing-counts p unit now at = go (recent p unit now (grant [] at))
  where
    go : (t : Bool) → ◌≡◌ {A = List ℕ} (cond t [] []) []
    go true = refl
    go false = refl

-- at the start, what its row says, if that is of the start's time
known_start : (b : Contents) → within_rule b ≡ true → every (λ r. vacant_row r || eqb r.time b.time) (rows_in b) ≡ true → (unit : ℕ) → (unit ≡ 0 → ⊥)
    → Knows b 0 unit (granting b unit)
known_start b w new unit some = record { past = omega arith; slots = λ later o. go later (ℕ_discrete (row (rows_in b) at).unit unit) }
  where
    at : ℕ
    at = place_for unit (rows_in b)

    told : Bool → List ℕ
    told t = cond t (slots_told b.plan at (row (rows_in b) at).slots) []

    by-unit : (now : ℕ) (t : Bool) → eqb (row (rows_in b) at).unit unit ≡ t → counts b.plan unit now (grant (told t) 0) ≡ counts b.plan unit now (granting b unit)
    by-unit now t e = ap (λ (s : Bool). counts b.plan unit now (grant (told s) 0)) (sym e)

    began : (row (rows_in b) at).unit ≡ unit → (row (rows_in b) at).time ≡ b.time
    began own =
        let e = every-at (λ r. vacant_row r || eqb r.time b.time) (rows_in b) at empty_row new (found-there unit some (rows_in b) at own) in
        eqb-true (row (rows_in b) at).time b.time (rw (ne_eqb (row (rows_in b) at).unit 0 (λ z. some (sym own ∙ z))) at e)

    go : (later : ℕ) → Dec ((row (rows_in b) at).unit ≡ unit) → slots_at b unit later ≡ counts b.plan unit (0 + age_at later b.time) (granting b unit)
    go later (yes own) = row_counts b w unit some at own later (began own) 0 ∙ by-unit (0 + age_at later b.time) true (eq-eqb (row (rows_in b) at).unit unit own)
    go later (no n) =
        let none_found : at < length (rows_in b) → ⊥ = λ h. n (found-unit unit (rows_in b) h) in
        let unfound = le-ltb at (length (rows_in b)) (omega (arith, none_found)) in
        none-counts b w unit some (found_none unit (rows_in b) unfound) later
        ∙ (sym (nothing-counts b.plan unit (0 + age_at later b.time) 0) ∙ by-unit (0 + age_at later b.time) false (ne_eqb (row (rows_in b) at).unit unit n))

-- ---- a unit's own call
-- one that writes its row
module _ {b : Contents} {c : Call} {at : ℕ} {own : Slots 64} (t : Taken b c at own) where
  taken-known : (now : ℕ) (told : List ℕ) → told ≡ slots_told b.plan at own → Knows (next b c) now (unit_of c) (grant told now)
  taken-known now told e =
      let new = next b c in
      let unit = unit_of c in
      let plan = (keeps_plan b c).0 in
      let written = row_written t in
      let time : (row (rows_in new) at).time ≡ new.time = ap (λ (r : Row). r.time) written ∙ sym (ap (λ (x : Contents). x.time) t.book) in
      record {
        past = omega arith;
        slots =
            λ later o.
            row_counts new (taken-within t) unit (some-unit t.allowed) at (ap (λ (r : Row). r.unit) written) later time now
            ∙ ((λ i. counts new.plan unit (now + age_at later new.time) (grant (slots_told (plan i) at (written i).slots) now))
            ∙ ap (λ (l : List ℕ). counts new.plan unit (now + age_at later new.time) (grant l now)) (sym e));
      }

-- what a book has for a live unit begins with its control slot
pub live-slots : (b : Contents) (unit time : ℕ) → live_at b unit time ≡ true → (x : ℕ) × ((l : List ℕ) × (x ∷ l ≡ slots_at b unit time))
live-slots b unit time e = (_, (_, sym (ap (λ (t : Bool). cond t (slots_told b.plan (place_for unit (rows_at b time)) (holding b unit time)) []) e)))

-- what counts and is something counts wholly
all-counts : (t : Bool) (x : ℕ) (l told : List ℕ) → x ∷ l ≡ cond t told [] → cond t told [] ≡ told
all-counts true x l told e = refl
all-counts false x l told e = let n : suc (length l) ≡ 0 = ap length e in absurd (omega (arith, n))

-- a member that is heard was told last what it has, and all of that counts
module _ (b : Contents) (elapsed unit time : ℕ) (g : Grant) (z : (heard_of b unit time).refused ≡ 0) (k : Knows b elapsed unit g) where
  abbrev heard_now : ℕ
  heard_now = elapsed + age_at time b.time

  heard-live : live_at b unit time ≡ true
  heard-live = lt-ltb (place_for unit (rows_at b time)) (length (rows_at b time)) (heard-taken b unit time z).place.there

  heard-slots : slots_at b unit time ≡ counts b.plan unit heard_now g
  heard-slots = k.slots time (heard-taken b unit time z).allowed.order

  pub heard-counts : counts b.plan unit heard_now g ≡ g.told
  heard-counts = let (x, (l, e)) = live-slots b unit time heard-live in all-counts (recent b.plan unit heard_now g) x l g.told (e ∙ heard-slots)

  heard-told : g.told ≡ slots_told b.plan (place_for unit (rows_at b time)) (holding b unit time)
  heard-told =
      let slots = slots_told b.plan (place_for unit (rows_at b time)) (holding b unit time) in
      sym heard-counts ∙ (sym heard-slots ∙ ap (λ (l : Bool). cond l slots []) heard-live)

-- who left has nothing
left-known : (b : Contents) (now unit time : ℕ) → (leave_of b unit time).refused ≡ 0 → Knows (leave_of b unit time).book now unit (grant [] now)
left-known b now unit time z =
    let f = leave_freed b unit time z in
    let some = some-unit f.allowed in
    let rs = rows_at b time in
    let at = place_for unit rs in
    let rows = ap rows_in f.book ∙ rows_written b time at empty_row f.place.there in
    let own : one (of_unit unit) (row rs at) ≡ 1 = rw (eq-eqb (row rs at).unit unit (found-unit unit rs f.place.there)) in
    let none : tally (of_unit unit) (set rs at empty_row) ≡ 0 =
    omega (arith, own, weigh_set (one (of_unit unit)) rs at empty_row f.place.there, units-least unit some, (ruled_rows f.allowed).units unit some) in
    record {
      past = omega arith;
      slots =
          λ later o.
          none-counts (leave_of b unit time).book (keeps_rule.1 b (leave unit time) z) unit some (ap (tally (of_unit unit)) rows ∙ none) later
          ∙ sym (nothing-counts (leave_of b unit time).book.plan unit (now + age_at later (leave_of b unit time).book.time) now);
    }

-- ---- another unit's call
-- what counts long after a grant
late_counts : (p : Plan) (unit now : ℕ) (g : Grant) → (unit ≡ p.manager → ⊥) → g.at + 300000 < now → counts p unit now g ≡ []
late_counts p unit now g other h = rw (ne_eqb unit p.manager other, lt-leb now (g.at + 300000) h)

-- and for the manager
always_counts : (p : Plan) (unit now now' : ℕ) (g : Grant) → unit ≡ p.manager → counts p unit now g ≡ counts p unit now' g
always_counts p unit now now' g e = rw (eq-eqb unit p.manager e)

-- what counts and is something is not long ago
soon_counts : (p : Plan) (unit now : ℕ) (g : Grant) (x : ℕ) (l : List ℕ) → (unit ≡ p.manager → ⊥) → x ∷ l ≡ counts p unit now g → now ≤ g.at + 300000
soon_counts p unit now g x l other e = go (leb now (g.at + 300000)) refl (rw (ne_eqb unit p.manager other) at e)
  where
    go : (t : Bool) → leb now (g.at + 300000) ≡ t → x ∷ l ≡ cond t g.told [] → now ≤ g.at + 300000
    go true q f = leb-true now (g.at + 300000) q
    go false q f = let n : suc (length l) ≡ 0 = ap length f in absurd (omega (arith, n))

module _ (unit : ℕ) (a : address unit ≡ true) where
  -- the manager's row stays
  manager_stays : (b : Contents) → within_rule b ≡ true → unit ≡ b.plan.manager → (time later : ℕ) → slots_at b unit later ≡ slots_at b unit time
  manager_stays b w e time later =
      let some = address-some unit a in
      let own = led_first b.plan.manager (rows_in b) (within b w).rows.led ∙ sym e in
      let told = slots_told b.plan 0 (row (rows_in b) 0).slots in
      let always : (t : ℕ) → slots_at b unit t ≡ told =
      λ t. row-slots b w unit some 0 own t ∙ ap (λ (m : Bool). cond (m || leb (age_at t (row (rows_in b) 0).time) 300000) told []) (eq-eqb unit b.plan.manager e) in
      always later ∙ sym (always time)

  module _ (b : Contents) (c : Call) (z : refusal_of b c ≡ 0) (s : Settled b c) (n : unit_of c ≡ unit → ⊥) (elapsed : ℕ) (g : Grant)
      (k : Knows b elapsed unit g) where
    abbrev new : Contents
    new = next b c

    abbrev time : ℕ
    time = time_of c

    new-within : within_rule new ≡ true
    new-within = keeps_rule.1 b c z

    plan : new.plan ≡ b.plan
    plan = (keeps_plan b c).0

    -- at the call's time
    then : slots_at new unit time ≡ counts b.plan unit (elapsed + age_at time b.time) g
    then = same-slots plan (others_stay b c unit time a (λ e. n (sym e)) s.order (in_order_self time)) ∙ k.slots time s.order

    module _ (later : ℕ) (o : in_order time later ≡ true) where
      abbrev now : ℕ
      now = elapsed + age_at time b.time + age_at later time

      adds : age_at later b.time ≡ age_at later time + age_at time b.time
      adds = ages_add b.time time later s.order o

      -- where the book as it was would accept that time
      near : in_order b.time later ≡ true → slots_at new unit later ≡ counts b.plan unit now g
      near l =
          let same : elapsed + age_at later b.time ≡ now = omega (arith, adds) in
          same-slots plan (others_stay b c unit later a (λ e. n (sym e)) l o) ∙ (k.slots later l ∙ ap (λ (t : ℕ). counts b.plan unit t g) same)

      -- where it would not, the unit is silent
      far : (unit ≡ b.plan.manager → ⊥) → in_order b.time later ≡ false → slots_at new unit later ≡ counts b.plan unit now g
      far other l =
          no_slots_lem new unit later silent ∙ sym (late_counts b.plan unit now g other (omega (arith, adds, long, k.past)))
        where
          long : 2 ^ 31 ≤ age_at later b.time
          long = not-in_order b.time later l

          order : in_order new.time later ≡ true
          order = ap (λ (t : ℕ). in_order t later) s.time ∙ o

          not_live : live_at new unit later ≡ true → ⊥
          not_live live =
              let some = address-some unit a in
              let other-new : unit ≡ new.plan.manager → ⊥ = λ e. other (e ∙ ap (λ (p : Plan). p.manager) plan) in
              let soon : age_at later time ≤ 300000 = rw s.time at (live_soon new new-within unit some other-new later order live) in
              let before = stays_while_live new unit new.time later new-within a (in_order_self new.time) order order live in
              let live_then : live_at new unit time ≡ true = ap (λ (t : ℕ). live_at new unit t) (sym s.time) ∙ (sym before.live ∙ live) in
              let (x, (slots, e)) = live-slots new unit time live_then in
              let h = soon_counts b.plan unit (elapsed + age_at time b.time) g x slots other (e ∙ then) in
              omega (arith, adds, long, k.past, h, soon)

          silent : live_at new unit later ≡ false
          silent = go (live_at new unit later) refl
            where
              go : (t : Bool) → live_at new unit later ≡ t → t ≡ false
              go true e = absurd (not_live e)
              go false e = refl

      other-later : slots_at new unit later ≡ counts b.plan unit now g
      other-later = go (ℕ_discrete unit b.plan.manager) (in_order b.time later) refl
        where
          go : Dec (unit ≡ b.plan.manager) → (t : Bool) → in_order b.time later ≡ t → slots_at new unit later ≡ counts b.plan unit now g
          go (yes m) t l =
              manager_stays new new-within (m ∙ sym (ap (λ (p : Plan). p.manager) plan)) time later
              ∙ (then ∙ always_counts b.plan unit (elapsed + age_at time b.time) now g m)
          go (no m) true l = near l
          go (no m) false l = far m l

    other-known : Knows new (elapsed + age_at time b.time) unit g
    other-known = record {
      past = omega (arith, k.past);
      slots =
          λ later o.
          let on : in_order time later ≡ true = sym (ap (λ (t : ℕ). in_order t later) s.time) ∙ o in
          let old = sym plan in
          let at = sym s.time in
          other-later later on ∙ (λ i. counts (old i) unit (elapsed + age_at time b.time + age_at later (at i)) g);
    }

-- ---- every call
-- of the unit and accepted, of another and accepted, or refused
pub chosen : (P : Clock → Grant → Type 0) (n u unit : ℕ) (changing : Bool) (on k : Clock) (x g : Grant)
    → (n ≡ 0 → u ≡ unit → P (cond changing on k) x) → (n ≡ 0 → (u ≡ unit → ⊥) → P (cond changing on k) g) → ((n ≡ 0 → ⊥) → P k g)
    → P (cond (eqb n 0 && changing) on k) (cond (eqb n 0 && eqb u unit) x g)
chosen P n u unit changing on k x g own other refused = go (ℕ_discrete n 0) (ℕ_discrete u unit)
  where
    go : Dec (n ≡ 0) → Dec (u ≡ unit) → P (cond (eqb n 0 && changing) on k) (cond (eqb n 0 && eqb u unit) x g)
    go (yes z) (yes e) = rw (eq-eqb n 0 z, eq-eqb u unit e) (own z e)
    go (yes z) (no e) = rw (eq-eqb n 0 z, ne_eqb u unit e) (other z e)
    go (no z) d = rw (ne_eqb n 0 z) (refused z)

-- by a clock that is the book's
pub record Known (b : Contents) (unit : ℕ) (k : Clock) (g : Grant) : Type 0 where
  pub clock : k.last ≡ b.time
  pub knows : Knows b k.elapsed unit g

module _ (unit : ℕ) (a : address unit ≡ true) where
  -- a call that changes the book where it is accepted, and makes a grant of its own unit
  call_known : (b : Contents) (c : Call) (k : Clock) (x : ℕ → Grant) (g : Grant) → Known b unit k g → (refusal_of b c ≡ 0 → Settled b c)
      → (refusal_of b c ≡ 0 → (now : ℕ) → Knows b k.elapsed (unit_of c) g → Knows (next b c) now (unit_of c) (x now))
      → let now = now_at k (time_of c) in
      Known (next b c) unit (cond (eqb (refusal_of b c) 0 && true) (record { last = time_of c; elapsed = now }) k)
      (cond (eqb (refusal_of b c) 0 && eqb (unit_of c) unit) (x now) g)
  call_known b c k x g h settled own =
      chosen (Known new unit) (refusal_of b c) (unit_of c) unit _ (record { last = time_of c; elapsed = now }) k (x now) g
      (λ z u. record {
        clock = sym (settled z).time;
        knows = subst (λ (v : ℕ). Knows new now v (x now)) u (own z now (subst (λ (v : ℕ). Knows b k.elapsed v g) (sym u) h.knows));
      })
      (λ z n. record { clock = sym (settled z).time; knows = rw h.clock (other-known unit a b c z (settled z) n k.elapsed g h.knows) })
      (λ z. subst (λ (b' : Contents). Known b' unit k g) (sym (refused_keeps b c z)) h)
    where
      new : Contents
      new = next b c

      now : ℕ
      now = now_at k (time_of c)

  pub known_next : (b : Contents) (k : Clock) (g : Grant) (c : Call) → Known b unit k g
      → Known (next b c) unit (moved k (step_of (record { call = c; answer = answer b c }))) (changed_by told_in unit c (answer b c) (now_at k (time_of c)) g)
  known_next b k g (join s time out) h =
      call_known b (join s time out) k _ g h (λ z. taken-settled (join-taken b s time out z))
      (λ z now l. taken-known (join-taken b s time out z) now _ (join-told b s time out z))
  known_next b k g (ask s time out) h =
      call_known b (ask s time out) k _ g h (λ z. taken-settled (ask-taken b s time out z))
      (λ z now l. taken-known (ask-taken b s time out z) now _ (ask-told b s time out z))
  known_next b k g (heard v time) h =
      call_known b (heard v time) k (grant g.told) g h (λ z. taken-settled (heard-taken b v time z))
      (λ z now l. taken-known (heard-taken b v time z) now g.told (heard-told b k.elapsed v time g z l))
  known_next b k g (leave v time) h = call_known b (leave v time) k (grant []) g h (λ z. left-settled b v time z) (λ z now l. left-known b now v time z)
  known_next b k g (schedule v hop time out) h =
      chosen (Known b unit) (refusal_of b (schedule v hop time out)) v unit _ _ k g g (λ z u. h) (λ z n. h) (λ z. h)
  known_next b k g (image time out) h = chosen (Known b unit) (refusal_of b (image time out)) 0 unit _ _ k g g (λ z u. h) (λ z n. h) (λ z. h)

  pub known-after : (b : Contents) (k : Clock) (g : Grant) (cs : List Call) → Known b unit k g
      → Known (after_calls b cs) unit (clock_after k (map step_of (recorded b cs))) (granted unit k g (recorded b cs))
  known-after b k g [] h = h
  known-after b k g (c ∷ cs) h = known-after (next b c) _ _ cs (known_next b k g c h)

pub known-begun : (start : Start) (unit : ℕ) → (begun start).refused ≡ 0 → address unit ≡ true
    → let b = (begun start).book in Known b unit (started b.time) (granting b unit)
known-begun start unit z a =
    record { clock = refl; knows = known_start (begun start).book (begun-within start z) (begun-new start z) unit (address-some unit a) }

pub answers_tell : AnswersTell
answers_tell start cs unit time z a o =
    let b = (begun start).book in
    let hs = recorded b cs in
    let k = started b.time in
    let h = known-after unit a b k (granting b unit) cs (known-begun start unit z a) in
    let last = sym h.clock in
    let plan = plan_after b cs in
    h.knows.slots time o ∙ (λ i. counts (plan i) unit ((clock_of b hs).elapsed + age_at time (last i)) (granted unit k (granting b unit) hs))
