-- Rounds at any site: each unit begins at 0, and at 300,000 writes and merges all pages, in the order of the units.
-- Assumes nothing.
use Rattle.octets.proofs.Words.{◌≡◌, refl, sym, ap, subst, true, cond, false≢true, List, [], ◌∷◌, ◌++◌, map, inl, inr, ℕ, zero, suc, ◌≤◌, ℕ_discrete, arith, eqb-true, eqb}
use Rattle.octets.specs.Lists.{Some, Each, some}
use Rattle.octets.proofs.EachLaws.{each_append, each_also, some-behind, some_first}
use Rattle.octets.proofs.TestLaws.{or_elim, of-cond}
use Rattle.moments.specs.Moments.{age_at, in_order}
use Rattle.moments.proofs.MomentLaws.{in_order_self, young_in_order, age-between}
use Rattle.route_table.specs.declared.row.Row.{Row}
use Rattle.route_table.specs.declared.table.Table.{Table}
use Rattle.route_table.specs.Tables.{rows_of, fresh_of}
use Rattle.route_pages.specs.Pages.{page_there}
use Rattle.route_history.specs.TableCalls.{after_calls}
use Rattle.site_converges.specs.Sites.{Site, Sited, among}
use Rattle.site_converges.specs.Courses.{Heard, Course, InTime, Fair}
use Rattle.site_converges.specs.RowRounds.{rows_after, until_after, to_hear, Hears}
use Rattle.site_converges.specs.Rounds.{taking, table_after, ordered, Sent, Round, Rounds, Clocks}
use Rattle.site_converges.specs.Laws.{RoundsAreThere}
use Rattle.site_converges.proofs.StepLaws.{Right, few-rows}
use Rattle.site_converges.proofs.RoundLaws.{rounds_right}
use Rattle.site_converges.proofs.TableLaws.{tables_hold}

-- ---- the rounds
abbrev call : ℕ → ℕ → Heard
call o p = record { from = o; page = p; written = 300000; quality = 40; time = 300000 }

-- both pages of a table, or the one that it has
abbrev pages : (ℕ → Table) → ℕ → List Heard
pages before o = call o 0 ∷ cond (page_there (rows_of (before o)) 1) (call o 1 ∷ []) []

unfoldable hearing : Site → (ℕ → Table) → ℕ → List ℕ → List Heard
hearing s before u [] = []
hearing s before u (o ∷ os) = cond (s.linked u o) (pages before o ++ hearing s before u os) (hearing s before u os)

unfoldable tables : Site → ℕ → ℕ → Table
tables s zero u = (fresh_of u 0).table
tables s (suc r) u = after_calls (tables s r u) (map (taking (tables s r)) (hearing s (tables s r) u s.units))

abbrev course : Site → Course
course s = record { began = λ u. 0; heard = λ k u. hearing s (tables s k) u s.units }

tables_are : (s : Site) (r : ℕ) → tables s r ≡ table_after (course s) r
unfolding tables table_after
tables_are s zero = refl
tables_are s (suc r) = ap (λ (b : ℕ → Table). λ (u : ℕ). after_calls (b u) (map (taking b) (hearing s (tables s r) u s.units))) (tables_are s r)

-- 300,000 is in time for each unit
all_the_time : age_at 300000 0 ≡ 300000
unfolding age_at
all_the_time = refl

in_time : (s : Site) (u : ℕ) → InTime (course s) u 300000
in_time s u = record { bits = omega arith; until = omega (arith, all_the_time) }

module _ (s : Site) (u : ℕ) (before : ℕ → Table) (timely : (o : ℕ) → s.linked u o ≡ true → in_order (before o).time 300000 ≡ true) where
  -- what each call is
  abbrev Fine : Heard → Type 0
  Fine h = Fair s (course s) u h × Sent before h × (h.time ≡ 300000)

  fine : (o p : ℕ) → s.linked u o ≡ true → page_there (rows_of (before o)) p ≡ true → Fine (call o p)
  fine o p l t = (
    record {
      near = l;
      clear = omega arith;
      byte = omega arith;
      wrote = in_time s o;
      merged = in_time s u;
    },
    record { there = t; timely = timely o l },
    refl,
  )

  pages_fine : (o : ℕ) → s.linked u o ≡ true → Each Fine (pages before o)
  pages_fine o l = (fine o 0 l refl, of-cond (Each Fine) (page_there (rows_of (before o)) 1) (call o 1 ∷ []) [] (λ q. (fine o 1 l q, tt)) (λ q. tt))

  hearing_fine : (os : List ℕ) → Each Fine (hearing s before u os)
  unfolding hearing
  hearing_fine [] = tt
  hearing_fine (o ∷ os) =
      let later = hearing_fine os in
      of-cond (Each Fine) (s.linked u o) _ _ (λ q. each_append Fine (pages before o) (hearing s before u os) (pages_fine o q) later) (λ q. later)

  in_order_lem : (n : ℕ) → in_order n 300000 ≡ true → (hs : List Heard) → Each Fine hs → ordered n hs ≡ true
  in_order_lem n e [] f = refl
  in_order_lem n e (h ∷ hs) f =
      let same = f.0.2 in
      rw (same, e) (in_order_lem 300000 (in_order_self 300000) hs f.1)

  -- every page that there is
  pages_all : (o p : ℕ) → p ≤ 1 → page_there (rows_of (before o)) p ≡ true → Hears (pages before o) o p
  pages_all o zero l t = inl (refl, refl)
  pages_all o (suc zero) l t = inr (rw t (inl (refl, refl)))
  pages_all o (suc (suc p)) l t = absurd (omega (arith, l))

  hearing_all : (o p : ℕ) → s.linked u o ≡ true → p ≤ 1 → page_there (rows_of (before o)) p ≡ true → (os : List ℕ) → among o os ≡ true
      → Hears (hearing s before u os) o p
  unfolding hearing among some
  hearing_all o p l few t [] m = absurd (false≢true m)
  hearing_all o p l few t (n ∷ os) m =
      let P : Heard → Type 0 = λ h. (h.from ≡ o) × (h.page ≡ p) in
      or_elim (Some P (hearing s before u (n ∷ os))) (eqb o n) (among o os) m
      (λ e.
      let same = eqb-true o n e in
      let near : s.linked u n ≡ true = subst (λ (k : ℕ). s.linked u k ≡ true) same l in
      rw near (some_first P (pages before n) (hearing s before u os) (subst (λ (k : ℕ). Some P (pages before k)) same (pages_all o p few t))))
      (λ e.
      let later = hearing_all o p l few t os e in
      of-cond (Some P) (s.linked u n) _ _ (λ q. some-behind P (pages before n) (hearing s before u os) later) (λ q. later))

-- right rows are at most 48, and so there are at most two pages
two_pages : (s : Site) (c : Course) → Sited s → (u : ℕ) → among u s.units ≡ true → (now r : ℕ) (rows : List Row) → Right s c u now r r rows → (p : ℕ) → page_there rows p ≡ true → p ≤ 1
two_pages s c z u m now r rows g p t = grind (arith, t, few-rows s c z u m r now r rows g.up g.good)

-- it is in order with every time in time
late : (s : Site) (u n : ℕ) → InTime (course s) u n → in_order n 300000 ≡ true
late s u n t = young_in_order 300000 n 300000 (omega arith) (omega (arith, age-between 0 n 300000 (omega (arith, t.until, all_the_time)), all_the_time))

module _ (s : Site) (z : Sited s) where
  clocks : Clocks s (course s)
  clocks u m = omega arith

  one_round : (r : ℕ) → Rounds s (course s) r → (u : ℕ) → among u s.units ≡ true → Round s (course s) u (table_after (course s) r) ((course s).heard r u)
  one_round r a u m =
      let c = course s in
      let before = table_after c r in
      let (rounds, comes) = tables_hold s c z clocks r a in
      let right = rounds_right s c z r rounds in
      let timely : (o : ℕ) → s.linked u o ≡ true → in_order (before o).time 300000 ≡ true = λ o l. late s o (before o).time (comes o (z.inside u o l)).held.at in
      let all = hearing_fine s u before timely s.units in
      let here : Round s c u before (hearing s before u s.units) =
      record {
        fair = each_also (Fine s u before timely) (Fair s c u) (λ h f. f.0) (hearing s before u s.units) all;
        sent = each_also (Fine s u before timely) (Sent before) (λ h f. f.1) (hearing s before u s.units) all;
        order = in_order_lem s u before timely (before u).time (late s u (before u).time (comes u m).held.at) (hearing s before u s.units) all;
        all =
            λ o p l t.
            let unit = z.inside u o l in
            let few = two_pages s c z o unit (until_after c r o) r (rows_after c r o) (right o unit) p (subst (λ (rs : List Row). to_hear rs p ≡ true) (comes o unit).held.holds t) in
            hearing_all s u before timely o p l few t s.units unit;
      } in
      subst (λ (b : ℕ → Table). Round s c u before (hearing s b u s.units)) (sym (tables_are s r)) here

  all-rounds : (r : ℕ) → Rounds s (course s) r
  all-rounds zero k h u m = absurd (omega arith)
  all-rounds (suc r) k h u m = go (ℕ_discrete k r) (all-rounds r)
    where
      go : Dec (k ≡ r) → Rounds s (course s) r → Round s (course s) u (table_after (course s) k) ((course s).heard k u)
      go (yes e) a = subst (λ (n : ℕ). Round s (course s) u (table_after (course s) n) ((course s).heard n u)) (sym e) (one_round r a u m)
      go (no e) a = a k (omega arith) u m

pub rounds_are_there : RoundsAreThere
rounds_are_there s z r = (course s, record { site = z; clocks = clocks s z; rounds = all-rounds s z r })
