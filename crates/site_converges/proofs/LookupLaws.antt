-- What lookups tell after some rounds, and where their next hops lead.
-- Assumes nothing.
use Rattle.octets.proofs.Words.{◌≡◌, sym, ap, subst, ◌∙◌, true, false, not, and-eq-true_iff, ℕ, zero, suc, ◌-◌, ◌≤◌, ℕ_discrete, arith, eqb-true, eq-eqb, ne_eqb, eqb}
use Rattle.moments.specs.Moments.{in_order}
use Rattle.moments.proofs.MomentLaws.{young_in_order}
use Rattle.octets.specs.Addresses.{address}
use Rattle.route_table.specs.Outcomes.{Found}
use Rattle.route_table.specs.Rows.{row_for}
use Rattle.route_table.specs.Tables.{rows_of, leads_to, lookup_of}
use Rattle.route_table.proofs.LookupLaws.{lookup-told, lookup-leads, not_led}
use Rattle.site_converges.specs.Sites.{Site, Sited, Fewest, among, within}
use Rattle.site_converges.specs.Courses.{Course, Leads, to_know}
use Rattle.site_converges.specs.RowRounds.{until_after}
use Rattle.site_converges.specs.Rounds.{table_after, Played, Asked}
use Rattle.site_converges.specs.Laws.{LookupsConverge, Ready, AllKnown, steps, Arrives, AllArrive}
use Rattle.site_converges.proofs.SiteLaws.{within_none, within_self}
use Rattle.site_converges.proofs.StepLaws.{Right, aged}
use Rattle.site_converges.proofs.RoundLaws.{rounds_right, row}
use Rattle.site_converges.proofs.TableLaws.{no_sooner, unit-address, tables_hold, converges}

-- ---- lookups
-- a lookup is made no sooner than the row that it finds
row_before : (s : Site) (c : Course) (r : ℕ) (p : Played s c r) (u : ℕ) (m : among u s.units ≡ true) (d : ℕ) → address d ≡ true
    → let x = row_for d (rows_of (table_after c r u)) in x.destination ≡ d → (time : ℕ) → Asked c r u time → in_order x.time time ≡ true
row_before s c r p u m d a there time q =
    let (rounds, comes) = tables_hold s c p.site p.clocks r p.rounds in
    let k = (comes u m).held in
    let now = until_after c r u in
    let right = subst (Right s c u now r r) (sym k.holds) (rounds_right s c p.site r rounds u m) in
    let x = row_for d (rows_of (table_after c r u)) in
    let y = row s c p.site r u now (rows_of (table_after c r u)) right d a there in
    let sooner = no_sooner c u (table_after c r u).time time k.at q.order in
    young_in_order time x.time 300000 (omega arith)
    (aged s c u now r time x y (record { reached = omega (arith, sooner, k.since); until = q.within.until }))

pub lookups_converge : LookupsConverge
lookups_converge s c r p u d time m a q =
    let t = table_after c r u in
    let x = row_for d (rows_of t) in
    let n = converges s c r p u m in
    let held = ((tables_hold s c p.site p.clocks r p.rounds).1 u m).held in
    record {
      known =
          λ e.
          let there : x.destination ≡ d = eqb-true x.destination d (n.exactly d a ∙ e) in
          let leads : leads_to t d time ≡ true = rw (eq-eqb x.destination d there) (n.lasting d time a there q.within (row_before s c r p u m d a there time q)) in
          let ok : (lookup_of t d time).refused ≡ 0 = eqb-true (lookup_of t d time).refused 0 (lookup-leads t d time held.rule a q.order ∙ leads) in
          (ok, subst (λ (f : Found). Leads s u d f.next_hop f.hops) (sym (lookup-told t d time ok)) (n.leads d a there));
      unknown =
          λ e.
          let none : leads_to t d time ≡ false = rw (n.exactly d a ∙ e) in
          not_led t d time held.rule a q.order none;
    }

-- ---- from as many rounds on as the diameter
-- every other unit is to be known
pub all-to_know : (s : Site) (r u d : ℕ) → Ready s r → among u s.units ≡ true → among d s.units ≡ true → (d ≡ u → ⊥) → to_know s r u d ≡ true
all-to_know s r u d a m k e = (and-eq-true_iff (not (eqb d u)) (within s r u d)).1 (ap not (ne_eqb d u e), a u d m k)

pub all_known : AllKnown
all_known s c r p a u d time m k e q = (lookups_converge s c r p u d time m (unit-address s p.site d k) q).known (all-to_know s r u d a m k e)

-- ---- following next hops
-- to follow next hops, each of which leads to a destination, arrives there
module _ (s : Site) (z : Sited s) (d : ℕ) (hop hops : ℕ → ℕ) (leads : (v : ℕ) → among v s.units ≡ true → (d ≡ v → ⊥) → Leads s v d (hop v) (hops v)) where
  -- the fewest links are one number
  one-fewest : (j k v : ℕ) → Fewest s j v d → Fewest s k v d → j ≡ k
  one-fewest j k v f g = omega (arith, f.least k g.enough, g.least j f.enough)

  at_end : (v : ℕ) → Fewest s 0 v d → v ≡ d
  at_end v f = within_none s v d f.enough

  -- after k steps so many links fewer are the fewest
  on_the_way : (k links v : ℕ) → k ≤ links → among v s.units ≡ true → Fewest s links v d → Fewest s (links - k) (steps hop k v) d
  on_the_way zero links v h m f = subst (λ (n : ℕ). Fewest s n v d) (omega arith) f
  on_the_way (suc k) links v h m f =
      let away : d ≡ v → ⊥ = λ e. omega (arith, f.least 0 (subst (λ (b : ℕ). within s 0 v b ≡ true) (sym e) (within_self s 0 v))) in
      let l = leads v m away in
      let same = one-fewest (hops v) links v l.fewest f in
      let less : hops v - 1 ≡ links - 1 = omega arith in
      subst (λ (n : ℕ). Fewest s n (steps hop k (hop v)) d) (omega arith)
      (on_the_way k (links - 1) (hop v) (omega arith) (z.inside v (hop v) l.near) (subst (λ (n : ℕ). Fewest s n (hop v) d) less l.on))

  arrives : (links u : ℕ) → among u s.units ≡ true → Fewest s links u d → Arrives s hop u d
  arrives links u m f =
      record {
        links = links;
        fewest = f;
        there = at_end (steps hop links u) (subst (λ (n : ℕ). Fewest s n (steps hop links u) d) (omega arith) (on_the_way links links u (omega arith) m f));
        once =
            λ i j l h e.
            let here = on_the_way i links u (omega arith) m f in
            let later = on_the_way j links u h m f in
            omega (arith, one-fewest (links - i) (links - j) (steps hop i u) here (subst (λ (v : ℕ). Fewest s (links - j) v d) (sym e) later));
      }

  pub all_arrive_by : (u : ℕ) → among u s.units ≡ true → Arrives s hop u d
  all_arrive_by u m = go (ℕ_discrete d u)
    where
      go : Dec (d ≡ u) → Arrives s hop u d
      go (yes e) = arrives 0 u m (record { enough = subst (λ (b : ℕ). within s 0 u b ≡ true) (sym e) (within_self s 0 u); least = λ k w. omega arith })
      go (no e) = arrives (hops u) u m (leads u m e).fewest

pub all_arrive : AllArrive
all_arrive s c r p a at asked u d m k =
    all_arrive_by s p.site d (λ v. (lookup_of (table_after c r v) d (at v)).next_hop) (λ v. (lookup_of (table_after c r v) d (at v)).hops)
    (λ v i e. (all_known s c r p a v d (at v) i k e (asked v i)).1) u m
