-- A round: from the units within r links to those within one more; and any number of rounds.
-- Assumes nothing.
use Rattle.octets.proofs.Words.{◌≡◌, refl, sym, ap, ap₂, subst, ◌∙◌, true, false, false≢true, List, [], ◌∷◌, map, ⊎_elim, ℕ, zero, suc, ◌*◌, ◌-◌, ◌≤◌, ℕ_discrete, arith, ne_eqb, eqb, drop}
use Rattle.octets.specs.Lists.{Some, Each}
use Rattle.octets.proofs.EachLaws.{each_take, each-drop, each-every}
use Rattle.octets.proofs.TestLaws.{by_bool}
use Rattle.moments.proofs.MomentLaws.{young_in_order, in_turn_lem}
use Rattle.octets.specs.Addresses.{address}
use Rattle.route_table.specs.declared.row.Row.{Row}
use Rattle.route_table.specs.Rows.{stands, standing, row_for}
use Rattle.route_table.proofs.StandingLaws.{standing-all}
use Rattle.route_table.proofs.HasLaws.{Has, each_row}
use Rattle.route_merges.specs.declared.candidate.Candidate.{Candidate}
use Rattle.route_merges.specs.Candidates.{passed_over_of, candidates}
use Rattle.route_merges.specs.Learning.{Learned, learned, learn_all}
use Rattle.route_merges.proofs.HasLaws.{learn_all-has}
use Rattle.route_pages.specs.Pages.{entry_for, on_page}
use Rattle.route_pages.proofs.StandLaws.{on_some_page}
use Rattle.site_converges.specs.Sites.{Site, Sited, Fewest, among, within}
use Rattle.site_converges.specs.Courses.{Heard, Course, span, since_began, Fair, Leads, to_know, Names}
use Rattle.site_converges.specs.RowRounds.{InTurn, AllInTurn, Round, Rounds, RowsConverge, taught, learns, learns_all, rows_after, merged_until, until_after}
use Rattle.site_converges.proofs.SiteLaws.{within_more, within_step, within_elim, within_none, reached}
use Rattle.site_converges.proofs.StepLaws.{Good, Right, Reaches, good-usable, good-stands, good_more, right_more, some-unit, learn_all_right}
use Rattle.site_converges.proofs.PageLaws.{candidates-fit, offer_found}

-- right rows all stand
pub all_stand : (s : Site) (c : Course) (u now limit time : ℕ) (rs : List Row) → Each (Good s c u now limit) rs → Reaches c u now time → standing time rs ≡ rs
all_stand s c u now limit time rs e t =
    standing-all time rs (each-every (Good s c u now limit) (stands time) (λ r g. good-stands s c u now limit time r g t) rs e)

module _ (s : Site) (c : Course) (z : Sited s) (u : ℕ) (m : among u s.units ≡ true) (r : ℕ) (before : ℕ → List Row) (until : ℕ → ℕ)
    (b : (o : ℕ) → among o s.units ≡ true → Right s c o (until o) r r (before o)) where
  -- ---- one page
  module _ (h : Heard) (f : Fair s c u h) (now : ℕ) (i : InTurn c u until now h) (rows : List Row) (g : Right s c u now r (suc r) rows) where
    abbrev o : ℕ
    o = h.from

    -- the ms since this unit began at which it is merged
    abbrev then : ℕ
    then = since_began c u h.time

    wrote : Reaches c o (until o) h.written
    wrote = record { reached = i.wrote; until = f.wrote.until }

    abbrev xs : List Candidate
    xs = candidates u o h.quality (map (entry_for h.written) (on_page (before o) h.page))

    there : Right s c o (until o) r r (before o)
    there = b o (z.inside u o f.near)

    abbrev plain : Learned
    plain = learn_all o h.time xs (learned rows 0)

    -- all rows stand, here and there
    taught_are : taught u before h rows ≡ plain
    taught_are =
        ap₂ {C = Learned} (λ (a b : List Row). learn_all o h.time (candidates u o h.quality (map (entry_for h.written) (on_page a h.page))) (learned b 0))
        (all_stand s c o (until o) r h.written (before o) there.good wrote)
        (all_stand s c u now (suc r) h.time rows g.good (record { reached = i.merged; until = f.merged.until }))

    learns_are : learns u before h rows ≡ plain.rows
    learns_are = ap (λ (l : Learned). l.rows) taught_are

    apart : o ≡ u → ⊥
    apart e = false≢true (sym (z.apart u) ∙ (rw e at f.near))

    both :
        Right s c u then r (suc r) plain.rows × Each (λ x. Has x.destination plain.rows) xs
        × (plain.skipped ≡ 0)
    both =
        learn_all_right s c z u m r o h.time f.merged xs
        (candidates-fit s c u r o f.near h.quality (omega (arith, f.clear)) f.byte (until o) h.written wrote apart (on_page (before o) h.page)
        (each_take (Good s c o (until o) r) 24 (drop (24 * h.page) (before o)) (each-drop (Good s c o (until o) r) (24 * h.page) (before o) there.good)))
        (learned rows 0) (right_more s c u now then r (suc r) (suc r) i.merged (omega arith) rows g)

    pub learns_right : Right s c u then r (suc r) (learns u before h rows)
    learns_right = rw learns_are both.0

    pub none-skipped : (taught u before h rows).skipped ≡ 0
    none-skipped = ap (λ (l : Learned). l.skipped) taught_are ∙ both.2

    learns-has : (d : ℕ) → Has d rows → Has d (learns u before h rows)
    learns-has d k = rw learns_are (learn_all-has d o h.time xs (learned rows 0) k)

    learns-neighbour : Has o (learns u before h rows)
    learns-neighbour = rw learns_are both.1.0

    learns-row : (x : Row) → Some (λ y. y ≡ x) (on_page (before o) h.page) → passed_over_of u o (entry_for h.written x) ≡ false → Has x.destination (learns u before h rows)
    learns-row x i q =
        let rs' = plain.rows in
        rw learns_are (offer_found (λ d. Has d rs') u o h.quality h.written x q (on_page (before o) h.page) both.1.1 i)

  -- ---- all pages
  pub all_right : (hs : List Heard) → Each (Fair s c u) hs → (now : ℕ) → AllInTurn c u until now hs → (rows : List Row) → Right s c u now r (suc r) rows
      → Right s c u (merged_until c u now hs) r (suc r) (learns_all u before hs rows)
  all_right [] f now i rows g = g
  all_right (h ∷ hs) f now i rows g = all_right hs f.1 (since_began c u h.time) i.1 (learns u before h rows) (learns_right h f.0 now i.0 rows g)

  all-has : (d : ℕ) (hs : List Heard) → Each (Fair s c u) hs → (now : ℕ) → AllInTurn c u until now hs → (rows : List Row) → Right s c u now r (suc r) rows
      → Has d rows → Has d (learns_all u before hs rows)
  all-has d [] f now i rows g k = k
  all-has d (h ∷ hs) f now i rows g k =
      all-has d hs f.1 (since_began c u h.time) i.1 (learns u before h rows) (learns_right h f.0 now i.0 rows g) (learns-has h f.0 now i.0 rows g d k)

  -- a page teaches a destination, whatever was learned before it
  abbrev Teaches : ℕ → Heard → Type 0
  Teaches d h = Fair s c u h → (now : ℕ) → InTurn c u until now h → (rows : List Row) → Right s c u now r (suc r) rows → Has d (learns u before h rows)

  -- a destination that some page teaches has a row in the end
  some-has : (d : ℕ) (P : Heard → Type 0) → ((h : Heard) → P h → Teaches d h) → (hs : List Heard) → Each (Fair s c u) hs → Some P hs
      → (now : ℕ) → AllInTurn c u until now hs → (rows : List Row) → Right s c u now r (suc r) rows → Has d (learns_all u before hs rows)
  some-has d P teach [] f p now i rows g = absurd p
  some-has d P teach (h ∷ hs) f p now i rows g =
      let then = since_began c u h.time in
      let next = learns_right h f.0 now i.0 rows g in
      ⊎_elim (λ q. all-has d hs f.1 then i.1 (learns u before h rows) next (teach h q f.0 now i.0 rows g))
      (λ q. some-has d P teach hs f.1 q then i.1 (learns u before h rows) next) p

  -- ---- the round
  -- a neighbour's row for a unit that is not within r links of this one does not lead by this one
  not_over : (d n : ℕ) → (d ≡ u → ⊥) → within s r u d ≡ false → (n ≡ d → ⊥) → (now : ℕ) (x : Row) → x.destination ≡ d → Good s c n now r x → (written : ℕ)
      → passed_over_of u n (entry_for written x) ≡ false
  unfolding entry_for
  not_over d n e f q now x k y written =
      let away : x.next_hop ≡ u → ⊥ = λ v.
      let near : within s y.less u d ≡ true = rw (← v, ← k) y.on in
      false≢true (sym f ∙ within_more s y.less r u d (omega (arith, y.down, y.low)) near) in
      rw (k, ne_eqb d u e, ne_eqb d n (λ v. q (sym v)), ne_eqb x.next_hop u away)

  module _ (hs : List Heard) (a : Round s c u before until hs) (rows : List Row) (g : Right s c u (until u) r (suc r) rows) where
    abbrev end : List Row
    end = learns_all u before hs rows

    -- a unit within r links of a neighbour, and not of this unit, has a row in the end
    further : (d n : ℕ) → (d ≡ u → ⊥) → among n s.units ≡ true → s.linked u n ≡ true → within s r n d ≡ true → within s r u d ≡ false → Has d end
    further d n e i l w f = go (ℕ_discrete n d)
      where
        go : Dec (n ≡ d) → Has d end
        go (yes q) =
            some-has d (λ h. (h.from ≡ n) × (h.page ≡ 0))
            (λ h p k now i rs y. subst (λ (v : ℕ). Has v (learns u before h rs)) (p.0 ∙ q) (learns-neighbour h k now i rs y)) hs a.fair
            (a.all n 0 l refl) (until u) a.turn rows g
        go (no q) =
            let k = (b n i).known d (λ v. q (sym v)) w in
            let positive = some-unit s c z n i r d (reached s r n d i w) in
            let (p, t, o) = on_some_page d positive (before n) k in
            let x = row_for d (before n) in
            let y = each_row (Good s c n (until n) r) d positive (before n) (b n i).good k in
            some-has d (λ h. (h.from ≡ n) × (h.page ≡ p))
            (λ h j v now turn rs w.
            subst (λ (v : ℕ). Has v (learns u before h rs)) k
            (learns-row h v now turn rs w x (rw (j.0, j.1) o) (rw j.0 (not_over d n e f q (until n) x k y h.written))))
            hs a.fair (a.all n p l t) (until u) a.turn rows g

    pub round_right : Right s c u (merged_until c u (until u) hs) (suc r) (suc r) end
    round_right =
        let g' = all_right hs a.fair (until u) a.turn rows g in
        record {
          up = g'.up;
          good = g'.good;
          known =
              λ d e w.
              by_bool (Has d end) (within s r u d) (λ y. g'.known d e y)
              (λ q. within_elim s (Has d end) r u d w (λ y. g'.known d e y) (λ n i l y. further d n e i l y q));
        }

-- ---- any number of rounds
module _ (s : Site) (c : Course) (z : Sited s) where
  none_right : (u : ℕ) → Right s c u 0 0 0 []
  none_right u = record { up = refl; good = tt; known = λ d e w. absurd (e (sym (within_none s u d w))) }

  pub rounds_right : (r : ℕ) → Rounds s c r → (u : ℕ) → among u s.units ≡ true → Right s c u (until_after c r u) r r (rows_after c r u)
  unfolding rows_after until_after
  rounds_right zero a u m = none_right u
  rounds_right (suc r) a u m =
      let before = rounds_right r (λ k h. a k (omega arith)) in
      round_right s c z u m r (rows_after c r) (until_after c r) before (c.heard r u) (a r (omega arith) u m) (rows_after c r u)
      (right_more s c u (until_after c r u) (until_after c r u) r r (suc r) (omega arith) (omega arith) (rows_after c r u) (before u m))

-- ---- what right rows name
module _ (s : Site) (c : Course) (z : Sited s) (r u now : ℕ) (rows : List Row) (g : Right s c u now r r rows) where
  pub row : (d : ℕ) → address d ≡ true → Has d rows → Good s c u now r (row_for d rows)
  row d a h = each_row (Good s c u now r) d (grind (arith, a)) rows g.good h

  leading : (d : ℕ) → Has d rows → Good s c u now r (row_for d rows) → Leads s u d (row_for d rows).next_hop (row_for d rows).hops
  leading d h y =
      let x = row_for d rows in
      let on : within s y.less x.next_hop d ≡ true = rw h at y.on in
      let best : Fewest s x.hops u d = rw h at y.fewest in
      let less : y.less ≡ x.hops - 1 = omega (arith, y.down) in
      record {
        fewest = best;
        near = y.near;
        on =
            record {
              enough = subst (λ (n : ℕ). within s n x.next_hop d ≡ true) less on;
              least = λ k w. omega (arith, best.least (suc k) (within_step s k u x.next_hop d (z.inside u x.next_hop y.near) y.near w));
            };
      }

  named : (d : ℕ) → address d ≡ true → Dec (Has d rows) → eqb (row_for d rows).destination d ≡ to_know s r u d
  named d a (yes h) =
      let y = row d a h in
      grind (arith, h, y.other, within_more s (row_for d rows).hops r u d y.low, y.fewest.enough)
  named d a (no h) = grind (arith, h, g.known d)

  pub right_names : now ≤ span → Names s c r u rows
  right_names limit =
      record {
        exactly = λ d a. named d a (ℕ_discrete (row_for d rows).destination d);
        leads = λ d a h. leading d h (row d a h);
        lasting =
            λ d time a h t o.
            let y = row d a h in
            let x = row_for d rows in
            let young = young_in_order x.time (c.began u) span (omega arith) (omega (arith, y.at)) in
            good-usable s c u (since_began c u x.time) r time x (good_more s c u now (since_began c u x.time) r r (omega arith) x (omega arith) y)
            (record { reached = in_turn_lem (c.began u) x.time time young o; until = t.until });
      }

-- all that is merged is merged in time
merged_in-time : (s : Site) (c : Course) (u : ℕ) (hs : List Heard) → Each (Fair s c u) hs → (now : ℕ) → now ≤ span → merged_until c u now hs ≤ span
merged_in-time s c u [] f now l = l
merged_in-time s c u (h ∷ hs) f now l = merged_in-time s c u hs f.1 (since_began c u h.time) f.0.merged.until

pub until_in_time : (s : Site) (c : Course) (r : ℕ) → Rounds s c r → (u : ℕ) → among u s.units ≡ true → until_after c r u ≤ span
unfolding until_after
until_in_time s c zero a u m = omega arith
until_in_time s c (suc r) a u m = merged_in-time s c u (c.heard r u) (a r (omega arith) u m).fair (until_after c r u) (until_in_time s c r (λ k h. a k (omega arith)) u m)

pub rows_converge : RowsConverge
rows_converge s c r z a u m = right_names s c z r u (until_after c r u) (rows_after c r u) (rounds_right s c z r a u m) (until_in_time s c r a u m)
