-- One candidate in the middle of a round: the rows stay right, the candidate's destination has one, and none is skipped.
-- Assumes nothing.
use Rattle.octets.proofs.Words.{◌≡◌, refl, ap, ◌∙◌, true, false, not, ◌&&◌, List, [], ◌∷◌, ℕ, suc, ◌≤◌, ◌<◌, arith, le-ltb, le-leb, eqb, length}
use Rattle.octets.specs.Lists.{Each}
use Rattle.octets.proofs.EachLaws.{each_also}
use Rattle.octets.proofs.TestLaws.{by_bool}
use Rattle.moments.specs.Moments.{age_at}
use Rattle.moments.proofs.MomentLaws.{age-between}
use Rattle.octets.specs.Addresses.{address}
use Rattle.octets.proofs.OrderLaws.{put-ascending, find_put}
use Rattle.route_table.specs.declared.row.Row.{Row}
use Rattle.route_table.specs.Rows.{none, leading_to, usable, stands, ascending, row_for}
use Rattle.route_table.proofs.HasLaws.{Has, each_row}
use Rattle.route_merges.specs.declared.candidate.Candidate.{Candidate}
use Rattle.route_merges.specs.Candidates.{bad}
use Rattle.route_merges.specs.Learning.{put, row_by, gives_way, taken_back, Learned, learned, learn, learn_all}
use Rattle.route_merges.proofs.HasLaws.{put_has, each-put, learn_all-has}
use Rattle.site_converges.specs.Sites.{Site, Sited, Fewest, among, within}
use Rattle.site_converges.specs.Courses.{Course, span, since_began, InTime}
use Rattle.site_converges.proofs.SiteLaws.{among-every, within_more, reached, fewest-step}
use Rattle.site_converges.proofs.CountLaws.{For, without, without_shorter, without_other, no_more, one_more}

-- ---- right rows
-- a row of the unit u, so many ms after it began: for another unit, not withdrawn, by the fewest hops and at most so many, over a neighbour that is one hop
-- nearer
pub record Good (s : Site) (c : Course) (u now limit : ℕ) (r : Row) : Type 0 where
  pub other : r.destination ≡ u → ⊥
  pub awake : r.withdrawn ≡ false
  pub at : since_began c u r.time ≤ now
  pub clear : 40 ≤ r.quality
  pub byte : r.quality ≤ 255
  pub fewest : Fewest s r.hops u r.destination
  pub low : r.hops ≤ limit
  pub near : s.linked u r.next_hop ≡ true
  pub less : ℕ
  pub down : r.hops ≡ suc less
  pub on : within s less r.next_hop r.destination ≡ true

-- rows of the unit u that are right by then, and name at least the units within `from` links and at most those within `to`
pub record Right (s : Site) (c : Course) (u now from to : ℕ) (rows : List Row) : Type 0 where
  pub up : ascending rows ≡ true
  pub good : Each (Good s c u now to) rows
  pub known : (d : ℕ) → (d ≡ u → ⊥) → within s from u d ≡ true → Has d rows

-- a candidate by a neighbour: one hop more than the fewest from there
pub record Offer (s : Site) (u r via : ℕ) (x : Candidate) : Type 0 where
  pub near : s.linked u via ≡ true
  pub other : x.destination ≡ u → ⊥
  pub less : ℕ
  pub down : x.hops ≡ suc less
  pub low : less ≤ r
  pub fewest : Fewest s less via x.destination
  pub clear : 40 ≤ x.quality
  pub byte : x.quality ≤ 255

-- a time that is in time, and no sooner than so many ms after the unit began
pub record Reaches (c : Course) (u now time : ℕ) : Type 0 where
  pub reached : now ≤ since_began c u time
  pub until : since_began c u time ≤ span

-- every time in time reaches itself
pub reaches : (c : Course) (u time : ℕ) → InTime c u time → Reaches c u (since_began c u time) time
reaches c u time t = record { reached = omega arith; until = t.until }

module _ (s : Site) (c : Course) (u : ℕ) where
  pub aged : (now limit time : ℕ) (r : Row) → Good s c u now limit r → Reaches c u now time → age_at time r.time ≤ 300000
  aged now limit time r g t = omega (arith, t.until, age-between (c.began u) r.time time (omega (arith, g.at, t.reached)))

  pub good-usable : (now limit time : ℕ) (r : Row) → Good s c u now limit r → Reaches c u now time → usable time r ≡ true
  good-usable now limit time r g t = rw (g.awake, le-leb (age_at time r.time) 300000 (aged now limit time r g t))

  pub good-stands : (now limit time : ℕ) (r : Row) → Good s c u now limit r → Reaches c u now time → stands time r ≡ true
  good-stands now limit time r g t =
      let a = aged now limit time r g t in
      rw g.awake (le-leb (age_at time r.time) 360000 (omega (arith, a)))

  -- at any time from the row's own on, and with any higher limit
  pub good_more : (now later limit more : ℕ) → limit ≤ more → (r : Row) → since_began c u r.time ≤ later → Good s c u now limit r → Good s c u later more r
  good_more now later limit more h r k g =
      record {
        other = g.other;
        awake = g.awake;
        at = k;
        clear = g.clear;
        byte = g.byte;
        fewest = g.fewest;
        low = omega (arith, g.low);
        near = g.near;
        less = g.less;
        down = g.down;
        on = g.on;
      }

  pub right_more : (now later from to more : ℕ) → now ≤ later → to ≤ more → (rows : List Row) → Right s c u now from to rows → Right s c u later from more rows
  right_more now later from to more k h rows g =
      record { up = g.up; good = each_also (Good s c u now to) (Good s c u later more) (λ r y. good_more now later to more h r (omega (arith, y.at)) y) rows g.good; known = g.known }

module _ (s : Site) (c : Course) (z : Sited s) (u : ℕ) (m : among u s.units ≡ true) (r : ℕ) where
  pub some-unit : (d : ℕ) → among d s.units ≡ true → 0 < d
  some-unit d k = grind (arith, among-every address s.units z.addresses d k)

  pub named : (now limit : ℕ) (x : Row) → Good s c u now limit x → among x.destination s.units ≡ true
  named now limit x g = reached s x.hops u x.destination m g.fewest.enough

  -- right rows are at most 48
  pub few-rows : (now limit : ℕ) (rows : List Row) → ascending rows ≡ true → Each (Good s c u now limit) rows → length rows ≤ 48
  few-rows now limit rows up good =
      let each = each_also (Good s c u now limit) (For (without u s.units)) (λ x y. without_other u x.destination y.other s.units (named now limit x y)) rows good in
      omega (arith, no_more rows (without u s.units) up each, without_shorter u s.units m, z.few)

  module _ (via time : ℕ) (t : InTime c u time) (x : Candidate) (o : Offer s u r via x) where
    abbrev d : ℕ
    d = x.destination

    abbrev now : ℕ
    now = since_began c u time

    -- the candidate's destination is a unit of the site
    unit : among d s.units ≡ true
    unit = reached s o.less via d (z.inside u via o.near) o.fewest.enough

    -- ---- a candidate that is no better than the row there is
    module _ (y : Row) (e : y.destination ≡ d) (g : Good s c u now (suc r) y) (w : within s o.less u d ≡ true) where
      shorter : y.hops ≤ o.less
      shorter = g.fewest.least o.less (rw (← e) at w)

      -- that row does not lead by this neighbour
      elsewhere : y.next_hop ≡ via → ⊥
      elsewhere q =
          let there : within s g.less via d ≡ true = rw (← q, ← e) g.on in
          omega (arith, o.fewest.least g.less there, g.down, shorter)

      not_taken : taken_back via time y ≡ true → ⊥
      not_taken k = grind (arith, elsewhere, k)

      no_way : gives_way via time x y ≡ true → ⊥
      no_way k = grind (arith, elsewhere, shorter, o.down, good-usable s c u now (suc r) time y g (reaches c u time t), k)

    -- ---- a candidate with the fewest hops
    module _ (w : within s o.less u d ≡ false) where
      best : Fewest s (suc o.less) u d
      best = fewest-step s o.less u via d (z.inside u via o.near) o.near o.fewest.enough w

      fine : bad x ≡ false
      fine =
          let short = best.least _ (z.across u d m unit) in
          rw (le-ltb 16 x.hops (omega (arith, short, o.down)), le-ltb x.quality 40 o.clear)

      new : Good s c u now (suc r) (row_by via time x)
      new =
          record {
            other = o.other;
            awake = refl;
            at = omega arith;
            clear = o.clear;
            byte = o.byte;
            fewest = rw o.down best;
            low = omega (arith, o.down, o.low);
            near = o.near;
            less = o.less;
            down = o.down;
            on = o.fewest.enough;
          }

    -- ---- either
    module _ (l : Learned) (h : Right s c u now r (suc r) l.rows) where
      abbrev y : Row
      y = row_for d l.rows

      there : Has d l.rows → Good s c u now (suc r) y
      there e = each_row (Good s c u now (suc r)) d (some-unit d unit) l.rows h.good e

      abbrev After : Learned → Type 0
      After k = Right s c u now r (suc r) k.rows × Has d k.rows × (k.skipped ≡ l.skipped)

      put_right : Good s c u now (suc r) (row_by via time x) → Right s c u now r (suc r) (put (row_by via time x) l.rows)
      put_right g =
          record {
            up = put-ascending leading_to (row_by via time x) l.rows h.up;
            good = each-put (Good s c u now (suc r)) (row_by via time x) g l.rows h.good;
            known = λ k n w. put_has k (row_by via time x) l.rows (h.known k n w);
          }

      has-put : Has d (put (row_by via time x) l.rows)
      has-put = ap (λ (q : Row). q.destination) (find_put leading_to none (row_by via time x) l.rows)

      room : (Has d l.rows → ⊥) → length l.rows < 48
      room n =
          let each = each_also (Good s c u now (suc r)) (λ q. For s.units q × (q.destination ≡ u → ⊥)) (λ q g. (named now (suc r) q g, g.other)) l.rows h.good in
          omega (arith, one_more s.units u d m unit o.other l.rows h.up each n, z.few)

      learn_right : After (learn via time x l)
      unfolding learn
      learn_right =
          by_bool (After (learn via time x l)) (within s o.less u d)
          (λ w.
          let e = h.known d o.other (within_more s o.less r u d o.low w) in
          let g = there e in
          let same : learn via time x l ≡ l = grind (arith, e, not_taken y e g w, no_way y e g w) in
          rw same (h, e, refl))
          (λ w.
          by_bool (After (learn via time x l)) (eqb y.destination d && not (gives_way via time x y))
          (λ q.
          let same : learn via time x l ≡ l = grind (arith, q, fine w) in
          rw same (h, grind (arith, q), refl))
          (λ q.
          let wins : learn via time x l ≡ learned (put (row_by via time x) l.rows) l.skipped = grind (arith, q, fine w, room) in
          rw wins (put_right (new w), has-put, refl)))

  -- ---- one candidate after the other
  pub learn_all_right : (via time : ℕ) → InTime c u time → (xs : List Candidate) → Each (Offer s u r via) xs → (l : Learned) → Right s c u (since_began c u time) r (suc r) l.rows
      → Right s c u (since_began c u time) r (suc r) (learn_all via time xs l).rows × Each (λ x. Has x.destination (learn_all via time xs l).rows) xs × ((learn_all via time xs l).skipped ≡ l.skipped)
  learn_all_right via time t [] os l h = (h, tt, refl)
  learn_all_right via time t (x ∷ xs) os l h =
      let (now, has, kept) = learn_right via time t x os.0 l h in
      let (end, later, none) = learn_all_right via time t xs os.1 (learn via time x l) now in
      (end, (learn_all-has x.destination via time xs (learn via time x l) has, later), none ∙ kept)
