-- Through the calls a table comes to hold what its rows learn, and so it converges.
-- Assumes nothing.
use Rattle.octets.proofs.Words.{◌≡◌, refl, sym, ap, subst, ◌∙◌, true, and-eq-true_iff, false≢true, List, [], ◌∷◌, ◌++◌, map, ℕ, zero, suc, ◌+◌, ◌≤◌, ◌<◌, ℕ_discrete, arith, length, get_or, take}
use Rattle.octets.specs.Answers.{Said, accepted}
use Rattle.octets.specs.Layouts.{Bytes}
use Rattle.octets.specs.Lists.{Each}
use Rattle.octets.proofs.AnswerLaws.{unless-none}
use Rattle.octets.proofs.StoreLaws.{take-sets}
use Rattle.moments.specs.Elapsed.{Clock, started, moved}
use Rattle.moments.specs.Moments.{age_at, in_order}
use Rattle.moments.proofs.MomentLaws.{no_age, young_in_order, ages_add, in_turn_lem}
use Rattle.octets.specs.Addresses.{address}
use Rattle.octets.proofs.AddressLaws.{address-fits}
use Rattle.route_table.specs.declared.row.Row.{Row}
use Rattle.route_table.specs.declared.table.Table.{Table}
use Rattle.route_table.specs.Rows.{standing}
use Rattle.route_table.specs.Tables.{rows_of, within_rule, fresh_of}
use Rattle.route_table.proofs.KeepLaws.{fresh-within}
use Rattle.route_table.proofs.RuleLaws.{rows_of-pad}
use Rattle.route_bytes.specs.TableTrips.{Sized}
use Rattle.route_merges.specs.Candidates.{candidates}
use Rattle.route_merges.specs.Learning.{Learned, learned, learn_all}
use Rattle.route_merges.specs.Merges.{merge_refusal, merged_rows, merge_of}
use Rattle.route_merges.proofs.KeepLaws.{merge-gives, merge-rules, merge-within}
use Rattle.route_pages.specs.Pages.{entry_for, on_page, page_frame, page_refusal, page_of}
use Rattle.route_pages.proofs.PageLaws.{page_short}
use Rattle.route_pages.proofs.StandLaws.{page_frame-bytes}
use Rattle.route_history.specs.TableCalls.{answer, next, after_calls, Happened, recorded, step_of, clock_of}
use Rattle.c_read_back.specs.FramesRead.{Paged, Offered}
use Rattle.c_read_back.proofs.OfferLaws.{pages_offer}
use Rattle.c_read_back.proofs.PageReadLaws.{pages_are_read}
use Rattle.c_history.proofs.KeptLaws.{sized-kept, sized-next}
use Rattle.site_converges.specs.Sites.{Site, Sited, among}
use Rattle.site_converges.specs.Courses.{Heard, Course, span, since_began, InTime, Fair, Names}
use Rattle.site_converges.specs.RowRounds as rows
use Rattle.site_converges.specs.RowRounds.{InTurn, AllInTurn, taught, learns, learns_all, rows_after, merged_until, until_after, to_hear}
use Rattle.site_converges.specs.Rounds.{page_buffer, bytes_of, taking, table_after, record_after, ordered, Sent, Clocks, Round, Rounds}
use Rattle.site_converges.specs.Laws.{AllTaken, Converges, ElapsesInTime, NoneRefused}
use Rattle.site_converges.proofs.SiteLaws.{among-every}
use Rattle.site_converges.proofs.StepLaws.{Right, right_more}
use Rattle.site_converges.proofs.RoundLaws.{all_stand, learns_right, none-skipped, rounds_right, until_in_time, rows_converge}

-- ---- units
module _ (s : Site) (z : Sited s) where
  pub unit-address : (d : ℕ) → among d s.units ≡ true → address d ≡ true
  unit-address d m = among-every address s.units z.addresses d m

-- ---- times
-- the beginning is in order with a time in time
began-before : (c : Course) (u time : ℕ) → InTime c u time → in_order (c.began u) time ≡ true
began-before c u time t = young_in_order time (c.began u) span (omega arith) t.until

-- of two times in order, the first in time, the second is no sooner after the beginning
pub no_sooner : (c : Course) (u first second : ℕ) → InTime c u first → in_order first second ≡ true → since_began c u first ≤ since_began c u second
no_sooner c u first second t o = in_turn_lem (c.began u) first second (began-before c u first t) o

-- ---- a table in a round
-- a unit's table with these rows, so many ms after it began: its own, within rule, with numbers that fit their bytes, and its last accepted time in time
pub record Holds (c : Course) (u now : ℕ) (t : Table) (rows : List Row) : Type 0 where
  pub own : t.own ≡ u
  pub holds : rows_of t ≡ rows
  pub rule : within_rule t ≡ true
  pub at : InTime c u t.time
  pub since : since_began c u t.time ≡ now
  pub sized : Sized t

module _ (s : Site) (c : Course) (z : Sited s) (r : ℕ) (before : ℕ → Table) (their : ℕ → List Row) (until : ℕ → ℕ)
    (same : (o : ℕ) → among o s.units ≡ true → Holds c o (until o) (before o) (their o))
    (right : (o : ℕ) → among o s.units ≡ true → Right s c o (until o) r r (their o)) (u : ℕ) (m : among u s.units ≡ true) where
  -- ---- one page
  module _ (h : Heard) (f : Fair s c u h) (g : Sent before h) where
    abbrev o : ℕ
    o = h.from

    abbrev tb : Table
    tb = before o

    unit : among o s.units ≡ true
    unit = z.inside u o f.near

    reached : until o ≤ since_began c o h.written
    reached = subst (λ (n : ℕ). n ≤ since_began c o h.written) (same o unit).since (no_sooner c o tb.time h.written (same o unit).at g.timely)

    stood : standing h.written (rows_of tb) ≡ rows_of tb
    stood =
        subst (λ (rs : List Row). standing h.written rs ≡ rs) (sym (same o unit).holds)
        (all_stand s c o (until o) r h.written (their o) (right o unit).good (record { reached = reached; until = f.wrote.until }))

    -- it is written
    none : page_refusal tb h.page h.written (length page_buffer) ≡ 0
    none =
        let there : to_hear (standing h.written (rows_of tb)) h.page ≡ true = rw (sym stood) at g.there in
        grind (arith, (same o unit).rule, g.timely, there, page_short tb h.page h.written)

    abbrev size : ℕ
    size = length (page_frame tb h.page h.written)

    said : (page_of tb h.page h.written page_buffer).said ≡ accepted (size ∷ [])
    unfolding page_of
    said = unless-none _ (accepted (size ∷ [])) none

    pub written : (page_of tb h.page h.written page_buffer).said.refusal ≡ 0
    written = ap (λ (x : Said). x.refusal) said

    abbrev heard : List ℕ
    heard = bytes_of tb h.page h.written

    -- and read as its rows
    offers : Offered tb.own h.written (on_page (standing h.written (rows_of tb)) h.page) heard
    offers =
        pages_offer tb.own h.written (on_page (standing h.written (rows_of tb)) h.page) heard
        (subst (λ (x : Said). Paged tb.own h.written (on_page (standing h.written (rows_of tb)) h.page) (take (get_or x.values 0 0) (page_of tb h.page h.written page_buffer).held)) (sym said)
        (pages_are_read tb h.page h.written page_buffer size (same o unit).sized f.wrote.bits said))

    bytes : Bytes heard
    unfolding page_of
    bytes = rw (none, take-sets page_buffer (page_frame tb h.page h.written) size refl (page_short tb h.page h.written)) (page_frame-bytes tb h.page h.written)

    pub machine : Bytes heard × (h.quality < 0x100) × (h.time < 0x100000000)
    machine = (bytes, omega (arith, f.byte), f.merged.bits)

    module _ (t : Table) (now : ℕ) (rows : List Row) (k : Holds c u now t rows) (y : Right s c u now r (suc r) rows) (order : in_order t.time h.time ≡ true) where
      -- it comes in its turn
      pub turn : InTurn c u until now h
      turn =
          record {
            wrote = reached;
            merged = subst (λ (n : ℕ). n ≤ since_began c u h.time) k.since (no_sooner c u t.time h.time k.at order);
          }

      apart : tb.own ≡ t.own → ⊥
      apart e = false≢true (sym (z.apart u) ∙ subst (λ (n : ℕ). s.linked u n ≡ true) (sym (same o unit).own ∙ (e ∙ k.own)) f.near)

      -- it is merged
      taken : merge_refusal t heard h.quality h.time ≡ 0
      taken = grind (arith, offers.refusals t h.quality h.time, k.rule, apart, order, f.clear)

      pub merged : (merge_of t heard h.quality h.time).refused ≡ 0
      unfolding merge_of
      merged = taken

      -- and what it teaches is what the page's rows teach
      teaches : merged_rows t heard h.quality h.time ≡ taught u their h rows
      teaches =
          offers.learnt t h.quality h.time
          ∙ (λ i.
          learn_all ((same o unit).own i) h.time
          (candidates (k.own i) ((same o unit).own i) h.quality (map (entry_for h.written) (on_page (standing h.written ((same o unit).holds i)) h.page)))
          (learned (standing h.time (k.holds i)) 0))

      pub unskipped : (merge_of t heard h.quality h.time).skipped ≡ 0
      unfolding merge_of
      unskipped = rw taken (ap (λ (l : Learned). l.skipped) teaches ∙ none-skipped s c z u m r their until right h f now turn rows y)

      pub next_right : Right s c u (since_began c u h.time) r (suc r) (learns u their h rows)
      next_right = learns_right s c z u m r their until right h f now turn rows y

      pub next-time : (next t (taking before h)).time ≡ h.time
      next-time = ap (λ (x : Table). x.time) (merge-gives t heard h.quality h.time merged)

      pub next-holds : Holds c u (since_began c u h.time) (next t (taking before h)) (learns u their h rows)
      next-holds =
          let gives = merge-gives t heard h.quality h.time merged in
          record {
            own = ap (λ (x : Table). x.own) gives ∙ k.own;
            holds =
                ap rows_of gives
                ∙ (rows_of-pad t.own h.time (merged_rows t heard h.quality h.time).rows (merge-rules t heard h.quality h.time merged) ∙ ap (λ (l : Learned). l.rows) teaches);
            rule = merge-within t heard h.quality h.time merged;
            at = subst (InTime c u) (sym next-time) f.merged;
            since = ap (since_began c u) next-time;
            sized = sized-next t (taking before h) machine k.sized;
          }

  -- ---- all pages
  -- a table that holds rows which are right in the middle of a round
  pub record Midway (now : ℕ) (rows : List Row) (t : Table) : Type 0 where
    pub held : Holds c u now t rows
    pub fine : Right s c u now r (suc r) rows

  -- what holds at the end of the pages, and before a page if it does behind it, holds from the beginning on
  by_pages : (P : Table → ℕ → List Row → List Heard → Type 0) → ((t : Table) (now : ℕ) (rows : List Row) → Midway now rows t → P t now rows [])
      → ((h : Heard) (hs : List Heard) (t : Table) (now : ℕ) (rows : List Row) → Fair s c u h → Sent before h → Midway now rows t → in_order t.time h.time ≡ true
      → P (next t (taking before h)) (since_began c u h.time) (learns u their h rows) hs → P t now rows (h ∷ hs))
      → (hs : List Heard) → Each (Fair s c u) hs → Each (Sent before) hs → (t : Table) → ordered t.time hs ≡ true → (now : ℕ) (rows : List Row)
      → Midway now rows t → P t now rows hs
  by_pages P end page [] f g t order now rows k = end t now rows k
  by_pages P end page (h ∷ hs) f g t order now rows k =
      let (first, rest) = (and-eq-true_iff (in_order t.time h.time) (ordered h.time hs)).0 order in
      let time = next-time h f.0 g.0 t now rows k.held k.fine first in
      page h hs t now rows f.0 g.0 k first
      (by_pages P end page hs f.1 g.1 (next t (taking before h)) (subst (λ (n : ℕ). ordered n hs ≡ true) (sym time) rest)
      (since_began c u h.time) (learns u their h rows) (record {
        held = next-holds h f.0 g.0 t now rows k.held k.fine first;
        fine = next_right h f.0 g.0 t now rows k.held k.fine first;
      }))

  module _ (hs : List Heard) (f : Each (Fair s c u) hs) (g : Each (Sent before) hs) (t : Table) (order : ordered t.time hs ≡ true) (now : ℕ) (rows : List Row)
      (k : Midway now rows t) where
    pub all_held : Holds c u (merged_until c u now hs) (after_calls t (map (taking before) hs)) (learns_all u their hs rows)
    all_held =
        by_pages (λ t now rows hs. Holds c u (merged_until c u now hs) (after_calls t (map (taking before) hs)) (learns_all u their hs rows)) (λ t now rows k. k.held)
        (λ h hs t now rows f g k o later. later) hs f g t order now rows k

    pub all-turn : AllInTurn c u until now hs
    all-turn =
        by_pages (λ t now rows hs. AllInTurn c u until now hs) (λ t now rows k. tt)
        (λ h hs t now rows f g k o later. (turn h f g t now rows k.held k.fine o, later)) hs f g t order now rows k

    pub all-taken : AllTaken before hs t
    all-taken =
        by_pages (λ t now rows hs. AllTaken before hs t) (λ t now rows k. tt)
        (λ h hs t now rows f g k o later. (written h f g, merged h f g t now rows k.held k.fine o, unskipped h f g t now rows k.held k.fine o, later))
        hs f g t order now rows k

    -- the clock of the calls: the table's last accepted time, and the ms since the unit began
    pub all_clocked : (clock : Clock) → clock ≡ record { last = t.time; elapsed = now }
        → clock_of clock (recorded t (map (taking before) hs)) ≡ record { last = (after_calls t (map (taking before) hs)).time; elapsed = merged_until c u now hs }
    all_clocked =
        by_pages
        (λ t now rows hs.
        (clock : Clock) → clock ≡ record { last = t.time; elapsed = now }
        → clock_of clock (recorded t (map (taking before) hs)) ≡ record { last = (after_calls t (map (taking before) hs)).time; elapsed = merged_until c u now hs })
        (λ t now rows k clock e. e) (λ h hs t now rows f g k o later clock e. later _ (clocked h f g t now rows k o clock e)) hs f g t order now rows k
      where
        clocked : (h : Heard) (f : Fair s c u h) (g : Sent before h) (t : Table) (now : ℕ) (rows : List Row) (k : Midway now rows t) (o : in_order t.time h.time ≡ true)
            (clock : Clock) → clock ≡ record { last = t.time; elapsed = now }
            → moved clock (step_of (record { call = taking before h; refused = (answer t (taking before h)).refused })) ≡ record { last = (next t (taking before h)).time; elapsed = since_began c u h.time }
        clocked h f g t now rows k o clock e =
            let time = sym (next-time h f g t now rows k.held k.fine o) in
            let elapsed : now + age_at h.time t.time ≡ since_began c u h.time =
            omega (arith, ages_add (c.began u) t.time h.time (began-before c u t.time k.held.at) o, k.held.since) in
            rw (merged h f g t now rows k.held k.fine o, e) (λ i. record { last = time i; elapsed = elapsed i })

-- the clock goes over one record behind another
clock_on : (k : Clock) (hs more : List Happened) → clock_of k (hs ++ more) ≡ clock_of (clock_of k hs) more
clock_on k [] more = refl
clock_on k (h ∷ hs) more = clock_on (moved k (step_of h)) hs more

-- ---- rounds
module _ (s : Site) (c : Course) (z : Sited s) (w : Clocks s c) where
  pub fresh-taken : (u : ℕ) → among u s.units ≡ true → (fresh_of u (c.began u)).refused ≡ 0
  unfolding fresh_of
  fresh-taken u m = rw (unit-address s z u m)

  -- what is known of a unit after some rounds: its table, and the clock of its calls
  pub record Comes (r u : ℕ) : Type 0 where
    pub held : Holds c u (until_after c r u) (table_after c r u) (rows_after c r u)
    pub clock : clock_of (started (c.began u)) (record_after c r u) ≡ record { last = (table_after c r u).time; elapsed = until_after c r u }

  fresh_comes : (u : ℕ) → among u s.units ≡ true → Comes 0 u
  unfolding table_after record_after rows_after until_after fresh_of
  fresh_comes u m =
      let a = unit-address s z u m in
      let none = no_age (c.began u) in
      record {
        held = record {
          own = rw a;
          holds = rw a;
          rule = fresh-within u (c.began u) (fresh-taken u m);
          at = rw a (record { bits = w u m; until = omega (arith, none) });
          since = rw a none;
          sized = sized-kept.0 u (c.began u) (address-fits u a) (w u m);
        };
        clock = rw a;
      }

  -- one round more
  module _ (r : ℕ) (rounds : rows.Rounds s c r) (comes : (u : ℕ) → among u s.units ≡ true → Comes r u)
      (round : (u : ℕ) → among u s.units ≡ true → Round s c u (table_after c r) (c.heard r u)) where
    right : (u : ℕ) → among u s.units ≡ true → Right s c u (until_after c r u) r r (rows_after c r u)
    right = rounds_right s c z r rounds

    same : (u : ℕ) → among u s.units ≡ true → Holds c u (until_after c r u) (table_after c r u) (rows_after c r u)
    same u m = (comes u m).held

    module _ (u : ℕ) (m : among u s.units ≡ true) where
      midway : Midway s c z r (table_after c r) (rows_after c r) (until_after c r) same right u m (until_after c r u) (rows_after c r u) (table_after c r u)
      midway =
          record {
            held = same u m;
            fine = right_more s c u (until_after c r u) (until_after c r u) r r (suc r) (omega arith) (omega arith) (rows_after c r u) (right u m);
          }

      next_comes : Comes (suc r) u
      unfolding table_after record_after rows_after until_after
      next_comes =
          let a = round u m in
          record {
            held =
                all_held s c z r (table_after c r) (rows_after c r) (until_after c r) same right u m (c.heard r u) a.fair a.sent (table_after c r u) a.order (until_after c r u)
                (rows_after c r u) midway;
            clock =
                clock_on (started (c.began u)) (record_after c r u) _
                ∙ all_clocked s c z r (table_after c r) (rows_after c r) (until_after c r) same right u m (c.heard r u) a.fair a.sent (table_after c r u) a.order (until_after c r u)
                (rows_after c r u) midway _ (comes u m).clock;
          }

      row_round : rows.Round s c u (rows_after c r) (until_after c r) (c.heard r u)
      row_round =
          let a = round u m in
          record {
            fair = a.fair;
            turn =
                all-turn s c z r (table_after c r) (rows_after c r) (until_after c r) same right u m (c.heard r u) a.fair a.sent (table_after c r u) a.order (until_after c r u)
                (rows_after c r u) midway;
            all = λ o p l t. a.all o p l (subst (λ (rs : List Row). to_hear rs p ≡ true) (sym (same o (z.inside u o l)).holds) t);
          }

      round_taken : AllTaken (table_after c r) (c.heard r u) (table_after c r u)
      round_taken =
          let a = round u m in
          all-taken s c z r (table_after c r) (rows_after c r) (until_after c r) same right u m (c.heard r u) a.fair a.sent (table_after c r u) a.order (until_after c r u)
          (rows_after c r u) midway

  pub tables_hold : (r : ℕ) → Rounds s c r → rows.Rounds s c r × ((u : ℕ) → among u s.units ≡ true → Comes r u)
  tables_hold zero a = (λ k h. absurd (omega arith), fresh_comes)
  tables_hold (suc r) a =
      let (rounds, comes) = tables_hold r (λ k h. a k (omega arith)) in
      (λ k h u m. go rounds u m (row_round r rounds comes (a r (omega arith)) u m) k h (ℕ_discrete k r), next_comes r rounds comes (a r (omega arith)))
    where
      go : rows.Rounds s c r → (u : ℕ) → among u s.units ≡ true → rows.Round s c u (rows_after c r) (until_after c r) (c.heard r u) → (k : ℕ) → suc k ≤ suc r → Dec (k ≡ r)
          → rows.Round s c u (rows_after c k) (until_after c k) (c.heard k u)
      go rounds u m last k h (no e) = rounds k (omega arith) u m
      go rounds u m last k h (yes e) = subst (λ (n : ℕ). rows.Round s c u (rows_after c n) (until_after c n) (c.heard n u)) (sym e) last

pub converges : Converges
converges s c r p u m =
    let (rounds, comes) = tables_hold s c p.site p.clocks r p.rounds in
    subst (Names s c r u) (sym (comes u m).held.holds) (rows_converge s c r p.site rounds u m)

pub elapses_in_time : ElapsesInTime
elapses_in_time s c r p u m =
    let (rounds, comes) = tables_hold s c p.site p.clocks r p.rounds in
    let t = table_after c r u in
    let held = (comes u m).held in
    rw (comes u m).clock (
      until_in_time s c r rounds u m,
      λ time q. omega (arith, ages_add (c.began u) t.time time (began-before c u t.time held.at) q.order, held.since),
    )

pub none-refused : NoneRefused
none-refused s c r p k h u m =
    let z = p.site in
    let w = p.clocks in
    let (rounds, comes) = tables_hold s c z w k (λ j l. p.rounds j (omega arith)) in
    round_taken s c z w k rounds comes (p.rounds k h) u m
