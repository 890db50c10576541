-- The rule of rows as sums, and what keeps it: silent rows dropped, a member's row written, a row emptied.
-- Assumes nothing.
use Rattle.octets.proofs.Words.{◌≡◌, refl, sym, ap, ◌∙◌, Bool, true, false, ◌&&◌, cond, false≢true, and-eq-true_iff, or-true, List, [], ◌∷◌, map, ℕ, zero, suc, ◌+◌, ◌≤◌, ◌<◌, arith, eq-eqb, ne_eqb, eqb-true, le-leb, leb-true, eqb, leb, length, set}
use Rattle.octets.specs.Lists.{every}
use Rattle.octets.proofs.ListLaws.{every-at}
use Rattle.moments.specs.Moments.{age_at, in_order}
use Rattle.moments.proofs.MomentLaws.{young_in_order}
use Rattle.octets.specs.Addresses.{address}
use Rattle.octets.proofs.AddressLaws.{address-some}
use Rattle.slot_sets.specs.Sets.{Slots, has, count, is_empty, Subset, no_slots, union, minus, disjoint, firsts}
use Rattle.slot_sets.proofs.SetLaws.{nothing-has, empty_is-nothing, subset_by_minus, union-either, in_union, minus-both, meet_subset}
use Rattle.slot_sets.proofs.CountLaws.{empty_by_count, count_of_union, count_of_minus}
use Rattle.slot_sets.proofs.LowestLaws.{count_of_firsts}
use Rattle.book_members.specs.Members.{Row, empty_row, vacant_row, kept, current, place_for, held_slots, free, vacant, spare, fewest_slots, most_slots, member_with}
use Rattle.book_members.specs.Rules.{empty_is, row_rule, distinct, apart, led_by, rows_rule, Used, past_time}
use Rattle.book_members.proofs.RowLaws.{row, every-current, every_set, kept_either}
use Rattle.book_members.proofs.RowSums.{weigh, weigh_set, weigh_current, one, tally, of_unit, owns, distinct_tally, tally_distinct, held_none, apart_tally, tally_apart}

-- ---- one row
pub no_count : count (no_slots {n = 64}) ≡ 0
no_count = eqb-true (count (no_slots {n = 64})) 0 (sym (empty_by_count 64 no_slots) ∙ (empty_is-nothing 64 no_slots).1 refl)

row-zeros : (unit : ℕ) (slots : Slots 64) (time : ℕ) → unit ≡ 0 → slots ≡ no_slots → time ≡ 0 → member_with unit slots time ≡ empty_row
row-zeros unit slots time a b c = rw (a, b, c)

module _ (dataSlots : ℕ) (r : Row) where
  pub used_rule : Used dataSlots r → row_rule dataSlots r ≡ true
  used_rule m =
      rw (ne_eqb r.unit 0 (address-some r.unit m.unit), m.unit, le-leb fewest_slots (count r.slots) m.least, le-leb (count r.slots) most_slots m.most, (subset_by_minus 64 r.slots (firsts dataSlots)).1 m.inside)

  pub rule_used : row_rule dataSlots r ≡ true → vacant_row r ≡ false → Used dataSlots r
  rule_used e f =
      let unit = address r.unit in
      let many = leb fewest_slots (count r.slots) && leb (count r.slots) most_slots in
      let inside = is_empty (minus r.slots (firsts dataSlots)) in
      let all : (unit && many && inside) ≡ true = rw f at e in
      let (e₂, in-firsts) = (and-eq-true_iff (unit && many) inside).0 all in
      let (is_address, e₁) = (and-eq-true_iff unit many).0 e₂ in
      let (least, most) = (and-eq-true_iff (leb fewest_slots (count r.slots)) (leb (count r.slots) most_slots)).0 e₁ in
      record {
        unit = is_address;
        least = leb-true fewest_slots (count r.slots) least;
        most = leb-true (count r.slots) most_slots most;
        inside = (subset_by_minus 64 r.slots (firsts dataSlots)).0 in-firsts;
      }

  pub rule-zeros : row_rule dataSlots r ≡ true → vacant_row r ≡ true → r ≡ empty_row
  rule-zeros e t =
      let all : (is_empty r.slots && eqb r.time 0) ≡ true = rw t at e in
      let (none, never) = (and-eq-true_iff (is_empty r.slots) (eqb r.time 0)).0 all in
      row-zeros r.unit r.slots r.time (eqb-true r.unit 0 t) ((empty_is-nothing 64 r.slots).0 none) (eqb-true r.time 0 never)

  -- a row is free or in use
  pub rule-either : {P : Type 0} → row_rule dataSlots r ≡ true → (vacant_row r ≡ true → r.slots ≡ no_slots → P) → (vacant_row r ≡ false → Used dataSlots r → P) → P
  rule-either {P} e f g = go (vacant_row r) refl
    where
      go : (b : Bool) → vacant_row r ≡ b → P
      go true t = f t (ap (λ (a : Row). a.slots) (rule-zeros e t))
      go false t = g t (rule_used e t)

  pub rule-inside : row_rule dataSlots r ≡ true → Subset r.slots (firsts dataSlots)
  rule-inside e =
      rule-either e
      (λ t none i h. absurd (false≢true (sym (nothing-has 64 i) ∙ ap (λ (s : Slots 64). has s i) (sym none) ∙ h)))
      (λ t m. m.inside)

-- the needs of a row: a free one needs a slot for who takes it, a member's those that it holds
abbrev pub needs : Row → ℕ
needs r = one vacant_row r + count r.slots

rule_needs : (dataSlots : ℕ) (r : Row) → row_rule dataSlots r ≡ true → needs empty_row ≤ needs r
rule_needs dataSlots r e = rule-either dataSlots r e (λ t none. rw (t, none) (omega arith)) (λ t m. omega (arith, no_count, m.least))

pub empty_is_lem : empty_is empty_row ≡ true
empty_is_lem = rw ((empty_is-nothing 64 no_slots).1 refl)

pub rule_empty : (dataSlots : ℕ) → row_rule dataSlots empty_row ≡ true
rule_empty dataSlots = empty_is_lem

-- ---- counting
-- the slots that rows hold, row by row
abbrev pub holdings : List Row → ℕ
holdings rs = weigh (λ r. count r.slots) rs

pub all_needs : (rs : List Row) → vacant rs + holdings rs ≡ weigh needs rs
unfolding weigh vacant
all_needs [] = refl
all_needs (r ∷ rs) = omega (arith, all_needs rs)

pub count_held : (rs : List Row) → apart rs ≡ true → count (held_slots rs) ≡ holdings rs
unfolding weigh held_slots
count_held [] e = no_count
count_held (r ∷ rs) e =
    let (here, later) = (and-eq-true_iff (disjoint r.slots (held_slots rs)) (apart rs)).0 e in
    omega (arith, count_of_union 64 r.slots (held_slots rs) here, count_held rs later)

held-inside : (dataSlots : ℕ) (rs : List Row) → every (row_rule dataSlots) rs ≡ true → Subset (held_slots rs) (firsts dataSlots)
unfolding held_slots every
held-inside dataSlots [] e = λ i h. absurd (false≢true (sym (nothing-has 64 i) ∙ h))
held-inside dataSlots (r ∷ rs) e =
    let (here, later) = (and-eq-true_iff (row_rule dataSlots r) (every (row_rule dataSlots) rs)).0 e in
    in_union r.slots (held_slots rs) (firsts dataSlots) (rule-inside dataSlots r here) (held-inside dataSlots rs later)

-- free slots and those held are all the data slots
accounted : (dataSlots : ℕ) (rs : List Row) → dataSlots ≤ 64 → every (row_rule dataSlots) rs ≡ true → apart rs ≡ true
    → count (free dataSlots rs) + holdings rs ≡ dataSlots
accounted dataSlots rs h each e =
    let all = ap count (meet_subset (firsts dataSlots) (held_slots rs) (held-inside dataSlots rs each)) in
    omega (arith, count_of_minus 64 (firsts dataSlots) (held_slots rs), all, count_held rs e, count_of_firsts dataSlots)

-- ---- all rows
-- the rule as sums: at most one row of a unit, at most one owner of a slot, and no more needed than there is
pub record Ruled (manager dataSlots last : ℕ) (rs : List Row) : Type 0 where
  pub led : led_by manager rs ≡ true
  pub each : every (row_rule dataSlots) rs ≡ true
  pub past : every (past_time manager last) rs ≡ true
  pub units : (unit : ℕ) → (unit ≡ 0 → ⊥) → tally (of_unit unit) rs ≤ 1
  pub owners : (slot : ℕ) → tally (owns slot) rs ≤ 1
  pub room : weigh needs rs ≤ dataSlots

module _ {manager dataSlots last : ℕ} {rs : List Row} (small : dataSlots ≤ 64) where
  pub ruled : rows_rule manager dataSlots last rs ≡ true → Ruled manager dataSlots last rs
  unfolding rows_rule
  ruled e =
      let led = led_by manager rs in
      let each = every (row_rule dataSlots) rs in
      let past = every (past_time manager last) rs in
      let enough = leb (vacant rs) (count (free dataSlots rs)) in
      let (e₄, room) = (and-eq-true_iff (led && each && past && distinct rs && apart rs) enough).0 e in
      let (e₃, sets) = (and-eq-true_iff (led && each && past && distinct rs) (apart rs)).0 e₄ in
      let (e₂, units) = (and-eq-true_iff (led && each && past) (distinct rs)).0 e₃ in
      let (e₁, times) = (and-eq-true_iff (led && each) past).0 e₂ in
      let (first-row, rules) = (and-eq-true_iff led each).0 e₁ in
      let fits = leb-true (vacant rs) (count (free dataSlots rs)) room in
      record {
        led = first-row;
        each = rules;
        past = times;
        units = distinct_tally rs units;
        owners = apart_tally rs sets;
        room = omega (arith, fits, all_needs rs, accounted dataSlots rs small rules sets);
      }

  pub free_and_held : Ruled manager dataSlots last rs → count (free dataSlots rs) + holdings rs ≡ dataSlots
  free_and_held g = accounted dataSlots rs small g.each (tally_apart rs g.owners)

  -- each free row has a free slot
  pub vacant-free : Ruled manager dataSlots last rs → vacant rs ≤ count (free dataSlots rs)
  vacant-free g = omega (arith, g.room, all_needs rs, free_and_held g)

  pub rules : Ruled manager dataSlots last rs → rows_rule manager dataSlots last rs ≡ true
  unfolding rows_rule
  rules g = rw (g.led, g.each, g.past, tally_distinct rs g.units, tally_apart rs g.owners, le-leb (vacant rs) (count (free dataSlots rs)) (vacant-free g))

-- ---- an empty row weighs least
pub units-least : (unit : ℕ) → (unit ≡ 0 → ⊥) → one (of_unit unit) empty_row ≡ 0
units-least unit z = rw (ne_eqb 0 unit (λ e. z (sym e)))

pub owners_least : (slot : ℕ) → one (owns slot) empty_row ≡ 0
owners_least slot = rw (nothing-has 64 slot)

led_current : (manager time : ℕ) (rs : List Row) → led_by manager rs ≡ true → led_by manager (current time rs) ≡ true
unfolding current
led_current manager time [] e = e
led_current manager time (r ∷ rs) e = e

-- silent rows dropped, at whatever time
pub ruled_current : {manager dataSlots last : ℕ} {rs : List Row} (time : ℕ) → Ruled manager dataSlots last rs → Ruled manager dataSlots last (current time rs)
ruled_current {manager} {dataSlots} {last} {rs} time g =
    let rule = row_rule dataSlots in
    record {
      led = led_current manager time rs g.led;
      each = every-current rule (rule_empty dataSlots) time rs g.each;
      past = every-current (past_time manager last) refl time rs g.past;
      units = λ unit z. omega (arith, g.units unit z, weigh_current (one (of_unit unit)) rule (λ r e. omega (arith, units-least unit z)) time rs g.each);
      owners = λ slot. omega (arith, g.owners slot, weigh_current (one (owns slot)) rule (λ r e. omega (arith, owners_least slot)) time rs g.each);
      room = omega (arith, g.room, weigh_current needs rule (rule_needs dataSlots) time rs g.each);
    }

-- silent rows dropped, at the time that is accepted: who is live is in order with it
past_then : (manager time : ℕ) (rs : List Row) → led_by manager rs ≡ true → every (past_time manager time) (current time rs) ≡ true
unfolding every current
past_then manager time [] l = refl
past_then manager time (r ∷ rs) l = rw (l, or-true) (kept-past rs)
  where
    kept-past : (rs : List Row) → every (past_time manager time) (map (kept time) rs) ≡ true
    kept-past [] = refl
    kept-past (r ∷ rs) = (and-eq-true_iff _ _).1 (
      kept_either (λ k. past_time manager time k ≡ true) time r
          (λ live. rw (young_in_order time r.time 300000 (omega arith) (leb-true (age_at time r.time) 300000 live), or-true, or-true)) refl,
      kept-past rs,
    )

pub ruled_then : {manager dataSlots last : ℕ} {rs : List Row} (time : ℕ) → Ruled manager dataSlots last rs → Ruled manager dataSlots time (current time rs)
ruled_then {manager} {dataSlots} {last} {rs} time g =
    let c = ruled_current time g in
    record { led = c.led; each = c.each; past = past_then manager time rs g.led; units = c.units; owners = c.owners; room = c.room }

-- ---- a row written
-- it fits: by its own rule, and no sum goes past its bound
record Fits (manager dataSlots last : ℕ) (rs : List Row) (at : ℕ) (r : Row) : Type 0 where
  pub there : at < length rs
  pub leads : at ≡ 0 → r.unit ≡ manager
  pub rule : row_rule dataSlots r ≡ true
  pub past : past_time manager last r ≡ true
  pub units : (unit : ℕ) → (unit ≡ 0 → ⊥) → tally (of_unit unit) rs + one (of_unit unit) r ≤ 1 + one (of_unit unit) (row rs at)
  pub owners : (slot : ℕ) → tally (owns slot) rs + one (owns slot) r ≤ 1 + one (owns slot) (row rs at)
  pub room : weigh needs rs + needs r ≤ dataSlots + needs (row rs at)

led_set : (manager : ℕ) (rs : List Row) (at : ℕ) (r : Row) → (at ≡ 0 → r.unit ≡ manager) → led_by manager rs ≡ true → led_by manager (set rs at r) ≡ true
led_set manager [] at r h e = e
led_set manager (a ∷ rs) zero r h e = eq-eqb r.unit manager (h refl)
led_set manager (a ∷ rs) (suc at) r h e = e

module _ {manager dataSlots last : ℕ} {rs : List Row} (g : Ruled manager dataSlots last rs) (at : ℕ) where
  abbrev old : Row
  old = row rs at

  pub rule-at : at < length rs → row_rule dataSlots old ≡ true
  rule-at h = every-at (row_rule dataSlots) rs at empty_row g.each h

  ruled_set : (r : Row) → Fits manager dataSlots last rs at r → Ruled manager dataSlots last (set rs at r)
  ruled_set r f = record {
    led = led_set manager rs at r f.leads g.led;
    each = every_set (row_rule dataSlots) rs at r f.rule g.each;
    past = every_set (past_time manager last) rs at r f.past g.past;
    units = λ unit z. omega (arith, weigh_set (one (of_unit unit)) rs at r f.there, f.units unit z);
    owners = λ slot. omega (arith, weigh_set (one (owns slot)) rs at r f.there, f.owners slot);
    room = omega (arith, weigh_set needs rs at r f.there, f.room);
  }

  -- who is in a row that is in use
  pub member-at : at < length rs → (old.unit ≡ 0 → ⊥) → Used dataSlots old
  member-at h z = rule_used dataSlots old (rule-at h) (ne_eqb old.unit 0 z)

  -- a row but the first emptied
  pub ruled_emptied : at < length rs → (at ≡ 0 → ⊥) → Ruled manager dataSlots last (set rs at empty_row)
  ruled_emptied h z =
      ruled_set empty_row (record {
        there = h;
        leads = λ e. absurd (z e);
        rule = rule_empty dataSlots;
        past = refl;
        units = λ unit y. omega (arith, g.units unit y, units-least unit y);
        owners = λ slot. omega (arith, g.owners slot, owners_least slot);
        room = omega (arith, g.room, rule_needs dataSlots old (rule-at h));
      })

  -- a unit may have the row: it is its own or free, and it has no other
  pub record Seat (unit : ℕ) : Type 0 where
    pub there : at < length rs
    pub own : (old.unit ≡ 0 → ⊥) → old.unit ≡ unit
    pub first : at ≤ place_for unit rs
    pub leads : at ≡ 0 → unit ≡ manager
    pub alone : tally (of_unit unit) rs ≤ one (of_unit unit) old

  -- and these slots with it: they are the row's own and free ones, and only spare ones are added to what the row needed
  pub record Share (slots : Slots 64) : Type 0 where
    pub from : Subset slots (union old.slots (free dataSlots rs))
    pub least : fewest_slots ≤ count slots
    pub most : count slots ≤ most_slots
    pub spared : count slots ≤ needs old + spare dataSlots rs

  module _ (small : dataSlots ≤ 64) (r : Row) (seat : Seat r.unit) (share : Share r.slots) (is_address : address r.unit ≡ true) (past : in_order r.time last ≡ true) where
    -- a slot of it was the row's, or no one's
    taken : {P : Type 0} (i : ℕ) → has r.slots i ≡ true → (has old.slots i ≡ true → P) → (has (firsts dataSlots) i ≡ true → has (held_slots rs) i ≡ false → P) → P
    taken i h f g =
        union-either old.slots (free dataSlots rs) i (share.from i h) f
        (λ e. let (in-firsts, unheld) = minus-both (firsts dataSlots) (held_slots rs) i e in g in-firsts unheld)

    units-taken : (unit : ℕ) → (unit ≡ 0 → ⊥) → tally (of_unit unit) rs + one (of_unit unit) r ≤ 1 + one (of_unit unit) old
    units-taken unit z = go (of_unit unit r) refl
      where
        go : (b : Bool) → of_unit unit r ≡ b → tally (of_unit unit) rs + cond b 1 0 ≤ 1 + one (of_unit unit) old
        go true e =
            let alone : tally (of_unit unit) rs ≤ one (of_unit unit) old = rw (eqb-true r.unit unit e) at seat.alone in
            omega (arith, alone)
        go false e = omega (arith, g.units unit z)

    owners_taken : (slot : ℕ) → tally (owns slot) rs + one (owns slot) r ≤ 1 + one (owns slot) old
    owners_taken slot = go (owns slot r) refl
      where
        go : (b : Bool) → owns slot r ≡ b → tally (owns slot) rs + cond b 1 0 ≤ 1 + one (owns slot) old
        go true e = taken slot e (λ p. rw p (omega (arith, g.owners slot))) (λ f n. omega (arith, held_none slot rs n))
        go false e = omega (arith, g.owners slot)

    room-taken : weigh needs rs + needs r ≤ dataSlots + needs old
    room-taken =
        let some : one vacant_row r ≡ 0 = rw (ne_eqb r.unit 0 (address-some r.unit is_address)) in
        omega (arith, some, share.spared, g.room, all_needs rs, free_and_held small g)

    pub ruled_taken : Ruled manager dataSlots last (set rs at r)
    ruled_taken =
        ruled_set r (record {
          there = seat.there;
          leads = seat.leads;
          rule = used_rule dataSlots r (record {
            unit = is_address;
            least = share.least;
            most = share.most;
            inside = λ i h. taken i h (rule-inside dataSlots old (rule-at seat.there) i) (λ f n. f);
          });
          past = rw (past, or-true, or-true);
          units = units-taken;
          owners = owners_taken;
          room = room-taken;
        })
