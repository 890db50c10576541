-- The calls on a table, from what its parts say.
-- Assumes nothing.
use Rattle.octets.proofs.Words.{◌≡◌, refl, sym, ap, ◌∙◌, Bool, true, false, not, ◌&&◌, cond, and-eq-true_iff, false≢true, List, [], ◌∷◌, ◌++◌, map, ℕ, zero, suc, ◌-◌, ◌≤◌, arith, ne_eqb, leb-true, le-leb, eqb-true, not-true, not-false, eqb, leb, length, drop, replicate, length-map, length-drop}
use Rattle.octets.specs.Answers.{first}
use Rattle.octets.specs.Lists.{every}
use Rattle.octets.proofs.AnswerLaws.{none-holds}
use Rattle.moments.specs.Moments.{in_order}
use Rattle.octets.specs.Addresses.{address}
use Rattle.octets.proofs.AddressLaws.{address-some}
use Rattle.route_table.specs.declared.row.Row.{Row}
use Rattle.route_table.specs.declared.table.Table.{Table}
use Rattle.route_table.specs.Places.{ok_places}
use Rattle.route_table.specs.Rows.{none, usable, row_rule, is_none, forgotten, ascending, in_use, pad, standing, standing_places}
use Rattle.route_table.specs.Tables.{rows_of, pair_ok, within_rule, settled, forget_reasons, forget_of}
use Rattle.route_table.proofs.PlaceLaws.{ok_right}
use Rattle.route_table.proofs.StandingLaws.{standing-places, standing_shorter, in_use-fits}

regrouped : (x f a e n : Bool) → f ≡ true → (x && (a && e && n)) ≡ (x && f && a && e && n)
regrouped true true a e n h = refl
regrouped true false a e n h = absurd (false≢true h)
regrouped false f a e n h = refl

-- an array of 48 places has no more rows, so that no test counts them
pub table_right : (t : Table) (pair places : Bool) → length t.rows ≡ 48 → pair ≡ pair_ok t.forwarded t.origin t.sequence
    → places ≡ ok_places t.own t.time t.rows → (address t.own && pair && places) ≡ within_rule t
unfolding within_rule
table_right t pair places l p q =
    rw (p, q, ok_right t.own t.time t.rows)
    (regrouped (address t.own && pair_ok t.forwarded t.origin t.sequence) _ (ascending (in_use t.rows)) (every (row_rule t.own t.time) (in_use t.rows)) _
    (le-leb _ _ (in_use-fits t.rows l)))

map-places : (f : Row → Row) → f none ≡ none → (xs : List Row) (k : ℕ) → map f (xs ++ replicate k none) ≡ map f xs ++ replicate k none
map-places f e (x ∷ xs) k = rw (map-places f e xs k)
map-places f e [] (suc k) = rw (map-places f e [] k, e)
map-places f e [] zero = refl

-- a change that leaves empty places empty
pub map-pad : (f : Row → Row) → f none ≡ none → (xs : List Row) → map f (pad xs) ≡ pad (map f xs)
unfolding pad
map-pad f e xs = rw (map-places f e xs, length-map xs f)

-- an empty place leads to no unit
pub forgotten-none : (unit time : ℕ) → (unit ≡ 0 → ⊥) → forgotten unit time none ≡ none
forgotten-none unit time h = rw (ne_eqb 0 unit (λ z. h (sym z))) (go (usable time none))
  where
    go : (b : Bool) → cond (b && false) (record { destination = 0; next_hop = 0; hops = 0; quality = 0; time = time; withdrawn = true }) none ≡ none
    go true = refl
    go false = refl

-- ---- the places of a table within rule are its rows, with zeros behind them
abbrev built : ℕ → ℕ → ℕ → ℕ → ℕ → Bool → Row
built destination next hops quality time withdrawn =
    record { destination = destination; next_hop = next; hops = hops; quality = quality; time = time; withdrawn = withdrawn }

is_none_lem : (r : Row) → is_none r ≡ true → r ≡ none
is_none_lem r e =
    let (a, withdrawn) = (and-eq-true_iff (eqb r.destination 0 && eqb r.next_hop 0 && eqb r.hops 0 && eqb r.quality 0 && eqb r.time 0) (not r.withdrawn)).0 e in
    let (b, time) = (and-eq-true_iff (eqb r.destination 0 && eqb r.next_hop 0 && eqb r.hops 0 && eqb r.quality 0) (eqb r.time 0)).0 a in
    let (c, quality) = (and-eq-true_iff (eqb r.destination 0 && eqb r.next_hop 0 && eqb r.hops 0) (eqb r.quality 0)).0 b in
    let (d, hops) = (and-eq-true_iff (eqb r.destination 0 && eqb r.next_hop 0) (eqb r.hops 0)).0 c in
    let (destination, next) = (and-eq-true_iff (eqb r.destination 0) (eqb r.next_hop 0)).0 d in
    let whole : built r.destination r.next_hop r.hops r.quality r.time r.withdrawn ≡ none =
    rw (eqb-true r.destination 0 destination, eqb-true r.next_hop 0 next, eqb-true r.hops 0 hops, eqb-true r.quality 0 quality, eqb-true r.time 0 time, not-true r.withdrawn withdrawn) in
    whole

all_none : (rs : List Row) → every is_none rs ≡ true → rs ≡ replicate (length rs) none
unfolding every
all_none [] e = refl
all_none (r ∷ rs) e =
    let (here, later) = (and-eq-true_iff (is_none r) (every is_none rs)).0 e in
    rw (is_none_lem r here) (ap (λ (l : List Row). none ∷ l) (all_none rs later))

-- the rows in use stand first
in_use-first : (rs : List Row) → in_use rs ++ drop (length (in_use rs)) rs ≡ rs
in_use-first [] = refl
in_use-first (r ∷ rs) = go (eqb r.destination 0) (in_use-first rs)
  where
    go : (b : Bool) → in_use rs ++ drop (length (in_use rs)) rs ≡ rs → cond b [] (r ∷ in_use rs) ++ drop (length (cond b [] (r ∷ in_use rs))) (r ∷ rs) ≡ r ∷ rs
    go true h = refl
    go false h = ap (λ (l : List Row). r ∷ l) h

-- the six parts of the rule
pub record Within (t : Table) : Type 0 where
  pub unit : address t.own ≡ true
  pub pair : pair_ok t.forwarded t.origin t.sequence ≡ true
  pub few : length (rows_of t) ≤ 48
  pub ascends : ascending (rows_of t) ≡ true
  pub rules : every (row_rule t.own t.time) (rows_of t) ≡ true
  pub zeros : every is_none (drop (length (rows_of t)) t.rows) ≡ true

six : (u p f a r z : Bool) → (u && p && f && a && r && z) ≡ true → (u ≡ true) × (p ≡ true) × (f ≡ true) × (a ≡ true) × (r ≡ true) × (z ≡ true)
six true true true true true true e = (refl, refl, refl, refl, refl, refl)
six true true true true true false e = absurd (false≢true e)
six true true true true false z e = absurd (false≢true e)
six true true true false r z e = absurd (false≢true e)
six true true false a r z e = absurd (false≢true e)
six true false f a r z e = absurd (false≢true e)
six false p f a r z e = absurd (false≢true e)

pub within : (t : Table) → within_rule t ≡ true → Within t
unfolding within_rule
within t e =
    let w = six (address t.own) (pair_ok t.forwarded t.origin t.sequence) (leb (length (rows_of t)) 48) (ascending (rows_of t)) (every (row_rule t.own t.time) (rows_of t)) (every is_none (drop (length (rows_of t)) t.rows)) e in
    record { unit = w.0; pair = w.1; few = leb-true (length (rows_of t)) 48 w.2; ascends = w.3; rules = w.4; zeros = w.5 }

pub by_parts : (t : Table) → Within t → within_rule t ≡ true
unfolding within_rule
by_parts t w = rw (w.unit, w.pair, le-leb (length (rows_of t)) 48 w.few, w.ascends, w.rules, w.zeros)

-- no more than 48 of its rows stand
pub few_stand : (t : Table) → within_rule t ≡ true → (time : ℕ) → length (standing time (rows_of t)) ≤ 48
few_stand t e time = omega (arith, standing_shorter time (rows_of t), (within t e).few)

pub held : (t : Table) → length t.rows ≡ 48 → within_rule t ≡ true → t.rows ≡ pad (rows_of t)
unfolding pad
held t l e =
    let behind = drop (length (rows_of t)) t.rows in
    let count : length behind ≡ 48 - length (rows_of t) = length-drop (length (rows_of t)) t.rows ∙ rw l in
    sym (in_use-first t.rows) ∙ ap (λ (rs : List Row). rows_of t ++ rs) (all_none behind (within t e).zeros ∙ ap (λ (n : ℕ). replicate n none) count)

-- ---- forgetting a unit
-- what holds where a unit is forgotten
pub record Forgettable (t : Table) (unit time : ℕ) : Type 0 where
  pub right : within_rule t ≡ true
  pub known : address unit ≡ true
  pub ordered : in_order t.time time ≡ true

pub forgettable : (t : Table) (unit time : ℕ) → first (forget_reasons t unit time) ≡ 0 → Forgettable t unit time
forgettable t unit time e =
    let none =
    none-holds (forget_reasons t unit time) _ e in
    record { right = not-false (within_rule t) none.0; known = not-false (address unit) none.1.0; ordered = not-false (in_order t.time time) none.1.1.1.0 }

-- the table then, with its rows as the loops leave them
module _ (t : Table) (unit time : ℕ) (rows : List Row) (l : length t.rows ≡ 48) where
  abbrev Left : Table
  Left = record { own = t.own; time = time; forwarded = t.forwarded; origin = t.origin; sequence = t.sequence; rows = rows }

  pub forgets : first (forget_reasons t unit time) ≡ 0 → rows ≡ map (forgotten unit time) (standing_places time t.rows) → settled 0 t Left ≡ forget_of t unit time
  unfolding forget_of
  forgets z q =
      let f = forgettable t unit time z in
      let stand = ap (map (forgotten unit time)) (standing-places time t.rows (held t l f.right)) in
      ap (λ (rs : List Row). settled 0 t (record { own = t.own; time = time; forwarded = t.forwarded; origin = t.origin; sequence = t.sequence; rows = rs }))
      (q ∙ (stand ∙ map-pad (forgotten unit time) (forgotten-none unit time (address-some unit f.known)) (standing time (rows_of t)))) ∙
      rw z
