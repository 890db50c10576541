-- Rows within rule, and the table that is made of them.
-- Assumes nothing.
use Rattle.octets.proofs.Words.{◌≡◌, refl, Bool, true, false, not, ◌&&◌, cond, false≢true, List, ℕ, ◌≤◌, arith, leb-true, lt-ltb, eqb, leb, length}
use Rattle.octets.specs.Lists.{every}
use Rattle.octets.proofs.ListLaws.{every-on}
use Rattle.moments.specs.Moments.{age_at, in_order}
use Rattle.moments.proofs.MomentLaws.{in_order_self, young_in_order}
use Rattle.octets.specs.Addresses.{address}
use Rattle.octets.proofs.AddressLaws.{address-least}
use Rattle.route_table.specs.declared.row.Row.{Row}
use Rattle.route_table.specs.Rows.{stands, row_rule, withdrawn_at, ascending, in_use, pad}
use Rattle.route_table.specs.Tables.{pair_ok, within_rule}
use Rattle.route_table.proofs.StandingLaws.{used, in_use-pad, pad-zeros}
use Rattle.route_table.proofs.TableLaws.{by_parts}

-- the parts of a row's rule
pub record Ruled (own last : ℕ) (r : Row) : Type 0 where
  pub destination : address r.destination ≡ true
  pub other : not (eqb r.destination own) ≡ true
  pub hop : address r.next_hop ≡ true
  pub other_hop : not (eqb r.next_hop own) ≡ true
  pub hops : (leb 1 r.hops && leb r.hops 16) ≡ true
  pub quality : leb 40 r.quality ≡ true
  pub past : in_order r.time last ≡ true

parts : (d o h p s q t : Bool) → (d && o && (h && p) && s && q && t) ≡ true
    → (d ≡ true) × (o ≡ true) × (h ≡ true) × (p ≡ true) × (s ≡ true) × (q ≡ true) × (t ≡ true)
parts true true true true true true true e = (refl, refl, refl, refl, refl, refl, refl)
parts true true true true true true false e = absurd (false≢true e)
parts true true true true true false t e = absurd (false≢true e)
parts true true true true false q t e = absurd (false≢true e)
parts true true true false s q t e = absurd (false≢true e)
parts true true false p s q t e = absurd (false≢true e)
parts true false h p s q t e = absurd (false≢true e)
parts false o h p s q t e = absurd (false≢true e)

module _ (own last : ℕ) (r : Row) where
  pub ruled : row_rule own last r ≡ true → Ruled own last r
  ruled e =
      let k = parts (address r.destination) (not (eqb r.destination own)) (address r.next_hop) (not (eqb r.next_hop own)) (leb 1 r.hops && leb r.hops 16) (leb 40 r.quality) (in_order r.time last) e in
      record { destination = k.0; other = k.1; hop = k.2; other_hop = k.3; hops = k.4; quality = k.5; past = k.6 }

-- a row that stands is in order with the time at which it does
pub stands-past : (time : ℕ) (r : Row) → stands time r ≡ true → in_order r.time time ≡ true
stands-past time r e = go r.withdrawn (leb-true _ _ e)
  where
    go : (w : Bool) → age_at time r.time ≤ cond w 60000 360000 → in_order r.time time ≡ true
    go true h = young_in_order time r.time 60000 (omega arith) h
    go false h = young_in_order time r.time 360000 (omega arith) h

-- a row within rule is so at any time at which it stands, and when it is withdrawn
pub rule-later : (own last time : ℕ) (r : Row) → stands time r ≡ true → row_rule own last r ≡ true → row_rule own time r ≡ true
rule-later own last time r s e =
    let k = ruled own last r e in
    rw (k.destination, k.other, k.hop, k.other_hop, k.hops, k.quality, stands-past time r s)

pub rule_withdrawn : (own time : ℕ) (r : Row) → row_rule own time r ≡ true → row_rule own time (withdrawn_at time r) ≡ true
rule_withdrawn own time r e =
    let k = ruled own time r e in
    rw (k.destination, k.other, k.hop, k.other_hop, k.hops, k.quality, in_order_self time)

-- a row within rule is in use
pub rules_used : (own last : ℕ) (rs : List Row) → every (row_rule own last) rs ≡ true → every used rs ≡ true
rules_used own last =
    every-on (row_rule own last) used
    (λ r e. lt-ltb 0 r.destination (address-least r.destination (ruled own last r e).destination))

-- the rows of a table that is made of rows within rule are these rows
pub rows_of-pad : (own last : ℕ) (rs : List Row) → every (row_rule own last) rs ≡ true → in_use (pad rs) ≡ rs
rows_of-pad own last rs e = in_use-pad rs (rules_used own last rs e)

-- a table that is made of at most 48 rows within rule, in order, is within rule
pub within-pad : (own time : ℕ) (forwarded : Bool) (origin sequence : ℕ) (rs : List Row) → address own ≡ true → pair_ok forwarded origin sequence ≡ true → length rs ≤ 48
    → ascending rs ≡ true → every (row_rule own time) rs ≡ true
    → within_rule (record { own = own; time = time; forwarded = forwarded; origin = origin; sequence = sequence; rows = pad rs }) ≡ true
within-pad own time forwarded origin sequence rs unit pair few ascends rules =
    let same = rows_of-pad own time rs rules in
    by_parts _ (record { unit = unit; pair = pair; few = rw same few; ascends = rw same ascends; rules = rw same rules; zeros = rw same (pad-zeros rs) })
