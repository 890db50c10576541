-- A route lasts as long as its lookup says, and no longer.
-- Assumes nothing.
use Rattle.octets.proofs.Words.{◌≡◌, ap, ◌∙◌, true, false, not, and-eq-true_iff, and-false, ℕ, ◌+◌, ◌-◌, ◌≤◌, ◌<◌, arith, eq-eqb, le-leb, lt-leb, leb-true, eqb, leb}
use Rattle.octets.proofs.TestLaws.{of-cond}
use Rattle.moments.specs.Moments.{age_at, in_order}
use Rattle.moments.proofs.MomentLaws.{young_in_order, ages_add}
use Rattle.route_table.specs.declared.row.Row.{Row}
use Rattle.route_table.specs.Outcomes.{Found}
use Rattle.route_table.specs.declared.table.Table.{Table}
use Rattle.route_table.specs.Rows.{left_at, row_rule, row_for}
use Rattle.route_table.specs.Tables.{rows_of, leads_to, found_or, lookup_refusal, lookup_of}
use Rattle.route_table.specs.Left.{LastsSoLong, EndsThen, NeverLonger}
use Rattle.route_table.proofs.LookupLaws.{lookup-told, Led, led, led_every, lookup_led, not_led}
use Rattle.route_table.proofs.RuleLaws.{ruled}
use Rattle.route_table.proofs.TableLaws.{within}

-- asked again within a while after a lookup that was answered
module _ (t : Table) (d time again : ℕ) (z : (lookup_of t d time).refused ≡ 0) (soon : age_at again time ≤ 300001) where
  abbrev row : Row
  row = row_for d (rows_of t)

  f : Led t d time
  f = led t d time z

  told : (lookup_of t d time).left ≡ 300000 - age_at time row.time
  told = ap (λ (x : Found). x.left) (lookup-told t d time z)

  live : (not row.withdrawn ≡ true) × (age_at time row.time ≤ 300000)
  live =
      let (stays, young) = (and-eq-true_iff (not row.withdrawn) (leb (age_at time row.time) 300000)).0 f.carries in
      (stays, leb-true _ _ young)

  onward : in_order time again ≡ true
  onward = young_in_order again time 300001 (omega arith) soon

  -- the row has grown older by what has passed
  older : age_at again row.time ≡ age_at again time + age_at time row.time
  older = ages_add row.time time again (young_in_order time row.time 300000 (omega arith) live.1) onward

  -- and the table's time is still in order with the time of asking
  timely : in_order t.time again ≡ true
  timely =
      let past = (ruled t.own t.time row (led_every t d time z (row_rule t.own t.time) (within t f.within).rules)).past in
      let adds = ages_add row.time t.time time past f.timely in
      let since = ages_add t.time time again f.timely onward in
      young_in_order again t.time 600001 (omega arith) (omega (arith, live.1))

  still : age_at again time ≤ (lookup_of t d time).left → leads_to t d again ≡ true
  still l = rw (eq-eqb _ _ f.same, live.0) (le-leb (age_at again row.time) 300000 (omega (arith, older, told, live.1)))

  over : (lookup_of t d time).left < age_at again time → leads_to t d again ≡ false
  over l = rw (lt-leb (age_at again row.time) 300000 (omega (arith, older, told)), and-false (not row.withdrawn)) (and-false (eqb row.destination d))

pub never_longer : NeverLonger
unfolding lookup_of
never_longer t d time = of-cond (λ (n : ℕ). n ≤ 300000) (eqb (lookup_refusal t d time) 0) (left_at time (row_for d (rows_of t))) 0 (λ e. omega arith) (λ e. omega arith)

pub lasts_so_long : LastsSoLong
lasts_so_long t d time again z l =
    let soon : age_at again time ≤ 300001 = omega (arith, never_longer t d time) in
    let f = led t d time z in
    let r = row_for d (rows_of t) in
    let left : left_at again r ≡ left_at time r - age_at again time = omega (arith, older t d time again z soon) in
    lookup_led t d again f.within f.unit (timely t d time again z soon) (still t d time again z soon l) ∙
    rw (lookup-told t d time z) (ap (found_or 0 r) left)

pub ends_then : EndsThen
ends_then t d time again z l =
    let soon : age_at again time ≤ 300001 = omega (arith, never_longer t d time) in
    let f = led t d time z in
    not_led t d again f.within f.unit (timely t d time again z soon) (over t d time again z soon (omega arith))
