-- A lookup, from the row for its destination.
-- Assumes nothing.
use Rattle.octets.proofs.Words.{◌≡◌, refl, sym, ap, ◌∙◌, Bool, true, false, not, cond, and-eq-true_iff, ⊎_elim, ℕ, eqb-true, not-false, eqb}
use Rattle.octets.specs.Lists.{every}
use Rattle.octets.proofs.AddressLaws.{address-some}
use Rattle.octets.proofs.AnswerLaws.{none-holds}
use Rattle.moments.specs.Moments.{in_order}
use Rattle.octets.specs.Addresses.{address}
use Rattle.route_table.specs.declared.row.Row.{Row}
use Rattle.route_table.specs.declared.table.Table.{Table}
use Rattle.route_table.specs.Rows.{none, usable, left_at, row_for}
use Rattle.route_table.specs.Tables.{rows_of, within_rule, leads_to, found_or, found_by, lookup_reasons, lookup_of}
use Rattle.route_table.proofs.HasLaws.{row_for-every}

module _ (t : Table) (d time : ℕ) where
  -- the row that it answers by
  abbrev row : Row
  row = row_for d (rows_of t)

  -- of a table within rule it is what the row for the destination answers
  pub looked_up : within_rule t ≡ true → lookup_of t d time ≡ found_by t.time row d time
  unfolding lookup_of found_by
  looked_up w = rw w

  pub not_looked_up : within_rule t ≡ false → lookup_of t d time ≡ found_or 14 none 0
  unfolding lookup_of
  not_looked_up w = rw w

  -- one that is accepted tells the row
  pub lookup-told : (lookup_of t d time).refused ≡ 0 → lookup_of t d time ≡ found_or 0 row (left_at time row)
  unfolding lookup_of
  lookup-told z = ap (λ (n : ℕ). found_or n row (left_at time row)) z

  -- and rests on this
  pub record Led : Type 0 where
    pub within : within_rule t ≡ true
    pub unit : address d ≡ true
    pub timely : in_order t.time time ≡ true
    pub same : row.destination ≡ d
    pub carries : usable time row ≡ true

  pub led : (lookup_of t d time).refused ≡ 0 → Led
  unfolding lookup_of
  led z =
      let n = none-holds (lookup_reasons t d time) _ z in
      let (same, carries) = (and-eq-true_iff (eqb row.destination d) (usable time row)).0 (not-false _ n.1.1.1.0) in
      record {
        within = not-false (within_rule t) n.0;
        unit = not-false (address d) n.1.0;
        timely = not-false (in_order t.time time) n.1.1.0;
        same = eqb-true row.destination d same;
        carries = carries;
      }

  -- what holds of every row holds of the one that it answers by
  pub led_every : (lookup_of t d time).refused ≡ 0 → (test : Row → Bool) → every test (rows_of t) ≡ true → test row ≡ true
  led_every z test e =
      let f = led z in
      ⊎_elim (λ h. h) (λ n. absurd (address-some d f.unit (sym f.same ∙ ap (λ (r : Row). r.destination) n))) (row_for-every test d (rows_of t) e)

  -- where nothing else refuses it and the row leads there, it tells the row
  pub lookup_led : within_rule t ≡ true → address d ≡ true → in_order t.time time ≡ true → leads_to t d time ≡ true → lookup_of t d time ≡ found_or 0 row (left_at time row)
  unfolding lookup_of
  lookup_led w a o e = rw (w, a, o, e)

  -- where nothing else refuses it, it is accepted exactly if the row leads there
  pub lookup-leads : within_rule t ≡ true → address d ≡ true → in_order t.time time ≡ true → eqb (lookup_of t d time).refused 0 ≡ leads_to t d time
  unfolding lookup_of
  lookup-leads w a o = rw (w, a, o) (go (leads_to t d time))
    where
      go : (b : Bool) → eqb (cond (not b) 11 0) 0 ≡ b
      go true = refl
      go false = refl

  -- and else it is 11
  pub not_led : within_rule t ≡ true → address d ≡ true → in_order t.time time ≡ true → leads_to t d time ≡ false → (lookup_of t d time).refused ≡ 11
  unfolding lookup_of
  not_led w a o e = rw (w, a, o, e)
