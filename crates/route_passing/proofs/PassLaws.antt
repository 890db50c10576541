-- Passing a beacon on, from what its parts say.
-- Assumes nothing.
use Rattle.octets.proofs.Words.{◌≡◌, sym, ap, ◌∙◌, Bool, false, true, not, cond, List, [], ◌∷◌, ℕ, ℕ_discrete, not-false, eq-eqb, ne_eqb, eqb, length}
use Rattle.std.specs.Prelude.{Ok, Err}
use Rattle.octets.specs.Answers.{refusing, first}
use Rattle.octets.specs.Refusals.{number_of}
use Rattle.octets.specs.declared.refusals.Refusal.{Refusal}
use Rattle.octets.proofs.AnswerLaws.{Numbered, refusing_numbered, none-holds}
use Rattle.octets.proofs.ReasonLaws.{first_append, first-refusing}
use Rattle.route_table.specs.declared.row.Row.{Row}
use Rattle.route_table.specs.Outcomes.{Changed, Found, changed}
use Rattle.route_table.specs.declared.table.Head.{Head}
use Rattle.route_table.specs.declared.table.Table.{Table}
use Rattle.route_table.specs.Rows.{row_for, standing_places}
use Rattle.route_table.specs.Tables.{rows_of, head_of, placed, within_rule, found_by}
use Rattle.route_table.proofs.LookupLaws.{looked_up}
use Rattle.octets.proofs.RefusalLaws.{refusal_some}
use Rattle.route_table.proofs.OutcomeLaws.{changed_settled}
use Rattle.route_table.proofs.StandingLaws.{standing-places}
use Rattle.route_table.proofs.TableLaws.{held}
use Rattle.route_passing.specs.declared.Passing.{Passing}
use Rattle.route_passing.specs.Numbers.{numbered}
use Rattle.route_passing.specs.Passes.{passing_reasons, table_reasons, passed_head, passed_table, pass_reasons, pass_of}

module _ (t : Table) (before network : ℕ) (p : Passing) (delay time behind : ℕ) where
  abbrev from : ℕ
  from = p.original_source

  abbrev kept : ℕ → Changed
  kept n = record { refused = n; table = t }

  -- a table within rule, of a beacon that was not refused before, is asked: the number by its row for the original source, else the last one
  pub asked : within_rule t ≡ true → before ≡ 0 → (unpassed : ℕ)
      → unpassed ≡ first (passing_reasons (head_of t) (found_by t.time (row_for from (rows_of t)) from time) network p delay time)
      → cond (not (eqb unpassed 0)) unpassed behind ≡ first (pass_reasons t before network p delay time behind)
  asked w z unpassed e =
      let why : unpassed ≡ first (table_reasons t network p delay time) = e ∙ sym (ap (λ (f : Found). first (passing_reasons (head_of t) f network p delay time)) (looked_up t from time w)) in
      rw (why, w, z)
      (ap (λ (n : ℕ). cond (not (eqb (first (table_reasons t network p delay time)) 0)) (first (table_reasons t network p delay time)) n) (sym (first-refusing behind))
      ∙ sym (first_append (table_reasons t network p delay time) (refusing behind ∷ []) _))

  -- a beacon that nothing refuses was not refused before, and the table is within rule
  pub pass_right : first (pass_reasons t before network p delay time behind) ≡ 0 → within_rule t ≡ true
  pass_right e =
      let none = none-holds (pass_reasons t before network p delay time behind) numbers e in
      not-false (within_rule t) none.0
    where
      numbers : Numbered (pass_reasons t before network p delay time behind)
      numbers =
          (_, (refusing_numbered before, (_, (_, (_, (_, (_, (_, (refusing_numbered behind, _)))))))))

  -- a call that is refused by that number
  pub unpassed : (r : Refusal) → number_of r ≡ first (pass_reasons t before network p delay time behind) → changed t (Err r) ≡ pass_of t before network p delay time behind
  unfolding pass_of
  unpassed r e = changed_settled (Err r) t (passed_table t p time) _ e (λ z. absurd (refusal_some r (e ∙ z)))

  -- one that is not, and the table as the code builds it
  pub passes : (h : Head) (rows : List Row) → length t.rows ≡ 48 → 0 ≡ first (pass_reasons t before network p delay time behind) → h ≡ passed_head (head_of t) p time
      → rows ≡ standing_places time t.rows → changed t (Ok (placed h rows)) ≡ pass_of t before network p delay time behind
  unfolding pass_of
  passes h rows l e q m =
      changed_settled (Ok (placed h rows)) t (passed_table t p time) _ e
      (λ z. rw (q, m ∙ standing-places time t.rows (held t l (pass_right z))))

  -- where both are numbers: the first of them, of what the table says and of the last
  pub in_turn : within_rule t ≡ true → (unpassed : ℕ)
      → unpassed ≡ first (passing_reasons (head_of t) (found_by t.time (row_for from (rows_of t)) from time) network p delay time)
      → cond (not (eqb before 0)) before (cond (not (eqb unpassed 0)) unpassed behind) ≡ first (pass_reasons t before network p delay time behind)
  in_turn w unpassed e = go (ℕ_discrete before 0)
    where
      last : ℕ
      last = cond (not (eqb unpassed 0)) unpassed behind

      go : Dec (before ≡ 0) → cond (not (eqb before 0)) before last ≡ first (pass_reasons t before network p delay time behind)
      go (yes z) = ap (λ (b : Bool). cond (not b) before last) (eq-eqb before 0 z) ∙ asked w z unpassed e
      go (no z) = rw (ne_eqb before 0 z, w)

  -- what the code gives by a number, where the table is as it was and where it is not
  pub numbered_none : within_rule t ≡ false → (n : ℕ) → n ≡ 14 → numbered (kept n) ≡ numbered (pass_of t before network p delay time behind)
  unfolding pass_of
  numbered_none w n e = rw (w, e)

  pub numbered_refused : (n : ℕ) → n ≡ first (pass_reasons t before network p delay time behind) → (n ≡ 0 → ⊥)
      → numbered (kept n) ≡ numbered (pass_of t before network p delay time behind)
  unfolding pass_of
  numbered_refused n e z = rw (← e, ne_eqb n 0 z)

  pub numbered_passed : (h : Head) (rows : List Row) → length t.rows ≡ 48 → 0 ≡ first (pass_reasons t before network p delay time behind) → h ≡ passed_head (head_of t) p time
      → rows ≡ standing_places time t.rows → numbered (changed t (Ok (placed h rows))) ≡ numbered (pass_of t before network p delay time behind)
  numbered_passed h rows l e q m = ap numbered (passes h rows l e q m)
