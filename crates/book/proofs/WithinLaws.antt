-- A book within rule, in its parts.
-- Assumes nothing.
use Rattle.octets.proofs.Words.{◌≡◌, sym, ap, ◌∙◌, Bool, true, ◌&&◌, and-eq-true_iff, List, map, ℕ, ◌-◌, ◌≤◌, min, dec_le, arith, length, length-map, length-drop, take, take_all, drop, drop_of_length-le}
use Rattle.std.proofs.lemmas.List.{drop-map}
use Rattle.book_members.specs.declared.member.Member.{Member}
use Rattle.octets.specs.Lists.{every}
use Rattle.site_plan.specs.Plans.{plan_rule}
use Rattle.site_plan.proofs.PlanLaws.{rule_bounds}
use Rattle.book_members.specs.Members.{Row, row_of, rows_of}
use Rattle.book_members.specs.Rules.{empty_is, rows_rule}
use Rattle.book_members.proofs.RowRuleLaws.{Ruled, ruled, rules, ruled_then}
use Rattle.book.specs.Books.{Contents, rows_in, within_rule, rows_at}

-- rows within rule, of a book's plan
abbrev pub RowsRuled : Contents → ℕ → List Row → Type 0
RowsRuled b last rs = Ruled b.plan.manager b.plan.data_slots last rs

pub record Within (b : Contents) : Type 0 where
  pub plan : plan_rule b.plan ≡ true
  pub few : b.plan.data_slots ≤ 64
  pub rows : RowsRuled b b.time (rows_in b)
  pub behind : every empty_is (drop b.plan.rows b.places) ≡ true

module _ (b : Contents) where
  abbrev rows_ok : Bool
  rows_ok = rows_rule b.plan.manager b.plan.data_slots b.time (rows_in b)

  pub within : within_rule b ≡ true → Within b
  unfolding within_rule
  within e =
      let (e₁, zeros) = (and-eq-true_iff (plan_rule b.plan && rows_ok) (every empty_is (drop b.plan.rows b.places))).0 e in
      let (planned, ok) = (and-eq-true_iff (plan_rule b.plan) rows_ok).0 e₁ in
      let few : b.plan.data_slots ≤ 64 = omega (arith, (rule_bounds b.plan planned).few_data_slots) in
      record { plan = planned; few = few; rows = ruled few ok; behind = zeros }

  pub by_parts : Within b → within_rule b ≡ true
  unfolding within_rule
  by_parts w = rw (w.plan, rules w.few w.rows, w.behind)

  -- its rows at a time
  pub rows_then : Within b → (time : ℕ) → RowsRuled b time (rows_at b time)
  rows_then w time = ruled_then time w.rows

-- the places behind the rows that a plan uses, as the code cuts them
pub rows_behind : (ms : List Member) (n : ℕ) → length ms ≡ 21 → rows_of (take (length ms - min n 21) (drop (min n 21) ms)) ≡ drop n (rows_of ms)
unfolding rows_of
rows_behind ms n l =
    let left : length (drop (min n 21) ms) ≤ length ms - min n 21 = omega (arith, length-drop (min n 21) ms) in
    ap (map row_of) (take_all (length ms - min n 21) (drop (min n 21) ms) left) ∙ (sym (drop-map row_of (min n 21) ms) ∙ least (dec_le n 21))
  where
    least : Dec (n ≤ 21) → drop (min n 21) (map row_of ms) ≡ drop n (map row_of ms)
    least (yes h) = let e : min n 21 ≡ n = omega arith in ap (λ (k : ℕ). drop k (map row_of ms)) e
    least (no h) =
        let long = length-map ms row_of in
        let e : min n 21 ≡ 21 = omega arith in
        ap (λ (k : ℕ). drop k (map row_of ms)) e ∙
        (drop_of_length-le (map row_of ms) {i = 21} (omega (arith, long)) ∙ sym (drop_of_length-le (map row_of ms) {i = n} (omega (arith, long))))
