-- The times of rows within rule: but for the first, each is in order with the last accepted one.
-- Assumes nothing.
use Rattle.octets.proofs.Words.{◌≡◌, refl, sym, ◌∙◌, Bool, true, false, ◌||◌, List, inl, inr, ℕ, ◌<◌, dec_lt, arith, eqb-true, eqb, length, get_or-eq_default}
use Rattle.octets.proofs.AddressLaws.{address-some}
use Rattle.octets.proofs.ListLaws.{every-at}
use Rattle.moments.specs.Moments.{in_order}
use Rattle.book_members.specs.Members.{Row, empty_row, vacant_row}
use Rattle.book_members.specs.Rules.{row_rule, Used, past_time}
use Rattle.book_members.proofs.RowLaws.{row, Timed}
use Rattle.book_members.proofs.LookupLaws.{found_is}
use Rattle.book_members.proofs.PairLaws.{led_first}
use Rattle.book_members.proofs.RowRuleLaws.{Ruled, rule-zeros, rule-at, rule_used}

pub timed_rows : {manager dataSlots last : ℕ} {rs : List Row} → Ruled manager dataSlots last rs → (i : ℕ) → (i ≡ 0 → ⊥) → Timed last (row rs i)
timed_rows {manager} {dataSlots} {last} {rs} g i z = there (dec_lt i (length rs))
  where
    r : Row
    r = row rs i

    by-time : (b : Bool) → eqb r.unit manager ≡ b → Used dataSlots r → (b || in_order r.time last) ≡ true → Timed last r
    by-time true e m past =
        let own = eqb-true r.unit manager e in
        let some = address-some r.unit m.unit in
        let one-row = g.units r.unit some in
        absurd (z (sym (found_is r.unit some rs i refl one-row) ∙ found_is r.unit some rs 0 (led_first manager rs g.led ∙ sym own) one-row))
    by-time false e m past = inr past

    by-unit : (b : Bool) → vacant_row r ≡ b → row_rule dataSlots r ≡ true → (b || (eqb r.unit manager || in_order r.time last)) ≡ true → Timed last r
    by-unit true e h past = inl (rule-zeros dataSlots r h e)
    by-unit false e h past = by-time (eqb r.unit manager) refl (rule_used dataSlots r h e) past

    there : Dec (i < length rs) → Timed last r
    there (yes h) = by-unit (vacant_row r) refl (rule-at g i h) (every-at (past_time manager last) rs i empty_row g.past h)
    there (no h) = inl (get_or-eq_default rs empty_row {n = i} (omega arith))
