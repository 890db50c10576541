-- `put_entries`'s loop: to store the entries for the rows left is to store them all.
-- Assumes nothing.
use Rattle.octets.proofs.Words.{◌≡◌, refl, sym, ap, ◌∙◌, List, ◌∷◌, ◌+◌, ◌*◌, arith, add-one, drop, drop-cons, get_or, sets}
use Rattle.route_table.specs.declared.row.Row.{Row}
use Rattle.route_table.specs.Rows.{none}
use Rattle.route_pages.proofs.EntryLaws.{row_entries, entry-turn}
use Rattle.route_pages.proofs.writing.put_entries.Goals as goal

pub loop-i-preserved : goal.loop-i-preserved
loop-i-preserved c =
    let a = c.args in
    let l = c.loop-i in
    let r = get_or a.rows.now l.i none in
    let next : drop l.i a.rows.now ≡ r ∷ drop (l.i + 1) a.rows.now = rw (add-one l.i, drop-cons a.rows.now l.i none c.loop-i-test.true) in
    entry-turn a.time r (drop (l.i + 1) a.rows.now) l.out l.i (omega (arith, l.auto.out, c.requires)) c.entry_for.result _ c.entry_for.ensures c.put.ensures _ refl
    ∙ (sym (ap (λ (rs : List Row). sets l.out (8 + 10 * l.i) (row_entries a.time rs)) next) ∙ l.invariant)
