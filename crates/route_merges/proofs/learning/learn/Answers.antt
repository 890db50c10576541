-- `learn`: what is done at the place where the search ended, or where every place holds a lower row.
-- Assumes nothing.
use Rattle.octets.proofs.Words.{◌≡◌, sym, ◌∙◌, length, rules}
use Rattle.route_table.specs.Rows.{in_use}
use Rattle.route_merges.proofs.StepLaws.{sound_of, learned_none, learned_same, learned_changed, learned_off, learned_new}
use Rattle.route_merges.proofs.learning.learn.Goals as goal
use Rattle.route_merges.proofs.learning.learn.Goals.{then-good-full, else-good-full}

pub returns-in_default : goal.returns-in_default
returns-in_default c =
    let a = c.args in
    let p = c.requires.0 in
    let long : length a.rows.now ≡ 48 = search rules in
    learned_none a.heard.origin a.heard.time a.candidate a.rows.now (in_use a.rows.now) p.held (sound_of a.rows.now long p) c.requires.1 long
    (sym c.place_for.ensures ∙ c.in_default.is) _ (rw (← c.bad-good.ensures) c.from.ensures)

pub returns-then-changes : goal.returns-then-changes
returns-then-changes c =
    let a = c.args in
    let p = c.requires.0 in
    let long : length a.rows.now ≡ 48 = search rules in
    learned_changed a.heard.origin a.heard.time a.candidate a.rows.now (in_use a.rows.now) p.held (sound_of a.rows.now long p) c.requires.1 c.in-Some.at
    (sym c.place_for.ensures ∙ c.in-Some.is) c.if-row-candidate.true (sym c.changes.ensures ∙ c.if-changes.true) _ (rw c.from-2.ensures) _ c.made.ensures

pub returns-else-changes : goal.returns-else-changes
returns-else-changes c =
    let a = c.args in
    let p = c.requires.0 in
    let long : length a.rows.now ≡ 48 = search rules in
    learned_same a.heard.origin a.heard.time a.candidate a.rows.now (in_use a.rows.now) p.held (sound_of a.rows.now long p) c.requires.1 c.in-Some.at
    (sym c.place_for.ensures ∙ c.in-Some.is) c.if-row-candidate.true (sym c.changes.ensures ∙ c.if-changes.false) _ (rw c.from-2.ensures)

pub returns : goal.returns
returns c =
    let a = c.args in
    let p = c.requires.0 in
    let long : length a.rows.now ≡ 48 = search rules in
    elim c.if-good-full.branch [
      | then-good-full w ↦
          rw (w.rows-is, w.move_in.ensures)
          (learned_new a.heard.origin a.heard.time a.candidate a.rows.now (in_use a.rows.now) p.held (sound_of a.rows.now long p) c.requires.1 c.in-Some.at
          (sym c.place_for.ensures ∙ c.in-Some.is) c.if-row-candidate.false (rw (← c.bad-good.ensures) w.if-good-full.true) _ (rw c.from-2.ensures) _
          (rw (← c.bad-good.ensures) c.from-3.ensures) _ w.made-then-good-full.ensures)
      | else-good-full w ↦
          rw w.rows-is
          (learned_off a.heard.origin a.heard.time a.candidate a.rows.now (in_use a.rows.now) p.held (sound_of a.rows.now long p) c.requires.1 c.in-Some.at
          (sym c.place_for.ensures ∙ c.in-Some.is) c.if-row-candidate.false (rw (← c.bad-good.ensures) w.if-good-full.false) _ (rw c.from-2.ensures) _
          (rw (← c.bad-good.ensures) c.from-3.ensures))
    ]
