-- `braidlark_entry`: an entry with room for it or without, the end, or why the bytes are no update.
-- Assumes nothing.
use Rattle.octets.proofs.Words.{◌≡◌, ap, ◌∙◌, arith}
use Rattle.std.specs.Prelude.{Option, Result, Ok}
use Rattle.octets.specs.declared.refusals.Refusal.{Refusal}
use Rattle.frame_entries.proofs.WalkLaws.{next-few}
use Rattle.frame_entries.specs.declared.walking.Step.{Step}
use Rattle.c_frames.proofs.EntryCallLaws.{entry_short, entry-met, entry_end, entry-refused}
use Rattle.c_frames.proofs.entry_calls.braidlark_entry.Goals as goal

-- the two patterns of an arm as one
met : {walked : Result (Option Step) Refusal} {met one : Option Step} → walked ≡ Ok met → met ≡ one → walked ≡ Ok one
met p q = p ∙ ap Ok q

pub returns-then-entry-lt-ENTRY_FIELDS : goal.returns-then-entry-lt-ENTRY_FIELDS
returns-then-entry-lt-ENTRY_FIELDS c =
    let a = c.args in
    rw c.number.ensures (entry_short a.frame.now a.position a.entry.now _ c.walk.result c.walk.ensures c.in-Ok-Some.step (met c.in-Ok-Some.is c.in-Ok-Some.field-0-is) c.if-entry-lt-ENTRY_FIELDS.true)

pub overflow_cast-next : goal.overflow_cast-next
overflow_cast-next c =
    let a = c.args in
    omega (
      arith,
      next-few a.frame.now a.position c.in-Ok-Some.step (rw c.in-Ok-Some.field-0-is at c.in-Ok-Some.ensures),
    )

pub returns-else-entry-lt-ENTRY_FIELDS : goal.returns-else-entry-lt-ENTRY_FIELDS
returns-else-entry-lt-ENTRY_FIELDS c =
    let a = c.args in
    entry-met a.frame.now a.position a.entry.now _ c.walk.result c.walk.ensures c.in-Ok-Some.step (met c.in-Ok-Some.is c.in-Ok-Some.field-0-is)
    c.if-entry-lt-ENTRY_FIELDS.false _ c.put_entry.ensures

pub returns-in-Ok-None : goal.returns-in-Ok-None
returns-in-Ok-None c =
    let a = c.args in
    entry_end a.frame.now a.position a.entry.now _ c.walk.result c.walk.ensures (met c.in-Ok-None.is c.in-Ok-None.field-0-is)

pub returns-in-Err : goal.returns-in-Err
returns-in-Err c =
    let a = c.args in
    rw c.number-in-Err.ensures
    (entry-refused a.frame.now a.position a.entry.now _ c.walk.result c.walk.ensures c.in-Err.refusal c.in-Err.is)
