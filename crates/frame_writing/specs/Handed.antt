-- What a reader answered, handed to the writer: a frame is written, a refusal stays that refusal.
-- Assumes nothing.
use Rattle.std.specs.Prelude.{ℕ, List, Result, Ok, Err}
use Rattle.octets.specs.Answers.{refused}
use Rattle.octets.specs.Refusals.{number_of}
use Rattle.octets.specs.declared.refusals.Refusal.{Refusal}
use Rattle.octets.specs.Told.{Wrote}
use Rattle.frames.specs.declared.answers.Frame.{Frame}
use Rattle.frames.specs.Told.{write_frame}

abbrev pub write_answer : Result Frame Refusal → List ℕ → List ℕ → Wrote
write_answer (Ok f) part out = write_frame f part out
write_answer (Err r) part out = record { said = refused (number_of r); held = out }
