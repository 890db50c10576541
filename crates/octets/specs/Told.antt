-- What a call that writes says, how many bytes or why not, and with it what the buffer then holds.
-- Assumes nothing.
use Rattle.std.specs.Prelude.{ℕ, List, [], ◌∷◌, Result, get_or}
use Rattle.octets.specs.Answers.{Said}
use Rattle.octets.specs.Refusals.{told_by}
use Rattle.octets.specs.declared.refusals.Refusal.{Refusal}

abbrev pub told_written : Result ℕ Refusal → Said
told_written answer = told_by (λ n. n ∷ []) answer

-- what writing says, and what the buffer then holds
pub record Wrote : Type 0 where
  pub said : Said
  pub held : List ℕ

-- how many bytes an accepted one says that it wrote, the one value of its answer; 0 where it is refused
abbrev pub written_in : Wrote → ℕ
written_in w = get_or w.said.values 0 0

abbrev pub wrote : Result ℕ Refusal → List ℕ → Wrote
wrote answer held = record { said = told_written answer; held = held }
