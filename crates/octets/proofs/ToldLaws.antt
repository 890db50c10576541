-- What is said of writing tells its answers apart.
-- Assumes nothing.
use Rattle.octets.proofs.Words.{refl, [], ◌∷◌, get_or}
use Rattle.octets.specs.Answers.{OneToOne}
use Rattle.octets.specs.Told.{told_written}
use Rattle.octets.proofs.RefusalLaws.{told_one}

pub told_written-one : OneToOne told_written
told_written-one = told_one (λ n. n ∷ []) (λ vs. get_or vs 0 0) (λ n. refl)
