-- What the call that chooses between two frames returns and leaves.
-- Assumes nothing.
use Rattle.std.specs.Prelude.{ℕ}
use Rattle.octets.specs.Calls.{after}
use Rattle.unit_choice.specs.Choices.{Heard, chosen_of}

-- the status, and which of the two is to be followed
pub record FollowLeft : Type 0 where
  pub status : ℕ
  pub which : ℕ

abbrev pub follow_left : ℕ → ℕ → FollowLeft
follow_left status which = record { status = status; which = which }

unfoldable pub follow_call : Heard → Heard → ℕ → ℕ → FollowLeft
follow_call a b network which =
    let chosen = chosen_of network a b in
    follow_left chosen.refused (after chosen.refused which chosen.which)
