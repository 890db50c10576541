-- What relaying answers, as values: the number that refuses it, 0 where nothing does, and what it gives.
-- Assumes nothing.
use Rattle.std.specs.Prelude.{ℕ, Bool, true, false, Result, Ok, Err}
use Rattle.octets.specs.declared.refusals.Refusal.{Refusal}
use Rattle.octets.specs.Refusals.{number_of}
use Rattle.route_relays.specs.declared.relaying.Relayed as gives
use Rattle.route_relays.specs.declared.relaying.Relayed.TheVariants.{Ours, Copied}

-- whether the frame is for this unit, else the next hop, the size of the payload or of the copy, and for how long the route is usable
pub record Relayed : Type 0 where
  pub refused : ℕ
  pub ours : Bool
  pub next_hop : ℕ
  pub size : ℕ
  pub left : ℕ

-- where it is refused it is not for this unit, and the numbers are 0
abbrev pub told : Result gives.Relayed Refusal → Relayed
told (Ok (Ours size)) = record { refused = 0; ours = true; next_hop = 0; size = size; left = 0 }
told (Ok (Copied next_hop size left)) = record { refused = 0; ours = false; next_hop = next_hop; size = size; left = left }
told (Err r) = record { refused = number_of r; ours = false; next_hop = 0; size = 0; left = 0 }
