-- A unit's state as bytes: kind 1, last accepted time 4, time of entry 4, time of the last beacon 4.
-- Assumes nothing.
use Rattle.std.specs.Prelude.{ℕ, List, [], ◌∷◌, get_or}
use Rattle.std.proofs.lemmas.List.Edits.{sets}
use Rattle.octets.specs.Layouts.{total, fields, bytes}
use Rattle.unit_life.specs.declared.state.State.{State}

abbrev pub state_widths : List ℕ
state_widths = 1 ∷ 4 ∷ 4 ∷ 4 ∷ []

-- how many bytes a state has: 13
abbrev pub state_size : ℕ
state_size = total state_widths

abbrev pub state_values : State → List ℕ
state_values s = s.kind ∷ s.last ∷ s.entered ∷ s.beacon ∷ []

abbrev pub state_from : List ℕ → State
state_from vs = record { kind = get_or vs 0 0; last = get_or vs 1 0; entered = get_or vs 2 0; beacon = get_or vs 3 0 }

-- the state that bytes say
unfoldable pub state_in : List ℕ → State
state_in s = state_from (fields state_widths s 0)

-- the bytes that say a state
abbrev pub bytes_of_state : State → List ℕ
bytes_of_state state = bytes state_widths (state_values state)

-- a buffer with the bytes of a state from its start on
unfoldable pub state_over : List ℕ → State → List ℕ
state_over out state = sets out 0 (bytes_of_state state)
