-- What holds of states and their bytes, there and back.
-- Assumes nothing.
use Rattle.std.specs.Prelude.{◌≡◌, List, ℕ, length}
use Rattle.octets.specs.Layouts.{Fit, Bytes}
use Rattle.unit_life.specs.declared.state.State.{State}
use Rattle.unit_life.specs.StateBytes.{state_widths, state_size, state_values, state_in, bytes_of_state, state_over}

-- a state as the code can have it: every number fits its bytes
abbrev pub StateSized : State → Type 0
StateSized state = Fit state_widths (state_values state)

-- such a state is read back from its bytes, which are as many as a state has
abbrev pub StateReadsBack : Type 0
StateReadsBack =
    (state : State) → StateSized state → (state_in (bytes_of_state state) ≡ state) × (length (bytes_of_state state) ≡ state_size)

-- stored in a buffer of their size they are all of it
abbrev pub StateFills : Type 0
StateFills = (out : List ℕ) (state : State) → length out ≡ state_size → state_over out state ≡ bytes_of_state state

-- writing what was read gives the same bytes
abbrev pub StateWritesBack : Type 0
StateWritesBack = (s : List ℕ) → Bytes s → length s ≡ state_size → bytes_of_state (state_in s) ≡ s

-- two buffers of a state's size that say one state are equal
abbrev pub StateSaidOnce : Type 0
StateSaidOnce = (s t : List ℕ) → Bytes s → Bytes t → length s ≡ state_size → length t ≡ state_size → state_in s ≡ state_in t → s ≡ t
