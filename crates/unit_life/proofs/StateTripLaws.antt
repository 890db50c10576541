-- The round trips of a state and its bytes.
-- Assumes nothing.
use Rattle.octets.proofs.Words.{◌≡◌, refl, sym, ap, ◌∙◌, List, [], append-nil, ℕ, arith, length, take_all}
use Rattle.octets.specs.Layouts.{Bytes}
use Rattle.octets.proofs.LayoutLaws.{length-bytes, fields-bytes, bytes-fields, fields_fit}
use Rattle.octets.proofs.StoreLaws.{sets-whole}
use Rattle.unit_life.specs.declared.state.State.{State}
use Rattle.unit_life.specs.StateBytes.{state_widths, state_size, state_values, state_from, state_in, bytes_of_state, state_over}
use Rattle.unit_life.specs.StateTrips.{StateSized, StateReadsBack, StateFills, StateWritesBack, StateSaidOnce}

-- ---- what was written, read
pub length-state : (state : State) → length (bytes_of_state state) ≡ state_size
length-state state = length-bytes state_widths (state_values state) refl

pub state_reads_back : StateReadsBack
unfolding state_in
state_reads_back state fit =
    let read = fields-bytes state_widths (state_values state) [] [] 0 refl fit in
    (ap state_from (rw (append-nil (bytes_of_state state)) at read), length-state state)

pub state_fills : StateFills
unfolding state_over
state_fills out state room = sets-whole out (bytes_of_state state) (length-state state ∙ sym room)

-- ---- what was read, written
pub state-sized : (s : List ℕ) → Bytes s → StateSized (state_in s)
unfolding state_in
state-sized s b = fields_fit s b state_widths 0

pub state_writes_back : StateWritesBack
unfolding state_in
state_writes_back s b l = bytes-fields s b state_widths 0 (omega arith) ∙ take_all state_size s (omega arith)

pub state_said_once : StateSaidOnce
state_said_once s t b b' l l' e = sym (state_writes_back s b l) ∙ (ap bytes_of_state e ∙ state_writes_back t b' l')
