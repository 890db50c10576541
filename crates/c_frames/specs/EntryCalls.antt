-- What the call on the entries of an update returns and leaves.
-- Assumes nothing.
use Rattle.std.specs.Prelude.{ℕ, List, [], ◌∷◌, ltb, length}
use Rattle.std.proofs.lemmas.List.Edits.{sets}
use Rattle.octets.specs.Answers.{refusing, reason, first}
use Rattle.octets.specs.Calls.{after}
use Rattle.frame_entries.specs.Walks.{walk_of, position_in, entry_in}

-- the status, the entry's numbers, and the next position
pub record EntryLeft : Type 0 where
  pub status : ℕ
  pub entry : List ℕ
  pub next : ℕ

abbrev pub entry_left : ℕ → List ℕ → ℕ → EntryLeft
entry_left status entry next = record { status = status; entry = entry; next = next }

-- a step says the next position, then the entry's numbers; the end says the position 0 alone, so that no number is written
unfoldable pub entry_call : List ℕ → ℕ → List ℕ → ℕ → EntryLeft
entry_call s position entry next =
    let said = walk_of s position in
    let fields = entry_in said in
    let status = first (refusing said.refusal ∷ reason (ltb (length entry) (length fields)) 5 ∷ []) in
    entry_left status (after status entry (sets entry 0 fields)) (after status next (position_in said))
