-- The call on the entries of an update, from what the walk answers.
-- Assumes nothing.
use Rattle.octets.proofs.Words.{◌≡◌, List, ℕ, ◌≤◌, ◌<◌, arith, ne_eqb, lt-ltb, le-ltb, length, sets}
use Rattle.std.specs.Prelude.{Option, Some, None, Result, Ok, Err}
use Rattle.octets.specs.Refusals.{number_of}
use Rattle.octets.specs.declared.refusals.Refusal.{Refusal}
use Rattle.octets.proofs.RefusalLaws.{refusal_some}
use Rattle.frame_traffic.specs.Traffic.{entry_values}
use Rattle.frame_entries.specs.declared.walking.Step.{Step}
use Rattle.frame_entries.specs.Walks.{walk_of, told_walked}
use Rattle.c_frames.specs.EntryCalls.{entry_left, entry_call}

module _ (s : List ℕ) (position : ℕ) (entry : List ℕ) (next : ℕ) (walked : Result (Option Step) Refusal) (e : told_walked walked ≡ walk_of s position) where
  pub entry_short : (step : Step) → walked ≡ Ok (Some step) → length entry < 5 → entry_left 5 entry next ≡ entry_call s position entry next
  unfolding entry_call
  entry_short step q h = rw (← e, q, lt-ltb (length entry) 5 h)

  pub entry-met : (step : Step) → walked ≡ Ok (Some step) → 5 ≤ length entry → (last : List ℕ) → last ≡ sets entry 0 (entry_values step.entry)
      → entry_left 0 last step.next ≡ entry_call s position entry next
  unfolding entry_call
  entry-met step q h last p = rw (← e, q, le-ltb (length entry) 5 h, p)

  pub entry_end : walked ≡ Ok None → entry_left 0 entry 0 ≡ entry_call s position entry next
  unfolding entry_call
  entry_end q = rw (← e, q, le-ltb (length entry) 0 (omega arith))

  pub entry-refused : (r : Refusal) → walked ≡ Err r → entry_left (number_of r) entry next ≡ entry_call s position entry next
  unfolding entry_call
  entry-refused r q =
      let z = refusal_some r in
      rw (← e, q, ne_eqb (number_of r) 0 z, ne_eqb (number_of r) 0 z)
