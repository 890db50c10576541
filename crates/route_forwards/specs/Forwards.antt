-- Forwarding a beacon of either kind: what of its fields a forwarder needs, when it forwards, and what it leaves.
-- Assumes nothing.
use Rattle.std.specs.Prelude.{ℕ, not, cond, List, [], ◌∷◌, ◌++◌, ltb, length, Result}
use Rattle.std.proofs.lemmas.List.Edits.{sets}
use Rattle.octets.specs.Addresses as rules
use Rattle.octets.specs.Answers.{Reason, reason, refusing, first}
use Rattle.octets.specs.Calls.{after}
use Rattle.frame_beacons.specs.declared.either.EitherBeacon.{EitherBeacon}
use Rattle.frame_beacons.specs.EitherBeacons.{either_refusal, either_in}
use Rattle.route_table.specs.declared.table.Table.{Table}
use Rattle.route_table.specs.Tables.{within_rule}
use Rattle.route_passing.specs.declared.Passing.{Passing}
use Rattle.route_passing.specs.Passes.{table_reasons, passed_table}
use Rattle.route_bytes.specs.StoredTables.{stored_table}
use Rattle.route_bytes.specs.TableBytes.{table_in, table_bytes}
use Rattle.octets.specs.Refusals.{status_of}
use Rattle.octets.specs.declared.refusals.Refusal.{Refusal}
use Rattle.route_forwards.specs.Copies.{copy_by, longest_delay}
use Rattle.route_forwards.specs.Outcomes.{Forwarded, written_by}

-- the original source of a short beacon is the plan's manager
abbrev pub origin_of : ℕ → EitherBeacon → ℕ
origin_of manager b = cond b.short manager b.original_source

-- what a forwarder needs of a beacon: its transmitter, network, original source, hop, max hops, delay and sequence, and the longest delay that its kind has
-- room for
abbrev pub passing_of : ℕ → EitherBeacon → Passing
passing_of manager b =
    record {
      source = b.source;
      network = b.network;
      original_source = origin_of manager b;
      hop = b.hop;
      max_hops = b.max_hops;
      delay = b.delay;
      longest = longest_delay b.short;
      sequence = b.sequence;
    }

abbrev pub copy_of : Table → ℕ → List ℕ → List ℕ
copy_of t delay s = copy_by t.own delay s

-- why a frame is not read: 1 2 1 3 4 of either kind, then a caller's network of 0 is 4, and so is a manager that is no address
abbrev pub unread_reasons : ℕ → ℕ → List ℕ → List Reason
unread_reasons network manager s = refusing (either_refusal s) ∷ reason (not (rules.network network)) 4 ∷ reason (not (rules.address manager)) 4 ∷ []

-- why: 14, these, 6 15 8 11 16 4, 5
abbrev pub forward_reasons : Table → ℕ → ℕ → List ℕ → ℕ → ℕ → ℕ → List Reason
forward_reasons t network manager s delay time room =
    reason (not (within_rule t)) 14 ∷
    unread_reasons network manager s ++
    (table_reasons t network (passing_of manager (either_in s)) delay time ++ (reason (ltb room (length (copy_of t delay s))) 5 ∷ []))

unfoldable pub forward_refusal : Table → ℕ → ℕ → List ℕ → ℕ → ℕ → ℕ → ℕ
forward_refusal t network manager s delay time room = first (forward_reasons t network manager s delay time room)

-- what a forward answers, and what the buffer then holds
pub record Passed : Type 0 where
  pub answer : Forwarded
  pub held : List ℕ

abbrev pub passed : Forwarded → List ℕ → Passed
passed answer held = record { answer = answer; held = held }

unfoldable pub forward_of : Table → ℕ → ℕ → List ℕ → ℕ → ℕ → List ℕ → Passed
forward_of t network manager s delay time out =
    let refusal = forward_refusal t network manager s delay time (length out) in
    let frame = copy_of t delay s in
    passed
    (record { refused = refusal; written = after refusal 0 (length frame); table = after refusal t (passed_table t (passing_of manager (either_in s)) time) })
    (after refusal out (sets out 0 frame))

-- ---- forwarding by a stored table: the status, the table's bytes, the buffer, and the number of bytes written
pub record ForwardLeft : Type 0 where
  pub status : ℕ
  pub table : List ℕ
  pub out : List ℕ
  pub written : ℕ

abbrev pub forward_left : ℕ → List ℕ → List ℕ → ℕ → ForwardLeft
forward_left status table out written = record { status = status; table = table; out = out; written = written }

-- what forwarding answers and leaves of the table's bytes and of the buffer
abbrev pub forwarded_in : Result ℕ Refusal → List ℕ → List ℕ → ForwardLeft
forwarded_in answer table out = forward_left (status_of answer) table out (written_by answer)

-- what forwarding by the table that the bytes s hold leaves of them, of the buffer, and of a number of bytes written
unfoldable pub forward_call : List ℕ → ℕ → ℕ → List ℕ → ℕ → ℕ → List ℕ → ℕ → ForwardLeft
forward_call s network manager frame delay time out written =
    let passed = forward_of (table_in s) network manager frame delay time out in
    let status = stored_table s passed.answer.refused in
    forward_left status (after status s (table_bytes passed.answer.table)) (after status out passed.held)
    (after status written passed.answer.written)
