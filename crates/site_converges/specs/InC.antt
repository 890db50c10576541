-- The same of the bytes that firmware holds: each unit's table is a buffer of 539 bytes, and every call is one from C.
-- Assumes nothing.
use Rattle.std.specs.Prelude.{ℕ, zero, suc, ◌≡◌, true, List, [], ◌++◌, map, length, take}
use Rattle.octets.specs.Addresses.{address}
use Rattle.route_bytes.specs.TableBytes.{table_bytes}
use Rattle.route_history.specs.TableCalls.{merge, Happened}
use Rattle.c_routes.specs.TableCalls.{fresh_call, lookup_call}
use Rattle.c_routes.specs.UpdateCalls.{page_call}
use Rattle.c_history.specs.HeldTables.{InC, after_calls_in_c, recorded_in_c}
use Rattle.site_converges.specs.Sites.{Site, among}
use Rattle.site_converges.specs.Courses.{Heard, Course, Leads}
use Rattle.site_converges.specs.Rounds.{page_buffer, table_after, record_after, Played, Asked}
use Rattle.site_converges.specs.Laws.{Told, Ready, Arrives}

-- the bytes that the call for a page writes into a buffer with room for every page
abbrev pub sent_by : List ℕ → ℕ → ℕ → List ℕ
sent_by table p time =
    let left = page_call table p time page_buffer 0 in
    take left.written left.out

-- the call by which a unit takes in a page that was written from another's buffer
abbrev pub taking_in_c : (ℕ → List ℕ) → Heard → InC
taking_in_c buffers h =
    record { call = merge (sent_by (buffers h.from) h.page h.written) h.quality h.time; filled = λ number. 0 }

-- what each unit's buffer holds after so many rounds: a fresh table is made in a buffer of anything, given for each unit
unfoldable pub buffer_after : (ℕ → List ℕ) → Course → ℕ → ℕ → List ℕ
buffer_after anything c zero u = (fresh_call (anything u) u (c.began u)).table
buffer_after anything c (suc r) u = after_calls_in_c (buffer_after anything c r u) (map (taking_in_c (buffer_after anything c r)) (c.heard r u))

-- the record of its calls and their statuses
unfoldable pub statuses_after : (ℕ → List ℕ) → Course → ℕ → ℕ → List Happened
statuses_after anything c zero u = []
statuses_after anything c (suc r) u =
    statuses_after anything c r u ++ recorded_in_c (buffer_after anything c r u) (map (taking_in_c (buffer_after anything c r)) (c.heard r u))

-- buffers of 539 bytes
abbrev pub Buffers : (ℕ → List ℕ) → Type 0
Buffers anything = (u : ℕ) → length (anything u) ≡ 539

-- ---- what comes of it
-- each buffer holds the bytes of the table, and the record is that, which the same calls give on values
abbrev pub HoldsTables : Type 0
HoldsTables =
    (s : Site) (c : Course) (r : ℕ) → Played s c r → (anything : ℕ → List ℕ) → Buffers anything
    → (u : ℕ) → among u s.units ≡ true → (buffer_after anything c r u ≡ table_bytes (table_after c r u)) × (statuses_after anything c r u ≡ record_after c r u)

-- after r rounds `braidlark_lookup` leads to exactly the other units within r links, and is 11 for every other address
abbrev pub ConvergesInC : Type 0
ConvergesInC =
    (s : Site) (c : Course) (r : ℕ) → Played s c r → (anything : ℕ → List ℕ) → Buffers anything
    → (u d time hop hops left : ℕ) → among u s.units ≡ true → address d ≡ true → Asked c r u time
    → let call = lookup_call (buffer_after anything c r u) d time hop hops left in Told s r u d call.status call.next_hop call.hops

-- from as many rounds on as the diameter it leads to every other unit, ..
abbrev pub AllKnownInC : Type 0
AllKnownInC =
    (s : Site) (c : Course) (r : ℕ) → Played s c r → Ready s r → (anything : ℕ → List ℕ) → Buffers anything
    → (u d time hop hops left : ℕ) → among u s.units ≡ true → among d s.units ≡ true → (d ≡ u → ⊥) → Asked c r u time
    → let call = lookup_call (buffer_after anything c r u) d time hop hops left in (call.status ≡ 0) × Leads s u d call.next_hop call.hops

-- .. and following its next hops from buffer to buffer arrives
abbrev pub AllArriveInC : Type 0
AllArriveInC =
    (s : Site) (c : Course) (r : ℕ) → Played s c r → Ready s r → (anything : ℕ → List ℕ) → Buffers anything
    → (at : ℕ → ℕ) → ((v : ℕ) → among v s.units ≡ true → Asked c r v (at v)) → (hop hops left : ℕ)
    → (u d : ℕ) → among u s.units ≡ true → among d s.units ≡ true → Arrives s (λ v. (lookup_call (buffer_after anything c r v) d (at v) hop hops left).next_hop) u d
