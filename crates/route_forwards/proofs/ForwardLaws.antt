-- Forwarding a beacon, from what its parts say.
-- Assumes nothing.
use Rattle.octets.proofs.Words.{◌≡◌, refl, sym, ap, ◌∙◌, Bool, true, false, not, ◌&&◌, cond, and-eq-true_iff, List, [], ◌∷◌, ◌++◌, ℕ, ◌+◌, ◌≤◌, ◌<◌, arith, ne_eqb, eqb-true, ltb-true, ltb-false, leb-true, le-leb, not-false, eqb, leb, ltb, length, set, sets}
use Rattle.std.specs.Prelude.{Result, Ok, Err}
use Rattle.octets.specs.Answers.{Reason, reason, refusing, first}
use Rattle.octets.specs.Refusals.{number_of, status_of, held_after}
use Rattle.octets.specs.declared.refusals.Refusal.{Refusal}
use Rattle.octets.specs.declared.refusals.Refusal.TheVariants.{Room}
use Rattle.octets.proofs.RefusalLaws.{refusal_some}
use Rattle.octets.proofs.AnswerLaws.{Numbered, refusing_numbered, none-holds}
use Rattle.moments.specs.Moments.{in_order}
use Rattle.frame_kinds.specs.Reading.{refusal_as}
use Rattle.octets.specs.Addresses as rules
use Rattle.frame_kinds.specs.Shape.{frame_of}
use Rattle.frame_kinds.proofs.ReadingLaws.{passed}
use Rattle.frame_beacons.specs.declared.beacon.Beacon.{Beacon}
use Rattle.frame_beacons.specs.declared.short.ShortBeacon.{ShortBeacon}
use Rattle.frame_beacons.specs.declared.either.EitherBeacon.{EitherBeacon}
use Rattle.frame_beacons.specs.Beacons.{beacon, beacon_values, hops_and_slots}
use Rattle.frame_beacons.specs.ShortBeacons.{short_beacon, short_beacon_values, hop_within}
use Rattle.frame_beacons.specs.EitherBeacons.{of_beacon, of_short, beacon_in, short_in, is_short, either_refusal, either_in}
use Rattle.frame_kinds.proofs.StoredLaws.{frame-length}
use Rattle.route_table.specs.Outcomes.{Changed, changed}
use Rattle.route_table.specs.declared.table.Table.{Table}
use Rattle.route_table.specs.Rows.{standing}
use Rattle.route_table.specs.Tables.{rows_of, head_of, within_rule, settled, lookup_of}
use Rattle.route_table.proofs.KeepLaws.{standing-rules}
use Rattle.route_table.proofs.RuleLaws.{within-pad}
use Rattle.route_table.proofs.StandingLaws.{standing-ascending}
use Rattle.route_table.proofs.TableLaws.{within, few_stand}
use Rattle.route_passing.specs.declared.Passing.{Passing}
use Rattle.route_passing.specs.Passes.{again, to_forward, table_reasons, passed_table, pass_reasons, pass_of}
use Rattle.route_bytes.specs.StoredTables.{TableLeft, table_left, stored_table, changed_by}
use Rattle.route_bytes.specs.TableBytes.{table_in, table_bytes, is_table}
use Rattle.route_forwards.specs.Forwards as forwards
use Rattle.route_forwards.specs.Forwards.{origin_of, passing_of, copy_of, unread_reasons, forward_refusal, forward_of, forwarded_in, forward_call}
use Rattle.route_forwards.specs.Outcomes.{forwarded}
use Rattle.route_forwards.specs.Copies.{passed_by, short_passed_by, copy_size, longest_delay, Fitting}
use Rattle.octets.proofs.ReasonLaws.{first_append, first-behind, first-refusing}
use Rattle.octets.proofs.TestLaws.{all_hold, all_with}
use Rattle.octets.proofs.CallLaws
use Rattle.octets.proofs.CallLaws.{after-refused}

-- what was heard is of the kind that the type says
pub kind-heard : (s : List ℕ) → (either_in s).short ≡ is_short s
unfolding either_in
kind-heard s = go (is_short s)
  where
    go : (b : Bool) → (cond b (of_short (short_in s)) (of_beacon (beacon_in s))).short ≡ b
    go true = refl
    go false = refl

-- so the size by what was heard is that of its kind
pub size-heard : (s : List ℕ) (b : EitherBeacon) (size : ℕ) → b ≡ either_in s → size ≡ copy_size b.short → size ≡ copy_size (is_short s)
size-heard s b size e z = z ∙ ap copy_size (ap (λ (x : EitherBeacon). x.short) e ∙ kind-heard s)

-- a copy has the bytes of its kind
pub copy_length : (t : Table) (delay : ℕ) (s : List ℕ) → length (copy_of t delay s) ≡ copy_size (is_short s)
copy_length t delay s = go (is_short s)
  where
    go : (b : Bool) → length (cond b (frame_of short_beacon (short_beacon_values (short_passed_by t.own delay (short_in s))) []) (frame_of beacon (beacon_values (passed_by t.own delay (beacon_in s))) [])) ≡ copy_size b
    go true = frame-length (1 ∷ short_beacon.widths) (short_beacon.code ∷ short_beacon_values (short_passed_by t.own delay (short_in s))) [] [] 18 refl refl
    go false = frame-length (1 ∷ beacon.widths) (beacon.code ∷ beacon_values (passed_by t.own delay (beacon_in s))) [] [] 33 refl refl

module _ (t : Table) (network manager : ℕ) (s : List ℕ) (delay time room : ℕ) where
  abbrev p : Passing
  p = passing_of manager (either_in s)

  abbrev reasons : List Reason
  reasons =
      reason (not (within_rule t)) 14 ∷
      refusing (either_refusal s) ∷
      reason (not (rules.network network)) 4 ∷
      reason (not (rules.address manager)) 4 ∷
      table_reasons t network p delay time ++ (reason (ltb room (length (copy_of t delay s))) 5 ∷ [])

  -- what is known of a beacon that is forwarded
  pub record Onward : Type 0 where
    pub right : within_rule t ≡ true
    pub unread : either_refusal s ≡ 0
    pub manages : rules.address manager ≡ true
    pub ordered : in_order t.time time ≡ true
    pub below : (either_in s).hop < (either_in s).max_hops
    pub sum : (either_in s).delay + delay ≤ longest_delay (is_short s)
    pub fits : ltb room (length (copy_of t delay s)) ≡ false

  pub onward : forward_refusal t network manager s delay time room ≡ 0 → Onward
  unfolding forward_refusal
  onward e =
      let n = either_refusal s in
      let none = none-holds reasons
      (_, (refusing_numbered n, _)) e in
      let found = lookup_of t p.original_source time in
      let ours = not-false (to_forward (head_of t) found p) none.1.1.1.1.1.1.1.1.0 in
      let (near, fresh) = (and-eq-true_iff (eqb found.hops (p.hop + 1) && ltb p.hop p.max_hops) (not (again (head_of t) p))).0 ours in
      let (next, below) = (and-eq-true_iff (eqb found.hops (p.hop + 1)) (ltb p.hop p.max_hops)).0 near in
      record {
        right = not-false (within_rule t) none.0;
        unread = eqb-true n 0 (not-false (eqb n 0) none.1.0);
        manages = not-false (rules.address manager) none.1.1.1.0;
        ordered = not-false (in_order t.time time) none.1.1.1.1.1.1.0;
        below = ltb-true p.hop p.max_hops below;
        sum = rw (kind-heard s) at (ltb-false p.longest (p.delay + delay) none.1.1.1.1.1.1.1.1.1.0);
        fits = none.1.1.1.1.1.1.1.1.1.1.0;
      }

-- what is known of the fields of a beacon within rule
pub record Ruled (b : Beacon) : Type 0 where
  pub origin : rules.address b.original_source ≡ true
  pub few : b.max_hops ≤ 10
  pub passes : (own delay : ℕ) → rules.address own ≡ true → b.hop < b.max_hops → beacon.rule (beacon_values (passed_by own delay b)) [] ≡ true

pub ruled : (b : Beacon) → beacon.rule (beacon_values b) [] ≡ true → Ruled b
unfolding passed_by
ruled b e =
    let tests =
    eqb b.destination 0xFFFF ∷ rules.address b.source ∷ eqb b.size 27 ∷ rules.network b.network ∷ (leb 1 b.total_slots && leb b.total_slots 100) ∷
    leb 1 b.slot_ms ∷
    rules.address b.original_source ∷
    (leb 1 b.max_hops && leb b.max_hops 10) ∷
    hops_and_slots b in
    let holds = all_hold tests e in
    record {
      origin = holds 6;
      few = leb-true _ _ ((and-eq-true_iff (leb 1 b.max_hops) (leb b.max_hops 10)).0 (holds 7)).1;
      passes = λ own delay a h. all_with (set tests 1 (rules.address own)) (all_with tests e 1 (rules.address own) a) 8 (leb (b.hop + 1) b.max_hops) (le-leb (b.hop + 1) b.max_hops (omega (arith, h)));
    }

pub read_ruled : (s : List ℕ) → refusal_as beacon s ≡ 0 → Ruled (beacon_in s)
read_ruled s e = ruled (beacon_in s) (passed _ _ _ s e).kept

-- the same of a short one
pub record ShortRuled (b : ShortBeacon) : Type 0 where
  pub few : b.max_hops ≤ 10
  pub passes : (own delay : ℕ) → rules.address own ≡ true → b.hop < b.max_hops → short_beacon.rule (short_beacon_values (short_passed_by own delay b)) [] ≡ true

pub short_ruled : (b : ShortBeacon) → short_beacon.rule (short_beacon_values b) [] ≡ true → ShortRuled b
unfolding short_passed_by
short_ruled b e =
    let tests =
    rules.address b.source ∷ rules.network b.network ∷ (leb 1 b.total_slots && leb b.total_slots 100) ∷ leb 1 b.slot_ms ∷ (leb 1 b.max_hops && leb b.max_hops 10) ∷
    hop_within b in
    record {
      few = leb-true _ _ ((and-eq-true_iff (leb 1 b.max_hops) (leb b.max_hops 10)).0 (all_hold tests e 4)).1;
      passes = λ own delay a h. all_with (set tests 0 (rules.address own)) (all_with tests e 0 (rules.address own) a) 5 (leb (b.hop + 1) b.max_hops) (le-leb (b.hop + 1) b.max_hops (omega (arith, h)));
    }

pub read_short_ruled : (s : List ℕ) → refusal_as short_beacon s ≡ 0 → ShortRuled (short_in s)
read_short_ruled s e = short_ruled (short_in s) (passed _ _ _ s e).kept

-- and of either kind, with a manager
pub record HeardRuled (manager : ℕ) (b : EitherBeacon) : Type 0 where
  pub origin : rules.address (origin_of manager b) ≡ true
  pub few : b.max_hops ≤ 10

pub heard_ruled : (s : List ℕ) (manager : ℕ) → rules.address manager ≡ true → either_refusal s ≡ 0 → HeardRuled manager (either_in s)
unfolding either_refusal either_in
heard_ruled s manager a e = go (is_short s) e
  where
    go : (b : Bool) → refusal_as (cond b short_beacon beacon) s ≡ 0 → HeardRuled manager (cond b (of_short (short_in s)) (of_beacon (beacon_in s)))
    go true x = record { origin = a; few = (read_short_ruled s x).few }
    go false x = let r = read_ruled s x in record { origin = r.origin; few = r.few }

-- ---- what the table says of the beacon, between what refuses the frame and the room for its copy
module _ (t : Table) (network manager : ℕ) (s : List ℕ) (delay time room before behind : ℕ) (p : Passing) (q : p ≡ passing_of manager (either_in s))
    (u : before ≡ first (unread_reasons network manager s)) (r : behind ≡ cond (ltb room (copy_size (is_short s))) 5 0) where
  abbrev front : List Reason
  front = unread_reasons network manager s

  abbrev own : List Reason
  own = table_reasons t network (passing_of manager (either_in s)) delay time

  last-reason : first (own ++ (refusing behind ∷ [])) ≡ first (own ++ (reason (ltb room (copy_size (is_short s))) 5 ∷ []))
  last-reason = first-behind own (refusing behind ∷ []) (reason (ltb room (copy_size (is_short s))) 5 ∷ []) (λ n. first-refusing behind ∙ r)

  front_numbered : Numbered front
  front_numbered = (refusing_numbered (either_refusal s), _)

  forward-number : first (pass_reasons t before network p delay time behind) ≡ forward_refusal t network manager s delay time room
  unfolding forward_refusal
  forward-number =
      rw (u, q, copy_length t delay s)
      (first-behind (reason (not (within_rule t)) 14 ∷ []) (refusing (first front) ∷ own ++ (refusing behind ∷ [])) (front ++ (own ++ (reason (ltb room (copy_size (is_short s))) 5 ∷ [])))
      (λ n. sym (first_append front (own ++ (refusing behind ∷ [])) front_numbered) ∙ first-behind front (own ++ (refusing behind ∷ [])) (own ++ (reason (ltb room (copy_size (is_short s))) 5 ∷ [])) (λ m. last-reason)))

  -- the table when it was asked
  pub passed_as : pass_of t before network p delay time behind ≡ settled (forward_refusal t network manager s delay time room) t (passed_table t (passing_of manager (either_in s)) time)
  unfolding pass_of
  passed_as = rw (forward-number, q)

-- the number of what refuses a buffer that is too short
pub room-number : (b : Bool) (answer : Result Unit Refusal) → answer ≡ cond b (Err Room) (Ok tt) → status_of answer ≡ cond b 5 0
room-number true answer e = ap status_of e
room-number false answer e = ap status_of e

-- ---- the copy
module _ (t : Table) (network manager : ℕ) (s : List ℕ) (delay time : ℕ) (out : List ℕ) (z : forward_refusal t network manager s delay time (length out) ≡ 0) where
  known : Onward t network manager s delay time (length out)
  known = onward t network manager s delay time (length out) z

  -- the sums that it needs fit their fields, and it fits the buffer
  pub copy_fits : Fitting s delay (length out)
  copy_fits =
      record {
        hops = omega (arith, known.below, (heard_ruled s manager known.manages known.unread).few);
        sum = known.sum;
        size = omega (arith, ltb-false (length out) (length (copy_of t delay s)) known.fits, copy_length t delay s);
      }

-- ---- the answers
module _ (t : Table) (network manager : ℕ) (s : List ℕ) (delay time : ℕ) (out : List ℕ) (answer : Result Table Refusal)
    (e : changed t answer ≡ settled (forward_refusal t network manager s delay time (length out)) t (passed_table t (passing_of manager (either_in s)) time)) where
  abbrev number : ℕ
  number = forward_refusal t network manager s delay time (length out)

  said : status_of answer ≡ number
  said = ap (λ (x : Changed). x.refused) e

  pub forwarded_off : (r : Refusal) → answer ≡ Err r → forwards.passed (forwarded t (Err r)) out ≡ forward_of t network manager s delay time out
  unfolding forward_of
  forwarded_off r q =
      let n : number_of r ≡ number = ap status_of (sym q) ∙ said in
      rw (← n, ne_eqb (number_of r) 0 (refusal_some r))

  module _ (next : Table) (q : answer ≡ Ok next) where
    pub forward-none : number ≡ 0
    forward-none = sym said ∙ ap status_of q

    pub forwarded_on : (held : List ℕ) (size : ℕ) → held ≡ sets out 0 (copy_of t delay s) → size ≡ copy_size (is_short s)
        → forwards.passed (forwarded t (Ok (record { table = next; written = size }))) held ≡ forward_of t network manager s delay time out
    unfolding forward_of
    forwarded_on held size h l =
        let new : next ≡ passed_table t (passing_of manager (either_in s)) time = ap (held_after t) (sym q) ∙ (ap (λ (x : Changed). x.table) e ∙ rw forward-none) in
        rw (forward-none, h, l, new, copy_length t delay s)

-- ---- by a table that lies in bytes
module _ (table : List ℕ) (network manager : ℕ) (s : List ℕ) (delay time : ℕ) (out : List ℕ) (answer : Result Unit Refusal) (last : List ℕ) (call : Table → Changed)
    (e : table_left (status_of answer) last ≡ changed_by table call)
    (k : (t : Table) → call t ≡ settled (forward_refusal t network manager s delay time (length out)) t (passed_table t (passing_of manager (either_in s)) time)) where
  abbrev t : Table
  t = table_in table

  said-stored : status_of answer ≡ stored_table table (forward_refusal t network manager s delay time (length out))
  unfolding changed_by
  said-stored = ap (λ (x : TableLeft). x.status) e ∙ rw (k t)

  pub stored_off : (r : Refusal) → answer ≡ Err r → forwarded_in (Err r) last out ≡ forward_call table network manager s delay time out 0
  unfolding forward_call forward_of changed_by
  stored_off r q =
      let n = ap status_of (sym q) in
      let kept : last ≡ table = ap (λ (x : TableLeft). x.table) e ∙ left n in
      rw (← said-stored, ← n, ne_eqb (number_of r) 0 (refusal_some r), kept)
    where
      left : number_of r ≡ status_of answer → (changed_by table call).table ≡ table
      left n = after-refused (changed_by table call).status table _ (λ y. refusal_some r (n ∙ (ap (λ (x : TableLeft). x.status) e ∙ y)))

  pub stored-none : status_of answer ≡ 0 → forward_refusal t network manager s delay time (length out) ≡ 0
  stored-none z = (CallLaws.stored-none (is_table table) (forward_refusal t network manager s delay time (length out)) (sym said-stored ∙ z)).1

  pub stored_on : (held : List ℕ) (size : ℕ) → status_of answer ≡ 0 → held ≡ sets out 0 (copy_of t delay s) → size ≡ copy_size (is_short s)
      → forwarded_in (Ok size) last held ≡ forward_call table network manager s delay time out 0
  unfolding forward_call forward_of changed_by
  stored_on held size z h l =
      let (known, none) = CallLaws.stored-none (is_table table) (forward_refusal t network manager s delay time (length out)) (sym said-stored ∙ z) in
      let new : last ≡ table_bytes (passed_table t (passing_of manager (either_in s)) time) = ap (λ (x : TableLeft). x.table) e ∙ bytes-new known none in
      rw (known, none, h, l, new, copy_length t delay s)
    where
      bytes-new : is_table table ≡ true → forward_refusal t network manager s delay time (length out) ≡ 0 → (changed_by table call).table ≡ table_bytes (passed_table t (passing_of manager (either_in s)) time)
      bytes-new y n = rw (k t, y, n)

-- an accepted forward leaves a table within rule
pub forward-within : (t : Table) (network manager : ℕ) (s : List ℕ) (delay time : ℕ) (out : List ℕ) → (forward_of t network manager s delay time out).answer.refused ≡ 0
    → within_rule (forward_of t network manager s delay time out).answer.table ≡ true
unfolding forward_of
forward-within t network manager s delay time out e =
    let o = onward t network manager s delay time (length out) e in
    let w = within t o.right in
    let rs = rows_of t in
    rw e (within-pad t.own time true (origin_of manager (either_in s)) (either_in s).sequence (standing time rs) w.unit (heard_ruled s manager o.manages o.unread).origin
    (few_stand t o.right time) (standing-ascending time rs w.ascends) (standing-rules t.own t.time time rs w.rules))
