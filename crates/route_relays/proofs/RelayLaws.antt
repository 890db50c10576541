-- Relaying, from what its parts say.
-- Assumes nothing.
use Rattle.octets.proofs.Words.{◌≡◌, refl, sym, ap, ◌∙◌, Bool, true, false, not, ◌&&◌, cond, and-eq-true_iff, false≢true, List, [], ◌∷◌, ℕ, ◌+◌, ◌≤◌, arith, eq-eqb, ne_eqb, eqb-true, leb-false, ltb-false, not-false, eqb, ltb, length, sets}
use Rattle.std.specs.Prelude.{Result, Ok, Err}
use Rattle.octets.specs.Answers.{Reason, first}
use Rattle.octets.specs.Refusals.{number_of}
use Rattle.octets.specs.declared.refusals.Refusal.{Refusal}
use Rattle.octets.proofs.RefusalLaws.{refusal_some}
use Rattle.octets.specs.Parts.{Lent, part_of}
use Rattle.octets.proofs.AnswerLaws.{Numbered, refusing_numbered, none-holds}
use Rattle.octets.proofs.TestLaws.{neither}
use Rattle.moments.specs.Moments.{in_order}
use Rattle.frame_kinds.specs.Reading.{refusal_as}
use Rattle.octets.specs.Addresses.{address}
use Rattle.frame_kinds.specs.Shape.{values_in, part_in, part_lent}
use Rattle.frame_kinds.proofs.ReadingLaws.{passed, part_length}
use Rattle.frame_traffic.specs.declared.data_frame.DataHeader.{DataHeader}
use Rattle.frame_traffic.specs.Traffic.{data_kind, data_values, data_from}
use Rattle.frame_kinds.proofs.StoredLaws.{frame-length}
use Rattle.route_table.specs.Outcomes.{Found, found}
use Rattle.route_table.specs.declared.table.Route.{Route}
use Rattle.route_table.specs.declared.table.Table.{Table}
use Rattle.route_table.specs.Rows.{row_for}
use Rattle.route_table.specs.Tables.{rows_of, within_rule, found_by, lookup_of}
use Rattle.route_table.proofs.LookupLaws.{looked_up}
use Rattle.route_bytes.specs.TableBytes.{table_in, is_table, holds_table}
use Rattle.route_in_place.proofs.JudgedLaws.{judged-table}
use Rattle.route_relays.specs.Outcomes.{told}
use Rattle.route_relays.specs.declared.relaying.Relayed.TheVariants.{Ours, Copied}
use Rattle.route_relays.specs.Relays.{data_in, is_for, for_us, passed_on, copy_of, unrelayed_reasons, relay_reasons, relay_refusal, relay_of, relay_by, relay_in, handed_back, Relaying, relayed, unwritten, passed_to, relayed_or}

pub header_in : (h : DataHeader) (s : List ℕ) → data_values h ≡ values_in data_kind s → h ≡ data_in s
header_in h s e = ap data_from e

-- a copy has its payload and ten bytes
pub copy_length : (s : List ℕ) → length (part_in data_kind s) + 10 ≡ length (copy_of s)
copy_length s =
    omega (arith, frame-length (1 ∷ data_kind.widths) (data_kind.code ∷ data_values (passed_on (data_in s))) (part_in data_kind s) [] 9 refl refl)

-- of a frame that was read it has as many bytes
pub copy-size : (s : List ℕ) → refusal_as data_kind s ≡ 0 → length s ≡ length (copy_of s)
copy-size s e = omega (arith, copy_length s, part_length data_kind s e, (passed _ _ _ s e).sized)

-- the addresses of a frame that was read
pub read_destination : (s : List ℕ) → refusal_as data_kind s ≡ 0 → address (data_in s).destination ≡ true
read_destination s e = ((and-eq-true_iff (address (data_in s).source) (address (data_in s).destination)).0 (passed _ _ _ s e).kept).1

-- ---- by a table within rule of which the unit, the last accepted time and a lookup are known
module _ (own last : ℕ) (found : Found) (s : List ℕ) (time least room : ℕ) where
  pub numbers : Numbered (unrelayed_reasons own last found s time least room)
  numbers =
      (refusing_numbered (refusal_as data_kind s), _)

  -- what is known of a frame that is passed on
  record OnwardBy : Type 0 where
    unread : refusal_as data_kind s ≡ 0
    ordered : in_order last time ≡ true
    lives : 2 ≤ (data_in s).ttl
    there : found.refused ≡ 0
    lasts : least ≤ found.left
    fits : length (copy_of s) ≤ room

  onward_by : first (unrelayed_reasons own last found s time least room) ≡ 0 → is_for own s ≡ false → OnwardBy
  onward_by e o =
      let n = refusal_as data_kind s in
      let none = none-holds (unrelayed_reasons own last found s time least room) numbers e in
      record {
        unread = eqb-true n 0 (not-false _ none.0);
        ordered = not-false (in_order last time) none.1.1.0;
        lives = leb-false (data_in s).ttl 1 (rw o at none.1.1.1.0);
        there = eqb-true found.refused 0 (not-false _ (neither (not (eqb found.refused 0)) (ltb found.left least) (rw o at none.1.1.1.1.0)).0);
        lasts = ltb-false found.left least (neither (not (eqb found.refused 0)) (ltb found.left least) (rw o at none.1.1.1.1.0)).1;
        fits = ltb-false room (length (copy_of s)) (rw o at none.1.1.1.1.1.0);
      }

-- ---- by a table
module _ (t : Table) (s : List ℕ) (time least room : ℕ) where
  abbrev reasons : List Reason
  reasons = unrelayed_reasons t.own t.time (lookup_of t (data_in s).destination time) s time least room

  -- nothing refuses it: neither the table's rule nor what comes behind it
  pub unrefused : relay_refusal t s time least room ≡ 0 → (within_rule t ≡ true) × (first reasons ≡ 0)
  unfolding relay_refusal
  unrefused e =
      let none = none-holds (relay_reasons t s time least room) (_, numbers t.own t.time (lookup_of t (data_in s).destination time) s time least room) e in
      let right = not-false (within_rule t) none.0 in
      (right, rw right at e)

  -- a frame that is not refused is read
  pub relayed-read : relay_refusal t s time least room ≡ 0 → refusal_as data_kind s ≡ 0
  relayed-read e =
      eqb-true (refusal_as data_kind s) 0
      (not-false _ (none-holds reasons (numbers t.own t.time (lookup_of t (data_in s).destination time) s time least room) (unrefused e).1).0)

  -- what is known of a frame that is passed on
  pub record Onward : Type 0 where
    pub right : within_rule t ≡ true
    pub unread : refusal_as data_kind s ≡ 0
    pub ordered : in_order t.time time ≡ true
    pub lives : 2 ≤ (data_in s).ttl
    pub found : (lookup_of t (data_in s).destination time).refused ≡ 0
    pub lasts : least ≤ (lookup_of t (data_in s).destination time).left
    pub fits : length (copy_of s) ≤ room

  pub onward : relay_refusal t s time least room ≡ 0 → for_us t s ≡ false → Onward
  onward e o =
      let (right, none) = unrefused e in
      let k = onward_by t.own t.time (lookup_of t (data_in s).destination time) s time least room none o in
      record { right = right; unread = k.unread; ordered = k.ordered; lives = k.lives; found = k.there; lasts = k.lasts; fits = k.fits }

-- the copy of a frame that is passed on
module _ (t : Table) (s : List ℕ) (time least : ℕ) (out : List ℕ) (e : relay_refusal t s time least (length out) ≡ 0) (o : for_us t s ≡ false) where
  known : Onward t s time least (length out)
  known = onward t s time least (length out) e o

  part_is : length (part_in data_kind s) ≡ (data_in s).count
  part_is = part_length data_kind s known.unread

  pub copy_short : length (copy_of s) ≤ 255
  copy_short =
      let p = passed _ _ _ s known.unread in
      omega (arith, copy_length s, part_is, p.sized, p.short)

  -- the answer to it: what the lookup of its destination says, and the copy from the buffer's start
  pub onto : relayed (passed_to (lookup_of t (data_in s).destination time) s) (sets out 0 (copy_of s)) ≡ relay_of t s time least out
  unfolding relay_of
  onto = rw (e, o)

-- ---- what every answer says
module _ (number : ℕ) (ours : Bool) (found : Found) (s out : List ℕ) where
  or_cases : (P : Relaying → Type 0) → (number ≡ 0 → ours ≡ false → P (relayed (passed_to found s) (sets out 0 (copy_of s))))
      → ((number ≡ 0 → ours ≡ true) → P (relayed (unwritten number (data_in s).count) out)) → P (relayed_or number ours found s out)
  or_cases P on off = go (eqb number 0) ours refl refl
    where
      go : (b u : Bool) → eqb number 0 ≡ b → ours ≡ u → P (cond (b && not u) (relayed (passed_to found s) (sets out 0 (copy_of s))) (relayed (unwritten number (data_in s).count) out))
      go true true q o = off (λ z. o)
      go true false q o = on (eqb-true number 0 q) o
      go false u q o = off (λ z. absurd (false≢true (sym q ∙ eq-eqb number 0 z)))

module _ (t : Table) (s : List ℕ) (time least : ℕ) (out : List ℕ) where
  by_cases : (P : Relaying → Type 0)
      → (relay_refusal t s time least (length out) ≡ 0 → for_us t s ≡ false → P (relayed (passed_to (lookup_of t (data_in s).destination time) s) (sets out 0 (copy_of s))))
      → ((relay_refusal t s time least (length out) ≡ 0 → for_us t s ≡ true) → P (relayed (unwritten (relay_refusal t s time least (length out)) (data_in s).count) out)) → P (relay_of t s time least out)
  unfolding relay_of
  by_cases = or_cases (relay_refusal t s time least (length out)) (for_us t s) (lookup_of t (data_in s).destination time) s out

  -- its number is the first reason's
  pub relay-number : (relay_of t s time least out).answer.refused ≡ relay_refusal t s time least (length out)
  relay-number = by_cases (λ w. w.answer.refused ≡ relay_refusal t s time least (length out)) (λ z o. sym z) (λ h. refl)

  -- where it is refused nothing is written
  pub relay-kept : ((relay_of t s time least out).answer.refused ≡ 0 → ⊥) → (relay_of t s time least out).held ≡ out
  relay-kept = by_cases (λ w. (w.answer.refused ≡ 0 → ⊥) → w.held ≡ out) (λ z o h. absurd (h refl)) (λ h g. refl)

  -- where it is not, it is for this unit or passed on
  pub relay-ours : (relay_of t s time least out).answer.refused ≡ 0 → (relay_of t s time least out).answer.ours ≡ for_us t s
  relay-ours = by_cases (λ w. w.answer.refused ≡ 0 → w.answer.ours ≡ for_us t s) (λ z o q. sym o) (λ h q. eq-eqb _ 0 q ∙ sym (h q))

  -- a frame for this unit has no next hop
  pub relay_no_hop : (relay_of t s time least out).answer.ours ≡ true → (relay_of t s time least out).answer.next_hop ≡ 0
  relay_no_hop = by_cases (λ w. w.answer.ours ≡ true → w.answer.next_hop ≡ 0) (λ z o q. absurd (false≢true q)) (λ h q. refl)

  -- and its size is a byte's
  pub relay_short : (relay_of t s time least out).answer.refused ≡ 0 → (relay_of t s time least out).answer.size ≤ 255
  relay_short =
      by_cases (λ w. w.answer.refused ≡ 0 → w.answer.size ≤ 255) (λ z o q. copy_short t s time least out z o)
      (λ h q.
      let unread = relayed-read t s time least (length out) q in
      let p = passed _ _ _ s unread in
      rw (eq-eqb _ 0 q) (omega (arith, part_length data_kind s unread, p.sized, p.short)))

-- of a table within rule it is what its row for the destination makes of it; of any other 14
module _ (t : Table) (s : List ℕ) (time least : ℕ) (out : List ℕ) where
  pub relayed-by : within_rule t ≡ true
      → relay_by t.own t.time (found_by t.time (row_for (data_in s).destination (rows_of t)) (data_in s).destination time) s time least out ≡ relay_of t s time least out
  unfolding relay_by relay_of relay_refusal
  relayed-by w = rw (looked_up t (data_in s).destination time w, w)

  pub unrelayed : within_rule t ≡ false → relayed (unwritten 14 0) out ≡ relay_of t s time least out
  unfolding relay_of relay_refusal
  unrelayed w = rw w

-- the same of the table that bytes hold
module _ (table s : List ℕ) (time least : ℕ) (out : List ℕ) where
  pub stored-relayed : holds_table table ≡ true → relay_of (table_in table) s time least out ≡ relay_in table s time least out
  unfolding relay_in
  stored-relayed e = rw (judged-table table e)

  pub stored-none : holds_table table ≡ false → relayed (unwritten 14 0) out ≡ relay_in table s time least out
  unfolding relay_in holds_table
  stored-none e = go (is_table table) refl
    where
      go : (b : Bool) → is_table table ≡ b → relayed (unwritten 14 0) out ≡ cond b (relay_of (table_in table) s time least out) (relayed (unwritten 14 0) out)
      go true q = unrelayed (table_in table) s time least out (rw q at e)
      go false q = refl

-- ---- the answers, by which way the frame goes
module _ (own last : ℕ) (route : Result Route Refusal) (s : List ℕ) (time least : ℕ) (out : List ℕ) where
  abbrev number : ℕ
  number = first (unrelayed_reasons own last (found route) s time least (length out))

  pub by-refused : (r : Refusal) → number_of r ≡ number → relayed (told (Err r)) out ≡ relay_by own last (found route) s time least out
  unfolding relay_by
  by-refused r e = rw (← e, ne_eqb (number_of r) 0 (refusal_some r))

  module _ (z : 0 ≡ number) where
    pub by-ours : is_for own s ≡ true → (h : DataHeader) → data_values h ≡ values_in data_kind s → relayed (told (Ok (Ours h.count))) out ≡ relay_by own last (found route) s time least out
    unfolding relay_by
    by-ours o h e = rw (← z, o, header_in h s e)

    module _ (o : is_for own s ≡ false) where
      on : OnwardBy own last (found route) s time least (length out)
      on = onward_by own last (found route) s time least (length out) (sym z) o

      -- it can be copied
      pub copied_on : (refusal_as data_kind s ≡ 0) × (length s ≤ length out)
      copied_on = (on.unread, omega (arith, copy-size s on.unread, on.fits))

      pub by-copied : (r : Route) → route ≡ Ok r → (held : List ℕ) → held ≡ sets out 0 (copy_of s)
          → relayed (told (Ok (Copied r.next_hop (length s) r.left))) held ≡ relay_by own last (found route) s time least out
      unfolding relay_by
      by-copied r q held e = rw (← z, o, q, e, copy-size s on.unread)

-- ---- a payload that is handed back
module _ (t : Table) (s : Lent) (time : ℕ) where
  pub handed_to_none : within_rule t ≡ false → part_of s 0 0 ≡ handed_back t s time
  unfolding handed_back relay_refusal
  handed_to_none w = rw w

  module _ (w : within_rule t ≡ true) (n : ℕ)
      (z : n ≡ first (unrelayed_reasons t.own t.time (found_by t.time (row_for (data_in s.bytes).destination (rows_of t)) (data_in s.bytes).destination time) s.bytes time 0 0)) where
    same : n ≡ relay_refusal t s.bytes time 0 0
    unfolding relay_refusal
    same = z ∙ rw (← looked_up t (data_in s.bytes).destination time w, w)

    pub handed_part : n ≡ 0 → is_for t.own s.bytes ≡ true → part_lent data_kind s ≡ handed_back t s time
    unfolding handed_back
    handed_part e o = rw (← same, e, o)

    pub handed_none : (n ≡ 0 → is_for t.own s.bytes ≡ false) → part_of s 0 0 ≡ handed_back t s time
    unfolding handed_back
    handed_none o = go (eqb n 0) refl
      where
        go : (b : Bool) → eqb n 0 ≡ b → part_of s 0 0 ≡ cond (eqb (relay_refusal t s.bytes time 0 0) 0 && for_us t s.bytes) (part_lent data_kind s) (part_of s 0 0)
        go true q = rw (← same, q, o (eqb-true n 0 q))
        go false q = rw (← same, q)
