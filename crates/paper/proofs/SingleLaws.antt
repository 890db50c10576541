-- No two answers meet a contract: each view can be undone.
-- Assumes nothing.
use Rattle.std.specs.Prelude.{Option, Some, None, Result, Ok, Err}
use Rattle.octets.proofs.Words.{◌≡◌, refl, sym, ap, ap₂, ◌∙◌, List, [], ◌∷◌, map, cond, eqb, ℕ}
use Rattle.octets.specs.Answers.{Said, accepted, OneToOne}
use Rattle.octets.specs.Told.{Wrote, told_written}
use Rattle.slot_sets.specs.Sets.{slots_of, mask_of}
use Rattle.slot_sets.proofs.MaskLaws.{mask_back}
use Rattle.frame_traffic.specs.Traffic.{data_from, update_from}
use Rattle.frame_requests.specs.Requests.{join_request_from, join_response_from, slot_request_from, election_from}
use Rattle.frame_beacons.specs.Beacons.{beacon_from}
use Rattle.frame_beacons.specs.ShortBeacons.{short_beacon_from}
use Rattle.octets.specs.declared.refusals.Refusal.{Refusal}
use Rattle.octets.proofs.RefusalLaws.{answer_with, refusal_back, answer_back, status_back, refusal_in, number_back}
use Rattle.octets.proofs.ToldLaws.{told_written-one}
use Rattle.frames.specs.declared.answers.Frame.{Frame}
use Rattle.frames.proofs.ToldLaws.{told-one}
use Rattle.frame_entries.proofs.MeetLaws.{told_walked-one}
use Rattle.site_plan.proofs.ToldLaws.{told_plan-one}
use Rattle.site_sheet.proofs.ToldLaws.{checked_one_to_one}
use Rattle.book_members.specs.declared.member.Member.{Member}
use Rattle.book_members.specs.Members.{Row, row_of, rows_of}
use Rattle.book.specs.declared.book.Book.{Book}
use Rattle.book.specs.Books.{Contents, contents, changed as changed_book}
use Rattle.book_joins.specs.declared.grants.Granted.{Granted}
use Rattle.book_joins.specs.Joins.{answered_by}
use Rattle.unit_choice.specs.declared.choosing.Which.{Which}
use Rattle.unit_choice.specs.Outcomes.{chosen_by}
use Rattle.unit_poll.specs.Outcomes.{named}
use Rattle.route_table.specs.declared.row.Row as routes
use Rattle.route_table.specs.declared.table.Table.{Table}
use Rattle.route_table.specs.declared.table.Route.{Route}
use Rattle.route_table.specs.Outcomes.{found}
use Rattle.route_in_place.specs.Outcomes.{judged}
use Rattle.route_merges.specs.declared.learning.Tally.{Tally}
use Rattle.route_merges.specs.declared.merging.Merging.{Merging}
use Rattle.route_merges.specs.Outcomes.{Merged, merged}
use Rattle.route_merges.specs.StoredMerges.{merged_in}
use Rattle.route_forwards.specs.declared.forwarding.Forwarded.{Forwarded}
use Rattle.route_forwards.specs.Outcomes.{forwarded, written_by, Forwarded as ForwardedSaid}
use Rattle.route_relays.specs.declared.relaying.Relayed.{Relayed}
use Rattle.route_relays.specs.Outcomes.{told as told_relayed, Relayed as RelayedSaid}
use Rattle.site_plan.proofs.ToldLaws.{slot_number-one}
use Rattle.octets.specs.Refusals.{status_of}
use Rattle.paper.specs.Single.{TellsApart, SingleAnswer, PartsTellApart, any, mask, mask_row, mask_rows, mask_book, mask_change, mask_grant, ViewsTellApart}

pub single-answer : SingleAnswer
single-answer A B possible view apart given a a' p p' e e' = apart a a' p p' (e ∙ sym e')

pub parts_tell_apart : PartsTellApart
parts_tell_apart A A' B B' possible possible' view view' apart apart' a a' p p' e =
    ap₂ {C = A × A'} (λ part rest. (part, rest))
    (apart a.0 a'.0 p.0 p'.0 (ap (λ (v : B × B'). v.0) e))
    (apart' a.1 a'.1 p.1 p'.1 (ap (λ (v : B × B'). v.1) e))

-- a view that can be undone tells answers apart
undone : {A B : Type 0} (possible : A → Type 0) (view : A → B) (back : B → A) → ((a : A) → possible a → back (view a) ≡ a) → TellsApart possible view
undone possible view back returns a a' p p' e = sym (returns a p) ∙ (ap back e ∙ returns a' p')

-- what an enum says, with a buffer
with_buffer : {A : Type 0} (said : A → Said) → OneToOne said → TellsApart {B = Wrote} any (λ (a : A × List ℕ). record { said = said a.0; held = a.1 })
with_buffer {A} said one a a' p p' e =
    parts_tell_apart A (List ℕ) Said (List ℕ) any any said (λ held. held) (λ a a' p p' e. one a a' e) (λ a a' p p' e. e) a a' (p, p) (p', p')
    (ap {B = Said × List ℕ} (λ (w : Wrote). (w.said, w.held)) e)

-- ---- masks
row_back : Row → Member
row_back r = record { unit = r.unit; slots = mask_of r.slots; time = r.time }

row_back_lem : (m : Member) → mask_row m → row_back (row_of m) ≡ m
unfolding row_back
row_back_lem m p = ap (λ (slots : ℕ). record { unit = m.unit; slots = slots; time = m.time }) (mask_back m.slots p)

rows_back : (ms : List Member) → mask_rows ms → map row_back (rows_of ms) ≡ ms
unfolding rows_of
rows_back [] p = refl
rows_back (m ∷ ms) p = ap₂ ◌∷◌ (row_back_lem m p.0) (rows_back ms p.1)

book_back : Contents → Book
book_back b = record { plan = b.plan; time = b.time; rows = map row_back b.places }

book_back_lem : (b : Book) → mask_book b → book_back (contents b) ≡ b
unfolding book_back
book_back_lem b p = ap (λ (rows : List Member). record { plan = b.plan; time = b.time; rows = rows }) (rows_back b.rows p)

-- ---- answers
chosen_back : (a : Result Which Refusal) → any a → answer_with (chosen_by a).refused (cond (eqb (chosen_by a).which 0) Which.First Which.Second) ≡ a
chosen_back (Ok Which.First) p = refl
chosen_back (Ok Which.Second) p = refl
chosen_back (Err r) p = refusal_back r _

named_back : (a : Result ℕ Refusal) → any a → answer_with (named a).refused (named a).unit ≡ a
named_back (Ok unit) p = refl
named_back (Err r) p = refusal_back r _

found_back : (a : Result Route Refusal) → any a → answer_with (found a).refused (record { next_hop = (found a).next_hop; hops = (found a).hops; left = (found a).left }) ≡ a
found_back (Ok r) p = refl
found_back (Err r) p = refusal_back r _

judged_back : (a : Option routes.Row) → any a → cond (judged a).holds (Some (judged a).row) None ≡ a
judged_back (Some r) p = refl
judged_back None p = refl

relayed_with : RelayedSaid → Result Relayed Refusal
relayed_with v = answer_with v.refused (cond v.ours (Relayed.Ours v.size) (Relayed.Copied v.next_hop v.size v.left))

relayed_back : (a : Result Relayed Refusal) → relayed_with (told_relayed a) ≡ a
unfolding relayed_with
relayed_back (Ok (Relayed.Ours size)) = refl
relayed_back (Ok (Relayed.Copied next_hop size left)) = refl
relayed_back (Err r) = refusal_back r _

merged_with : Merged → Result Merging Refusal
merged_with v = answer_with v.refused (record { table = v.table; tally = record { skipped = v.skipped; compared = v.compared } })

merged_back : (old : Table) (a : Result Merging Refusal) → merged_with (merged old a) ≡ a
unfolding merged_with
merged_back old (Ok m) = refl
merged_back old (Err r) = refusal_back r _

forwarded_with : ForwardedSaid → Result Forwarded Refusal
forwarded_with v = answer_with v.refused (record { written = v.written; table = v.table })

forwarded_back : (old : Table) (a : Result Forwarded Refusal) → forwarded_with (forwarded old a) ≡ a
unfolding forwarded_with
forwarded_back old (Ok f) = refl
forwarded_back old (Err r) = refusal_back r _

tally_back : (a : Result Tally Refusal) (table : List ℕ) → let l = merged_in a table in answer_with l.status (record { skipped = l.skipped; compared = l.compared }) ≡ a
tally_back (Ok t) table = refl
tally_back (Err r) table = refusal_back r _

written_back : (a : Result ℕ Refusal) → answer_with (status_of a) (written_by a) ≡ a
written_back (Ok n) = refl
written_back (Err r) = refusal_back r _

change_back : (old : Contents) (a : Result Book Refusal) → mask_change a → let l = changed_book old a in answer_with l.refused (book_back l.book) ≡ a
change_back old (Ok b) p = ap Ok (book_back_lem b p)
change_back old (Err r) p = refusal_back r _

grant_back : (old : Contents) (a : Result Granted Refusal) (held : List ℕ) → mask_grant a
    → let l = answered_by old a held in
    ◌≡◌ {A = Result Granted Refusal × List ℕ} (answer_with l.refused (record { written = l.written; book = book_back l.book }), l.held) (a, held)
grant_back old (Ok g) held p = ap (λ (b : Book). (Ok (record { written = g.written; book = b }), held)) (book_back_lem g.book p)
grant_back old (Err r) held p = ap (λ answer. (answer, held)) (refusal_back r _)

pub views_tell_apart : ViewsTellApart
unfolding book_back
views_tell_apart =
    record {
      itself = λ a a' p p' e. e;
      statuses = undone any _ (λ n. answer_with n tt) (λ a p. status_back a);
      refusals = undone any _ (λ n. refusal_in (answer_with n tt)) (λ r p. number_back r);
      data_headers = undone any _ data_from (λ a p. refl);
      update_headers = undone any _ update_from (λ a p. refl);
      join_requests = undone any _ join_request_from (λ a p. refl);
      join_responses = undone any _ join_response_from (λ a p. refl);
      slot_requests = undone any _ slot_request_from (λ a p. refl);
      discovery_requests = λ a a' p p' e. cc (told-one (Ok (Frame.DiscoveryRequest a)) (Ok (Frame.DiscoveryRequest a')) (ap (λ (vs : List ℕ). accepted (0x24 ∷ vs)) e));
      discovery_responses = λ a a' p p' e. cc (told-one (Ok (Frame.DiscoveryResponse a)) (Ok (Frame.DiscoveryResponse a')) (ap (λ (vs : List ℕ). accepted (0x25 ∷ vs)) e));
      elections = undone any _ election_from (λ a p. refl);
      beacons = undone any _ beacon_from (λ a p. refl);
      short_beacons = undone any _ short_beacon_from (λ a p. refl);
      frames = λ a a' p p' e. told-one a a' e;
      plans = λ a a' p p' e. told_plan-one a a' e;
      steps = λ a a' p p' e. told_walked-one a a' e;
      checks = λ a a' p p' e. checked_one_to_one a a' e;
      kinds_of_slots = λ a a' p p' e. slot_number-one a a' e;
      choices = undone any chosen_by (λ v. answer_with v.refused (cond (eqb v.which 0) Which.First Which.Second)) chosen_back;
      winners_named = undone any named (λ v. answer_with v.refused v.unit) named_back;
      findings = undone any found (λ v. answer_with v.refused (record { next_hop = v.next_hop; hops = v.hops; left = v.left })) found_back;
      judgings = undone any judged (λ v. cond v.holds (Some v.row) None) judged_back;
      writings_into = with_buffer told_written told_written-one;
      relayings = undone any _ (λ v. (relayed_with v.answer, v.held)) (λ a p. ap (λ answer. (answer, a.1)) (relayed_back a.0));
      lives = λ old. undone any _ (λ v. answer_with v.refused v.state) (λ a p. answer_back old a);
      clock_steps = λ old. undone any _ (λ v. answer_with v.refused v.offset) (λ a p. answer_back old a);
      tables_changed = λ old. undone any _ (λ v. answer_with v.refused v.table) (λ a p. answer_back old a);
      tables_merged = λ old. undone any _ merged_with (λ a p. merged_back old a);
      forwardings = λ old. undone any _ (λ v. (forwarded_with v.answer, v.held)) (λ a p. ap (λ answer. (answer, a.1)) (forwarded_back old a.0));
      parts = undone any _ (λ l. record { ref_ptr = (l.block, l.start); now = l.bytes }) (λ a p. refl);
      readers = undone any _ (λ v. record { frame = v.0; position = v.1 }) (λ e p. refl);
      masks = undone mask slots_of mask_of mask_back;
      rows = undone mask_rows rows_of (map row_back) rows_back;
      rows_lent = undone _ _ (λ l. record { ref_ptr = (l.block, l.start); now = map row_back l.rows }) (λ s p. ap (λ (rows : List Member). record { ref_ptr = s.ref_ptr; now = rows }) (rows_back s.now p));
      census =
          undone _ _ (λ v. record { own = v.0; place = v.1; slots = mask_of v.2; vacant = v.3 })
          (λ c p. ap (λ (slots : ℕ). record { own = c.own; place = c.place; slots = slots; vacant = c.vacant }) (mask_back c.slots p));
      books = undone mask_book contents book_back book_back_lem;
      changes = λ old. undone mask_change _ (λ l. answer_with l.refused (book_back l.book)) (change_back old);
      grants = λ old. undone _ _ (λ l. (answer_with l.refused (record { written = l.written; book = book_back l.book }), l.held)) (λ a p. grant_back old a.0 a.1 p);
      reads = undone any _ (λ l. (l.status, l.fields, l.place, l.extent)) (λ a p. refl);
      entries = undone any _ (λ l. (l.status, l.entry, l.next)) (λ a p. refl);
      writes = undone any _ (λ l. (l.status, l.out, l.written)) (λ a p. refl);
      tables = undone any _ (λ l. (l.status, l.table)) (λ a p. refl);
      lookups = undone any _ (λ l. (l.status, l.next_hop, l.hops, l.left)) (λ a p. refl);
      merges = undone any _ (λ l. (l.status, l.table, l.skipped, l.compared)) (λ a p. refl);
      relays = undone any _ (λ l. (l.status, l.out, l.next_hop, l.place, l.extent, l.left)) (λ a p. refl);
      tables_left = undone any _ (λ l. (answer_with l.status tt, l.table)) (λ a p. ap (λ answer. (answer, a.1)) (status_back a.0));
      merges_in = undone any _ (λ l. (answer_with l.status (record { skipped = l.skipped; compared = l.compared }), l.table)) (λ a p. ap (λ answer. (answer, a.1)) (tally_back a.0 a.1));
      forwards_in = undone any _ (λ l. (answer_with l.status l.written, l.table, l.out)) (λ a p. ap (λ answer. (answer, a.1, a.2)) (written_back a.0));
      forwards = undone any _ (λ l. (l.status, l.table, l.out, l.written)) (λ a p. refl);
      states = undone any _ (λ l. (l.status, l.state)) (λ a p. refl);
      clocks = undone any _ (λ l. (l.status, l.offset)) (λ a p. refl);
      follows = undone any _ (λ l. (l.status, l.which)) (λ a p. refl);
      polls = undone any _ (λ l. (l.status, l.poll)) (λ a p. refl);
      polls_left = undone any _ (λ l. (answer_with l.status tt, l.poll)) (λ a p. ap (λ answer. (answer, a.1)) (status_back a.0));
      winners = undone any _ (λ l. (l.status, l.winner)) (λ a p. refl);
      calls_of_book = undone any _ (λ l. (l.status, l.book)) (λ a p. refl);
      plan_numberings = undone any _ (λ l. (l.status, l.numbers)) (λ a p. refl);
      requests = undone any _ (λ l. (l.status, l.book, l.out, l.written)) (λ a p. refl);
      sheets = undone any _ (λ l. (l.status, l.named, l.lower, l.higher)) (λ a p. refl);
    }
