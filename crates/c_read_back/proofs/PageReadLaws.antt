-- A page is read as an update from this unit, with the entries of its rows.
-- Assumes nothing.
use Rattle.octets.proofs.Words.{◌≡◌, refl, sym, ap, ap₂, ◌∙◌, Bool, true, ◌&&◌, cond, and-eq-true_iff, List, [], ◌∷◌, map, ℕ, ◌+◌, ◌*◌, ◌≤◌, ◌<◌, arith, leb-true, lt-ltb, le-ltb, leb, ltb, length, get_or, take, drop, length-take, length-map, get_or-map}
use Rattle.octets.specs.Answers.{Said, accepted}
use Rattle.octets.specs.Layouts.{Fit}
use Rattle.octets.specs.Lists.{every}
use Rattle.octets.proofs.AnswerLaws.{unless-none, unless-number}
use Rattle.octets.proofs.ListLaws.{get_or-tab, every-both, every_take, every_drop}
use Rattle.octets.proofs.StoreLaws.{take-sets}
use Rattle.octets.proofs.AddressLaws.{address-fits}
use Rattle.octets.specs.Addresses.{address}
use Rattle.frame_kinds.specs.Shape.{part_in, frame_of}
use Rattle.octets.proofs.AnsweredLaws.{said_value}
use Rattle.octets.proofs.TestLaws.{of_choice}
use Rattle.frame_traffic.specs.declared.entry.Entry.{Entry}
use Rattle.frame_traffic.specs.Traffic.{entry_widths, entry_values, entry_rule, entry_at, entries_of, update, update_from}
use Rattle.frame_entries.specs.Walks.{walk_of}
use Rattle.frames.specs.Frames.{read_frame}
use Rattle.frames.proofs.KindLaws.{code_fits, an_update}
use Rattle.frames.proofs.TripLaws.{frame-values}
use Rattle.frames.proofs.WholeLaws.{frame-read, frame-accepted}
use Rattle.route_table.specs.declared.row.Row.{Row}
use Rattle.route_table.specs.declared.table.Table.{Table}
use Rattle.route_table.specs.Rows.{none, usable, row_rule, standing}
use Rattle.route_table.specs.Tables.{rows_of, within_rule}
use Rattle.route_table.proofs.RuleLaws.{ruled}
use Rattle.route_table.proofs.StandingLaws.{standing-every}
use Rattle.route_table.proofs.TableLaws.{within}
use Rattle.route_pages.specs.Pages.{entry_for, entries_bytes, on_page, page_frame, page_refusal, page_of}
use Rattle.route_bytes.specs.TableTrips.{Sized}
use Rattle.route_bytes.proofs.SizeLaws.{modest, rows_modest}
use Rattle.route_pages.proofs.EntryLaws.{EntriesFit, length-entries, entries_back}
use Rattle.c_read_back.specs.FramesRead.{Paged, PagesRead}

-- ---- the entry of a row
-- a row of a table within rule, whose quality and time fit their bytes
abbrev sound : ℕ → ℕ → Row → Bool
sound own last r = row_rule own last r && modest r

module _ (own last time : ℕ) (r : Row) (e : sound own last r ≡ true) where
  abbrev rule : row_rule own last r ≡ true
  rule = ((and-eq-true_iff (row_rule own last r) (modest r)).0 e).0

  small : (r.quality ≤ 255) × (r.time < 0x100000000)
  small = (grind (arith, e), grind (arith, e))

  hops-within : (leb 1 r.hops ≡ true) × (leb r.hops 16 ≡ true)
  hops-within = (and-eq-true_iff (leb 1 r.hops) (leb r.hops 16)).0 (ruled own last r rule).hops

  entry-fits : Fit entry_widths (entry_values (entry_for time r))
  unfolding entry_for
  entry-fits =
      let k = ruled own last r rule in
      let hops = leb-true r.hops 16 hops-within.1 in
      let (quality, stored) = small in (
        address-fits r.destination k.destination,
        (
          of_choice (λ v. v < 256) (usable time r) (omega (arith, hops)) (omega arith),
          (of_choice (λ v. v < 256) (usable time r) (omega (arith, quality)) (omega arith), (address-fits r.next_hop k.hop, (stored, tt))),
        ),
      )

  entry_ruled : entry_rule (entry_for time r) ≡ true
  unfolding entry_for
  entry_ruled =
      let k = ruled own last r rule in
      grind (arith, k.destination, k.hop, hops-within)

module _ (own last time : ℕ) where
  entries_fit : (rs : List Row) → every (sound own last) rs ≡ true → EntriesFit (map (entry_for time) rs)
  unfolding every
  entries_fit [] e = tt
  entries_fit (r ∷ rs) e = (entry-fits own last time r (grind (arith, e)), entries_fit rs (grind (arith, e)))

  entries_ruled : (rs : List Row) → every (sound own last) rs ≡ true → every entry_rule (map (entry_for time) rs) ≡ true
  unfolding every
  entries_ruled [] e = refl
  entries_ruled (r ∷ rs) e = grind (arith, e, entry_ruled own last time r, entries_ruled rs)

-- ---- an update with these rows
module _ (own last time : ℕ) (a : address own ≡ true) (h : time < 0x100000000) (rs : List Row) (few : length rs ≤ 24)
    (e : every (sound own last) rs ≡ true) where
  abbrev es : List Entry
  es = map (entry_for time) rs

  abbrev values : List ℕ
  values = own ∷ length rs ∷ time ∷ []

  abbrev frame : List ℕ
  frame = frame_of update values (entries_bytes es)

  back : entries_of (length rs) (entries_bytes es) ≡ es
  back = rw (length-map rs (entry_for time)) at (entries_back es (entries_fit own last time rs e))

  fits : Fit update.widths values
  fits = (address-fits own a, (omega (arith, few), (h, tt)))

  part-size : length (entries_bytes es) ≡ 10 * length rs
  part-size = length-entries es ∙ ap (λ (n : ℕ). 10 * n) (length-map rs (entry_for time))

  good : update.rule values (entries_bytes es) ≡ true
  good = rw (a, back) (entries_ruled own last time rs e)

  read : (read_frame frame ≡ accepted (0x31 ∷ values)) × (part_in update frame ≡ entries_bytes es)
  read = frame-read update an_update values (entries_bytes es) fits part-size (omega (arith, few)) good

  walks : (i : ℕ) → walk_of frame i ≡ accepted (cond (ltb i (length rs)) ((i + 1) ∷ entry_values (entry_at (entries_bytes es) i)) (0 ∷ []))
  unfolding walk_of
  walks i =
      unless-none _ _ (frame-accepted update an_update values (entries_bytes es) fits part-size (omega (arith, few)) good)
      ∙ ap₂ {C = Said} (λ (vs part : List ℕ). accepted (cond (ltb i (update_from vs).count) ((i + 1) ∷ entry_values (entry_at part i)) (0 ∷ [])))
      (frame-values update values (entries_bytes es) (code_fits an_update) fits) read.1

  entry-there : (i : ℕ) → i < length rs → entry_at (entries_bytes es) i ≡ entry_for time (get_or rs i none)
  entry-there i k =
      sym (get_or-tab (length rs) (entry_at (entries_bytes es)) i (entry_for time none) k)
      ∙ (ap (λ (l : List Entry). get_or l i (entry_for time none)) back ∙ get_or-map (entry_for time) rs i none)

  paged : Paged own time rs frame
  paged =
      record {
        header = read.0;
        entries = ap (entries_of (length rs)) read.1 ∙ back;
        walked =
            λ i k.
            walks i
            ∙ ap₂ {C = Said} (λ (b : Bool) (x : Entry). accepted (cond b ((i + 1) ∷ entry_values x) (0 ∷ []))) (lt-ltb i (length rs) k) (entry-there i k);
        ended =
            walks (length rs)
            ∙ ap (λ (b : Bool). accepted (cond b ((length rs + 1) ∷ entry_values (entry_at (entries_bytes es) (length rs))) (0 ∷ []))) (le-ltb (length rs) (length rs) (omega arith));
      }

-- ---- a page
module _ (t : Table) (p time : ℕ) (out : List ℕ) (z : Sized t) (h : time < 0x100000000) (e : page_refusal t p time (length out) ≡ 0) where
  abbrev rows : List Row
  rows = on_page (standing time (rows_of t)) p

  record Known : Type 0 where
    pub right : within_rule t ≡ true
    pub room : length (page_frame t p time) ≤ length out

  known : Known
  known = record { right = grind (arith, e); room = grind (arith, e) }

  rows_sound : every (sound t.own t.time) rows ≡ true
  rows_sound =
      let test = sound t.own t.time in
      let all = every-both (row_rule t.own t.time) modest _ (λ r e f. (and-eq-true_iff _ _).1 (e, f)) (rows_of t) (within t known.right).rules (rows_modest t.rows z.fit) in
      every_take test 24 (drop (24 * p) (standing time (rows_of t))) (every_drop test (24 * p) (standing time (rows_of t)) (standing-every test time (rows_of t) all))

  page : Paged t.own time rows (page_frame t p time)
  page =
      paged t.own t.time time (within t known.right).unit h rows (omega (arith, length-take 24 (drop (24 * p) (standing time (rows_of t))))) rows_sound

  -- it stands first in the buffer
  first : take (length (page_frame t p time)) (page_of t p time out).held ≡ page_frame t p time
  unfolding page_of
  first = rw e (take-sets out (page_frame t p time) (length (page_frame t p time)) refl known.room)

pub pages_are_read : PagesRead
unfolding page_of
pages_are_read t p time out size z h e =
    let n = page_refusal t p time (length out) in
    let frame = page_frame t p time in
    let accepts : n ≡ 0 = sym (unless-number n (length frame ∷ [])) ∙ ap (λ (x : Said). x.refusal) e in
    let there : take size (page_of t p time out).held ≡ frame =
    ap (λ (k : ℕ). take k (page_of t p time out).held) (said_value n (length frame) size (sym e)) ∙ first t p time out z h accepts in
    rw there (page t p time out z h accepts)
