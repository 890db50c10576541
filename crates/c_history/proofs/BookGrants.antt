-- The answers of calls from C, read by the reader of frames, grant what those of the same calls on values do, and as long.
-- Assumes nothing.
use Rattle.octets.proofs.Words.{◌≡◌, refl, sym, ap, ap₂, subst, ◌∙◌, true, ◌&&◌, cond, List, [], ◌∷◌, map, ℕ, ◌+◌, min, ℕ_discrete, ne_eqb, eqb, length, drop}
use Rattle.moments.specs.Elapsed.{Clock, started, now_at, Step, moved, clock_after}
use Rattle.moments.specs.Moments.{in_order}
use Rattle.moments.proofs.ElapsedLaws.{true-time}
use Rattle.slot_sets.specs.Sets.{count}
use Rattle.site_plan.specs.declared.plan.Plan.{Plan}
use Rattle.book_members.specs.Members.{free}
use Rattle.book.specs.Books.{Contents, rows_at}
use Rattle.book_joins.specs.Responses.{told_in}
use Rattle.book_history.specs.Calls.{Call, join, ask, heard, leave, schedule, image, refusal_of, next, unit_of, time_of, changes}
use Rattle.book_history.specs.Laws.{full}
use Rattle.book_bytes.specs.BookBytes.{book_in, bytes_of_book}
use Rattle.book_bytes.specs.Trips.{Sized}
use Rattle.book_bytes.proofs.TripLaws.{reads_back}
use Rattle.book_history.specs.Histories.{Start, begun, Answer, answer, recorded, step_of, clock_of, Grant, grant, renewed_by, changed_by, granted_by, renewed, granted, granting, recent, counts, grant_since, recent_at, granted_at, last_address, sum_to, data_granted, units_granted}
use Rattle.book_history.specs.BookLaws.{book_after, slots_at}
use Rattle.book_history.proofs.BookHistoryLaws.{always_d, full_by_answers}
use Rattle.book_history.proofs.KnownLaws.{answers_tell}
use Rattle.book_history.proofs.UnitSums.{sum_same}
use Rattle.c_read_back.specs.FramesRead.{slots_read}
use Rattle.c_read_back.proofs.ResponseReadLaws.{told_as_read}
use Rattle.c_history.specs.HeldBooks.{StartInC, begins_in, MachineStart, start_of, InC, Machine, answer_in_c, recorded_in_c, AllMachine, calls_of, granted_in_c, recent_in_c}
use Rattle.c_history.specs.BookLaws.{AnswersTellInC, AlwaysDInC, FullByAnswersInC, TrueTimeInC}
use Rattle.c_history.proofs.BookSizes.{begun_sized, sized-next}
use Rattle.c_history.proofs.BookStored.{leaves-same, refused-same, answer-same, begun-same, right, book-same}

-- ---- one call
module _ (b : Contents) (z : Sized b) where
  -- where it is accepted, a grant read as the reader of frames reads it is the one that is cut out of its bytes
  read_as-told : (c : Call) → Machine c → refusal_of b c ≡ 0 → (now : ℕ) (g : Grant) → renewed_by slots_read c (answer b c) now g ≡ renewed c (answer b c) now g
  read_as-told (join frame time out) (f, t, o) q now g = ap (λ (told : List ℕ). grant told now) ((told_as_read b frame time out z.plan.0 t).0 q)
  read_as-told (ask frame time out) (f, t, o) q now g = ap (λ (told : List ℕ). grant told now) ((told_as_read b frame time out z.plan.0 t).1 q)
  read_as-told (heard unit time) m q now g = refl
  read_as-told (leave unit time) m q now g = refl
  read_as-told (schedule unit hop time out) m q now g = refl
  read_as-told (image time out) m q now g = refl

  changed_same : (unit : ℕ) (c : Call) (now : ℕ) (g : Grant) (filled : ℕ) → Machine c
      → changed_by slots_read unit c (answer_in_c (bytes_of_book b) c filled) now g ≡ changed_by told_in unit c (answer b c) now g
  changed_same unit c now g filled m = go (ℕ_discrete (refusal_of b c) 0)
    where
      go : Dec (refusal_of b c ≡ 0) → changed_by slots_read unit c (answer_in_c (bytes_of_book b) c filled) now g ≡ changed_by told_in unit c (answer b c) now g
      go (yes q) =
          ap (λ (a : Answer). changed_by slots_read unit c a now g) (answer-same b z c filled q)
          ∙ ap (λ (new : Grant). cond (eqb (refusal_of b c) 0 && eqb (unit_of c) unit) new g) (read_as-told c m q now g)
      go (no q) = rw (refused-same b z c filled, ne_eqb (refusal_of b c) 0 q)

  -- what elapses is seen by its status
  step_same : (c : Call) (filled : ℕ) → step_of (record { call = c; answer = answer_in_c (bytes_of_book b) c filled }) ≡ step_of (record { call = c; answer = answer b c })
  step_same c filled = ap (λ (n : ℕ). record { time = time_of c; changes = eqb n 0 && changes c }) (refused-same b z c filled)

-- ---- calls one after the other
steps-same : (b : Contents) (cs : List InC) → AllMachine cs → Sized b → map step_of (recorded_in_c (bytes_of_book b) cs) ≡ map step_of (recorded b (calls_of cs))
steps-same b [] m z = refl
steps-same b (c ∷ cs) m z =
    ap₂ (λ (step : Step) (s : List ℕ). step ∷ map step_of (recorded_in_c s cs)) (step_same b z c.call c.filled) (leaves-same b z c.call c.filled)
    ∙ ap (λ (steps : List Step). step_of (record { call = c.call; answer = answer b c.call }) ∷ steps)
    (steps-same (next b c.call) cs m.1 (sized-next b c.call m.0 z))

granted-same : (b : Contents) (cs : List InC) → AllMachine cs → Sized b → (unit : ℕ) (k : Clock) (g : Grant)
    → granted_by slots_read unit k g (recorded_in_c (bytes_of_book b) cs) ≡ granted unit k g (recorded b (calls_of cs))
granted-same b [] m z unit k g = refl
granted-same b (c ∷ cs) m z unit k g =
    let step = step_same b z c.call c.filled in
    let changed = changed_same b z unit c.call (now_at k (time_of c.call)) g c.filled m.0 in
    let left = leaves-same b z c.call c.filled in
    (λ i. granted_by slots_read unit (moved k (step i)) (changed i) (recorded_in_c (left i) cs))
    ∙ granted-same (next b c.call) cs m.1 (sized-next b c.call m.0 z) unit _ _

-- ---- from a start on
module _ (s : List ℕ) (start : StartInC) (cs : List InC) (m : MachineStart start) (n : AllMachine cs) (e : (begins_in s start).status ≡ 0) where
  abbrev began : List ℕ
  began = (begins_in s start).book

  abbrev from : Start
  from = start_of start

  -- what is made of a unit's grant and of the elapsed ms is the same of both records
  grants-same : {A : Type 0} (made : Plan → ℕ → Grant → A) (unit time : ℕ)
      → (let b = book_in began in let hs = recorded_in_c began cs in made b.plan (now_at (clock_of b hs) time) (grant_since slots_read b hs unit))
      ≡ (let b = (begun from).book in let hs = recorded b (calls_of cs) in made b.plan (now_at (clock_of b hs) time) (grant_since told_in b hs unit))
  grants-same made unit time =
      let b = (begun from).book in
      let z = begun_sized start m in
      let steps = steps-same b cs n z in
      let grants = granted-same b cs n z unit (started b.time) (granting b unit) in
      ap (λ (x : List ℕ). let old = book_in x in let hs = recorded_in_c x cs in made old.plan (now_at (clock_of old hs) time) (grant_since slots_read old hs unit)) (begun-same s start e)
      ∙ (ap (λ (x : Contents). let hs = recorded_in_c (bytes_of_book b) cs in made x.plan (now_at (clock_of x hs) time) (grant_since slots_read x hs unit)) (reads_back b z).0
      ∙ (λ i. made b.plan (now_at (clock_after (started b.time) (steps i)) time) (grants i)))

  granted_as : (unit time : ℕ) → granted_in_c began cs unit time ≡ granted_at from (calls_of cs) unit time
  granted_as unit time = grants-same (λ p now g. counts p unit now g) unit time

  pub recent_as : (unit time : ℕ) → recent_in_c began cs unit time ≡ recent_at from (calls_of cs) unit time
  recent_as unit time = grants-same (λ p now g. recent p unit now g) unit time

  -- so are sums over all units
  sums_as : (value : List ℕ → ℕ) (time : ℕ)
      → sum_to (λ unit. value (granted_in_c began cs unit time)) last_address ≡ sum_to (λ unit. value (granted_at from (calls_of cs) unit time)) last_address
  sums_as value time = sum_same _ _ last_address (λ unit l m. ap value (granted_as unit time))

pub answers_tell_in_c : AnswersTellInC
answers_tell_in_c s start cs m n e unit time a =
    subst (λ (x : Contents). in_order x.time time ≡ true → slots_at x unit time ≡ granted_in_c (begins_in s start).book cs unit time) (sym (book-same s start cs m n e))
    (λ o. answers_tell (start_of start) (calls_of cs) unit time (right s start cs m n e) a o ∙ sym (granted_as s start cs m n e unit time))

pub always_d_in_c : AlwaysDInC
always_d_in_c s start cs m n e time =
    subst
    (λ (x : Contents).
    in_order x.time time ≡ true → count (free x.plan.data_slots (rows_at x time)) + data_granted (λ unit. granted_in_c (begins_in s start).book cs unit time) ≡ x.plan.data_slots)
    (sym (book-same s start cs m n e))
    (λ o.
    let b = book_after (start_of start) (calls_of cs) in
    ap (λ (k : ℕ). count (free b.plan.data_slots (rows_at b time)) + k) (sums_as s start cs m n e (λ slots. length (drop 1 slots)) time)
    ∙ always_d (start_of start) (calls_of cs) time (right s start cs m n e) o)

pub full_by_answers_in_c : FullByAnswersInC
full_by_answers_in_c s start cs m n e time =
    subst
    (λ (x : Contents). in_order x.time time ≡ true → full x time ≡ eqb (units_granted (λ unit. granted_in_c (begins_in s start).book cs unit time)) x.plan.rows)
    (sym (book-same s start cs m n e))
    (λ o.
    full_by_answers (start_of start) (calls_of cs) time (right s start cs m n e) o
    ∙ ap (λ (k : ℕ). eqb k (book_after (start_of start) (calls_of cs)).plan.rows) (sym (sums_as s start cs m n e (λ slots. min 1 (length slots)) time)))

-- ---- true time
pub true_time_in_c : TrueTimeInC
true_time_in_c s cs began nows = true-time began (book_in s).time (map step_of (recorded_in_c s cs)) nows
