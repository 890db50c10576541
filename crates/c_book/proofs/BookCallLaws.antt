-- The calls on a stored book, from what the core answers.
-- Assumes nothing.
use Rattle.octets.proofs.Words.{◌≡◌, refl, sym, ap, ◌∙◌, List, [], ℕ, ◌^◌, ◌<◌, ◌≤◌, arith, eq-eqb, ne_eqb, not-false, eqb, length}
use Rattle.octets.specs.Answers.{first}
use Rattle.octets.specs.Calls.{write_left}
use Rattle.std.proofs.Common.{Result, Ok, Err, IfOk, MatchResult}
use Rattle.octets.specs.declared.refusals.Refusal.{Refusal}
use Rattle.octets.specs.Refusals.{number_of, status_of}
use Rattle.octets.proofs.RefusalLaws.{refusal_some}
use Rattle.octets.proofs.StoreLaws.{sets-whole}
use Rattle.book.specs.declared.book.Book.{Book}
use Rattle.octets.specs.Told.{Wrote, wrote}
use Rattle.octets.proofs.AnswerLaws.{none-holds, unless-number}
use Rattle.octets.proofs.AnsweredLaws.{Answered, valued, said_value, answered, told-done, told_undone}
use Rattle.site_plan.specs.Plans.{slots}
use Rattle.book.specs.Books.{Contents, contents, within_rule, changed}
use Rattle.book.specs.Schedules.{schedule_refusal, schedule_of}
use Rattle.site_plan.proofs.PlanLaws.{rule_bounds, few-slots}
use Rattle.book.proofs.WithinLaws.{within}
use Rattle.book_image.specs.Forms.{form_size}
use Rattle.book_image.specs.Images.{sections, image_reasons, image_written}
use Rattle.book_bytes.specs.BookBytes.{book_size, bytes_of_book, book_over}
use Rattle.c_book.specs.BookCalls.{book_left, leaves, wrote_to}

-- ---- calls that change a book
-- the facts are what `write_back` ensures
pub kept : (b : Contents) (s last : List ℕ) (status : ℕ) (next : Result Book Refusal) → length s ≡ book_size → status ≡ status_of next → last ≡ book_over s next
    → ((b : Contents) → status_of next ≡ 0 → length (bytes_of_book (changed b next).book) ≡ book_size) → book_left status last ≡ leaves s (changed b next)
kept b s last status (Ok new) l e w n =
    rw (eq-eqb (length s) book_size l, e, w, sets-whole s (bytes_of_book (contents new)) (n b refl ∙ sym l))
kept b s last status (Err r) l e w n = rw (eq-eqb (length s) book_size l, e, w, ne_eqb (number_of r) 0 (refusal_some r))

-- ---- calls that fill a buffer
pub schedule_answered : (b : Contents) (unit hop time : ℕ) (out : List ℕ) → Answered out (schedule_of b unit hop time out)
unfolding schedule_of
schedule_answered b unit hop time out =
    answered (schedule_refusal b unit hop time (length out)) _ out _ refl (valued (slots b.plan) [])

pub image_answered : (b : Contents) (time : ℕ) (out : List ℕ) → Answered out (image_written b time out)
unfolding image_written
image_answered b time out = answered (first (image_reasons b time (length out))) _ out _ refl (valued (form_size (sections b.plan.rows)) [])

pub schedule-size : (b : Contents) (unit hop time : ℕ) (out : List ℕ) (size : ℕ) (held : List ℕ) → wrote (Ok size) held ≡ schedule_of b unit hop time out → size ≤ 100
unfolding schedule_of
schedule-size b unit hop time out size held e =
    let same = said_value (schedule_refusal b unit hop time (length out)) (slots b.plan) size (ap (λ (x : Wrote). x.said) e) in
    omega (arith, same, few-slots b.plan)

pub image-size : (b : Contents) (time : ℕ) (out : List ℕ) (size : ℕ) (held : List ℕ) → wrote (Ok size) held ≡ image_written b time out → size ≤ 230
unfolding image_written
image-size b time out size held e =
    let reasons = image_reasons b time (length out) in
    let same = said_value (first reasons) (form_size (sections b.plan.rows)) size (ap (λ (x : Wrote). x.said) e) in
    let none =
    none-holds reasons _
    (sym (unless-number (first reasons) _) ∙ sym (ap (λ (x : Wrote). x.said.refusal) e)) in
    omega (arith, same, (rule_bounds b.plan (within b (not-false (within_rule b) none.0)).plan).few-rows)

-- no more bytes are written than a number of C holds
pub few-kinds : (b : Contents) (unit hop time : ℕ) (out held : List ℕ) (w : Result ℕ Refusal) → wrote w held ≡ schedule_of b unit hop time out → IfOk w (λ n. n < 2 ^ 32)
few-kinds b unit hop time out held (Ok size) e = omega (arith, schedule-size b unit hop time out size held e)
few-kinds b unit hop time out held (Err r) e = tt

pub few-bytes : (b : Contents) (time : ℕ) (out held : List ℕ) (w : Result ℕ Refusal) → wrote w held ≡ image_written b time out → IfOk w (λ n. n < 2 ^ 32)
few-bytes b time out held (Ok size) e = omega (arith, image-size b time out size held e)
few-bytes b time out held (Err r) e = tt

-- the last two facts are what `status` and `tell` ensure
pub told : (s out : List ℕ) (written : ℕ) (answer : Wrote) → Answered out answer → length s ≡ book_size → (w : Result ℕ Refusal) (held : List ℕ) → wrote w held ≡ answer
    → (status said : ℕ) → status ≡ status_of w → MatchResult w (λ n. said ≡ n) (λ r. said ≡ written) → write_left status held said ≡ wrote_to s out written answer
told s out written answer h l (Ok size) held e status said q n =
    rw (q, n) (told-done out written answer (eqb (length s) book_size) (eq-eqb (length s) book_size l) size held e)
told s out written answer h l (Err r) held e status said q n =
    rw (q, n) (told_undone out written answer (eqb (length s) book_size) (eq-eqb (length s) book_size l) (number_of r) held h e)
