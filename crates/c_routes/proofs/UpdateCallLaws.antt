-- The calls on routing updates, from what the core answers.
-- Assumes nothing.
use Rattle.octets.proofs.Words.{◌≡◌, refl, sym, ap, ◌∙◌, Bool, true, false, List, [], ℕ, ◌≤◌, arith, ne_eqb, length}
use Rattle.octets.specs.Answers.{refused}
use Rattle.octets.specs.Calls.{write_left}
use Rattle.std.specs.Prelude.{Result, Ok, Err}
use Rattle.octets.specs.declared.refusals.Refusal.{Refusal}
use Rattle.octets.specs.Refusals.{number_of}
use Rattle.octets.specs.Told.{Wrote, wrote}
use Rattle.octets.proofs.RefusalLaws.{refusal_some}
use Rattle.route_table.specs.declared.table.Table.{Table}
use Rattle.route_merges.specs.declared.learning.Tally.{Tally}
use Rattle.route_merges.specs.StoredMerges.{MergeLeft, merge_left, merged_in, merge_call}
use Rattle.route_pages.specs.Pages.{page_frame, page_refusal, page_of, page_in}
use Rattle.route_pages.proofs.PageLaws.{page_short}
use Rattle.route_bytes.specs.TableBytes.{table_in, is_table}
use Rattle.c_routes.specs.UpdateCalls.{page_call}
use Rattle.octets.proofs.AnsweredLaws.{Answered, valued, said_value, answered, told-done, told_undone}

-- ---- merging: the call on the bytes says no number where it is refused
module _ (s frame : List ℕ) (quality time skipped compared : ℕ) (last : List ℕ) where
  abbrev call : MergeLeft
  call = merge_call s frame quality time skipped compared

  same-status : (merge_call s frame quality time 0 0).status ≡ call.status
  unfolding merge_call
  same-status = refl

  same-table : (merge_call s frame quality time 0 0).table ≡ call.table
  unfolding merge_call
  same-table = refl

  pub unmerged : (r : Refusal) → merged_in (Err r) last ≡ merge_call s frame quality time 0 0 → merge_left (number_of r) last skipped compared ≡ call
  unfolding merge_call
  unmerged r e =
      let n : number_of r ≡ call.status = ap (λ (x : MergeLeft). x.status) e ∙ same-status in
      rw (ap (λ (x : MergeLeft). x.table) e, ← n, ne_eqb (number_of r) 0 (refusal_some r))

  pub merged : (t : Tally) → merged_in (Ok t) last ≡ merge_call s frame quality time 0 0 → merge_left 0 last t.skipped t.compared ≡ call
  unfolding merge_call
  merged t e =
      let n : 0 ≡ call.status = ap (λ (x : MergeLeft). x.status) e ∙ same-status in
      rw (ap (λ (x : MergeLeft). x.table) e, ap (λ (x : MergeLeft). x.skipped) e, ap (λ (x : MergeLeft). x.compared) e, ← n)

-- ---- a page
page_answered : (t : Table) (page time : ℕ) (out : List ℕ) → Answered out (page_of t page time out)
unfolding page_of
page_answered t page time out = answered (page_refusal t page time (length out)) _ out _ refl (valued (length (page_frame t page time)) [])

module _ (s : List ℕ) (page time : ℕ) (out : List ℕ) (written : ℕ) (w : Result ℕ Refusal) (held : List ℕ) (e : wrote w held ≡ page_in s page time out) where
  -- the bytes are a table, and it writes so; or they are none
  told : is_table s ≡ true → (x : Result ℕ Refusal) → w ≡ x → wrote x held ≡ page_of (table_in s) page time out
  unfolding page_in
  told y x q = ap (λ (x : Result ℕ Refusal). wrote x held) (sym q) ∙ (rw y at e)

  untold : is_table s ≡ false → (x : Result ℕ Refusal) → w ≡ x → wrote x held ≡ record { said = refused 14; held = out }
  unfolding page_in
  untold y x q = ap (λ (x : Result ℕ Refusal). wrote x held) (sym q) ∙ (rw y at e)

  -- a page that was written is of a table
  done-told : (size : ℕ) → w ≡ Ok size → is_table s ≡ true
  done-told size q = go (is_table s) refl
    where
      go : (b : Bool) → is_table s ≡ b → is_table s ≡ true
      go true y = y
      go false y =
          let n : ◌≡◌ {A = ℕ} 0 14 = ap (λ (x : Wrote). x.said.refusal) (untold y (Ok size) q) in
          absurd (omega arith)

  pub page-size : (size : ℕ) → w ≡ Ok size → size ≤ 249
  unfolding page_of
  page-size size q =
      let same = said_value (page_refusal (table_in s) page time (length out)) (length (page_frame (table_in s) page time)) size (ap (λ (x : Wrote). x.said) (told (done-told size q) (Ok size) q)) in
      omega (arith, same, page_short (table_in s) page time)

  pub page-done : (size : ℕ) → w ≡ Ok size → write_left 0 held size ≡ page_call s page time out written
  unfolding page_call
  page-done size q =
      let y = done-told size q in
      told-done out written (page_of (table_in s) page time out) (is_table s) y size held (told y (Ok size) q)

  pub page_undone : (r : Refusal) → w ≡ Err r → write_left (number_of r) held written ≡ page_call s page time out written
  unfolding page_call
  page_undone r q = go (is_table s) refl
    where
      go : (b : Bool) → is_table s ≡ b → write_left (number_of r) held written ≡ page_call s page time out written
      go true y = told_undone out written (page_of (table_in s) page time out) (is_table s) y (number_of r) held (page_answered (table_in s) page time out) (told y (Err r) q)
      go false y =
          let none = untold y (Err r) q in
          rw (y, ap (λ (x : Wrote). x.said.refusal) none, ap (λ (x : Wrote). x.held) none)
