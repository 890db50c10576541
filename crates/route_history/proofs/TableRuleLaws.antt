-- Along a history from a fresh table, 14 is only for a page that is not there.
-- Assumes nothing.
use Rattle.octets.proofs.Words.{◌≡◌, sym, ap, ◌∙◌, true, not, List, ℕ, length}
use Rattle.octets.proofs.AnswerLaws.{never_given, unless-number}
use Rattle.frame_traffic.specs.Traffic.{data_kind, update}
use Rattle.frame_beacons.proofs.EitherLaws.{either_never}
use Rattle.route_table.specs.declared.table.Table.{Table}
use Rattle.route_table.specs.Rows.{standing}
use Rattle.route_table.specs.Tables.{rows_of, within_rule, fresh_of, lookup_refusal, lookup_of, forget_of, forget_reasons, lookup_reasons}
use Rattle.route_merges.specs.Merges.{merge_refusal, merge_of, merge_reasons}
use Rattle.route_forwards.specs.Forwards.{forward_refusal, forward_of, forward_reasons}
use Rattle.route_pages.specs.Pages.{page_there, page_refusal, page_of, page_reasons}
use Rattle.route_relays.specs.Relays.{relay_refusal, relay_reasons}
use Rattle.route_relays.proofs.RelayLaws.{relay-number}
use Rattle.route_history.specs.TableCalls.{Call, merge, forget, forward, lookup, relay, page, answer, after_calls}
use Rattle.route_history.specs.TableLaws.{wrong_page, OnlyForPages}
use Rattle.frame_kinds.proofs.FourteenLaws.{some_number, read_never, only_so}
use Rattle.route_history.proofs.TableHistoryLaws.{stays_within_rule}

module _ (t : Table) (w : within_rule t ≡ true) where
  merge_never : (s : List ℕ) (quality time : ℕ) → merge_refusal t s quality time ≡ 14 → ⊥
  unfolding merge_refusal
  merge_never s quality time =
      never_given 14 (merge_reasons t s quality time) some_number (ap not w, (read_never update s, _))

  forget_never : (unit time : ℕ) → (forget_of t unit time).refused ≡ 14 → ⊥
  unfolding forget_of
  forget_never unit time =
      never_given 14 (forget_reasons t unit time) some_number (ap not w, _)

  forward_never : (network manager : ℕ) (s : List ℕ) (delay time room : ℕ) → forward_refusal t network manager s delay time room ≡ 14 → ⊥
  unfolding forward_refusal
  forward_never network manager s delay time room =
      never_given 14 (forward_reasons t network manager s delay time room) some_number (ap not w, (either_never s, _))

  lookup_never : (d time : ℕ) → lookup_refusal t d time ≡ 14 → ⊥
  lookup_never d time =
      never_given 14 (lookup_reasons t d time) some_number (ap not w, _)

  relay_never : (s : List ℕ) (time least room : ℕ) → relay_refusal t s time least room ≡ 14 → ⊥
  unfolding relay_refusal
  relay_never s time least room =
      never_given 14 (relay_reasons t s time least room) some_number (ap not w, (read_never data_kind s, _))

  page_never : (p time room : ℕ) → page_there (standing time (rows_of t)) p ≡ true → page_refusal t p time room ≡ 14 → ⊥
  page_never p time room there =
      never_given 14 (page_reasons t p time room) some_number (ap not w, (_, (ap not there, _)))

  only_pages : (c : Call) → (answer t c).refused ≡ 14 → wrong_page t c ≡ true
  unfolding merge_of forward_of lookup_of page_of
  only_pages (merge s quality time) e = absurd (merge_never s quality time e)
  only_pages (forget unit time) e = absurd (forget_never unit time e)
  only_pages (forward network manager s delay time out) e = absurd (forward_never network manager s delay time (length out) e)
  only_pages (lookup d time) e = absurd (lookup_never d time e)
  only_pages (relay s time least out) e = absurd (relay_never s time least (length out) (sym (relay-number t s time least out) ∙ e))
  only_pages (page p time out) e = only_so (page_there (standing time (rows_of t)) p) (λ there. page_never p time (length out) there (sym (unless-number _ _) ∙ e))

pub only_for_pages : OnlyForPages
only_for_pages own began cs c z = only_pages (after_calls (fresh_of own began).table cs) (stays_within_rule own began cs z) c
