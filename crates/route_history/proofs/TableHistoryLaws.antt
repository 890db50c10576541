-- The theorems on tables: freshness, the rule, gone rows.
-- Assumes nothing.
use Rattle.octets.proofs.Words.{◌≡◌, sym, ap, subst, ◌∙◌, true, false, false≢true, List, [], ◌∷◌, ℕ, not-false, length}
use Rattle.octets.specs.Answers.{first}
use Rattle.octets.proofs.AnswerLaws.{unless-number, none-holds}
use Rattle.moments.specs.Elapsed.{Clock, now_at}
use Rattle.route_table.specs.declared.table.Table.{Table}
use Rattle.route_table.specs.Tables.{within_rule, lookup_of}
use Rattle.route_table.proofs.DroppedLaws.{dropped-lookup, dropped-forget, dropped_forgets}
use Rattle.route_table.proofs.KeepLaws.{fresh-within, forget-within}
use Rattle.route_table.proofs.LookupLaws.{lookup-told, led}
use Rattle.route_merges.proofs.KeepLaws.{merge-within, dropped-merge, dropped-merges}
use Rattle.route_pages.specs.Pages.{page_frame, page_of, page_reasons}
use Rattle.route_relays.specs.Relays.{data_in, Relaying}
use Rattle.route_pages.proofs.AlikeLaws.{page_alike}
use Rattle.route_relays.proofs.AlikeLaws.{relay_alike}
use Rattle.route_relays.proofs.RelayLaws.{unrefused, onward, onto, relay-number, relay-ours}
use Rattle.route_forwards.proofs.AlikeLaws.{forward-refused, forward-written, forward-held, forward-table}
use Rattle.route_forwards.proofs.ForwardLaws.{forward-within}
use Rattle.route_history.specs.TableCalls.{Call, merge, forget, forward, lookup, relay, page, Answer, answer, next}
use Rattle.route_history.specs.TableLaws.{Times, Heard, AnswersHeard, FromFresh, Freshness, Accounts, FreshnessFrom, KeepsRule, StaysWithinRule, GoneRowsDoNotMatter}
use Rattle.route_history.proofs.FreshLaws.{heard}
use Rattle.route_history.proofs.StepLaws.{good-after, good-fresh}

-- ---- freshness
answers_heard : (t : Table) (k : Clock) (times : Times) → Accounts t k times → AnswersHeard t k times
answers_heard t k times a time = (
  by-lookup,
  λ s least out z o.
      let n = sym (relay-number t s time least out) ∙ z in
      let other = sym (relay-ours t s time least out z) ∙ o in
      subst (λ (w : Relaying). Heard (times w.answer.next_hop) (now_at k time) w.answer.left) (onto t s time least out n other)
      (by-lookup (data_in s).destination (onward t s time least (length out) n other).found),
)
  where
    by-lookup : (d : ℕ) → (lookup_of t d time).refused ≡ 0 → Heard (times (lookup_of t d time).next_hop) (now_at k time) (lookup_of t d time).left
    by-lookup d z = rw (lookup-told t d time z) (heard t k times a d time z)

accounts_after : FromFresh Accounts
accounts_after own began cs z = (good-fresh own began cs z).accounts

pub freshness : Freshness
freshness own began cs z = answers_heard _ _ _ (accounts_after own began cs z)

pub freshness_from : FreshnessFrom
freshness_from = (accounts_after, λ t k earlier cs w a. answers_heard _ _ _ (good-after t k earlier cs (record { rule = w; accounts = a })).accounts)

pub stays_within_rule : StaysWithinRule
stays_within_rule own began cs z = (good-fresh own began cs z).rule

-- ---- the rule
paged : (t : Table) (p time : ℕ) (out : List ℕ) → (page_of t p time out).said.refusal ≡ 0 → within_rule t ≡ true
unfolding page_of
paged t p time out e =
    let reasons = page_reasons t p time (length out) in
    let z : first reasons ≡ 0 = sym (unless-number (first reasons) (length (page_frame t p time) ∷ [])) ∙ e in
    not-false (within_rule t) (none-holds reasons _ z).0

pub keeps_rule : KeepsRule
keeps_rule = (fresh-within, every_call)
  where
    every_call : (t : Table) (c : Call) → (answer t c).refused ≡ 0 → within_rule (next t c) ≡ true
    every_call t (merge s quality time) e = merge-within t s quality time e
    every_call t (forget unit time) e = forget-within t unit time e
    every_call t (forward network manager s delay time out) e = forward-within t network manager s delay time out e
    every_call t (lookup d time) e = (led t d time e).within
    every_call t (relay s time least out) e = (unrefused t s time least (length out) (sym (relay-number t s time least out) ∙ e)).0
    every_call t (page p time out) e = paged t p time out e

-- ---- gone rows
-- the answer to a call that is not about a next hop
abbrev plain : ℕ → ℕ → ℕ → ℕ → List ℕ → Answer
plain refused skipped compared size held = record { refused = refused; ours = false; next_hop = 0; hops = 0; left = 0; skipped = skipped; compared = compared; size = size; held = held }

pub gone_rows_do_not_matter : GoneRowsDoNotMatter
gone_rows_do_not_matter t (merge s quality time) e =
    let (refusal, skipped, compared) = dropped-merge t s quality time e in
    (λ i. plain (refusal i) (skipped i) (compared i) 0 [], λ z c. dropped-merges t s quality time e z)
gone_rows_do_not_matter t (forget unit time) e = (ap (λ (n : ℕ). plain n 0 0 0 []) (dropped-forget time t e unit), λ z c. dropped_forgets time t e unit z)
gone_rows_do_not_matter t (forward network manager s delay time out) e =
    let refusal = forward-refused time t e network manager s delay out in
    let written = forward-written time t e network manager s delay out in
    let held = forward-held time t e network manager s delay out in
    (λ i. plain (refusal i) 0 0 (written i) (held i), λ z c. forward-table time t e network manager s delay out z)
gone_rows_do_not_matter t (lookup d time) e = (rw (dropped-lookup time t e d), λ z c. absurd (false≢true c))
gone_rows_do_not_matter t (relay s time least out) e = (rw (relay_alike time t e s least out), λ z c. absurd (false≢true c))
gone_rows_do_not_matter t (page p time out) e = (rw (page_alike time t e p out), λ z c. absurd (false≢true c))
