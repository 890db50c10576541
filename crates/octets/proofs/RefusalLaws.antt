-- What is said of an answer tells answers apart: the number of a refusal names it, and is never 0.
-- Assumes nothing.
use Rattle.std.specs.Prelude.{Result, Ok, Err}
use Rattle.octets.proofs.Words.{◌≡◌, refl, sym, ap, ◌∙◌, cond, eqb, List, ℕ}
use Rattle.octets.specs.Answers.{OneToOne}
use Rattle.octets.specs.Refusals.{number_of, status_of, told_by, held_after}
use Rattle.octets.specs.declared.refusals.Refusal.{Refusal}
use Rattle.octets.specs.declared.refusals.Refusal.TheVariants.{Length, WrongType, Checksum, Field, Room, Own, Event, Earlier, Quality, Ttl, NoRoute, Full, NoMember, Rule, Network, NotOurs}

-- the refusal with a number
abbrev pub named : ℕ → Refusal
named n =
    cond (eqb n 1) Length (
    cond (eqb n 2) WrongType (
    cond (eqb n 3) Checksum (
    cond (eqb n 4) Field (
    cond (eqb n 5) Room (
    cond (eqb n 6) Own (
    cond (eqb n 7) Event (
    cond (eqb n 8) Earlier (
    cond (eqb n 9) Quality (
    cond (eqb n 10) Ttl (
    cond (eqb n 11) NoRoute (
    cond (eqb n 12) Full (
    cond (eqb n 13) NoMember (
    cond (eqb n 14) Rule (
    cond (eqb n 15) Network (NotOurs)))))))))))))))

-- the answer with a status that gives this where it is accepted
abbrev pub answer_with : {A : Type 0} → ℕ → A → Result A Refusal
answer_with status a = cond (eqb status 0) (Ok a) (Err (named status))

pub refusal_back : {A : Type 0} (r : Refusal) (a : A) → answer_with (number_of r) a ≡ Err r
refusal_back Length a = refl
refusal_back WrongType a = refl
refusal_back Checksum a = refl
refusal_back Field a = refl
refusal_back Room a = refl
refusal_back Own a = refl
refusal_back Event a = refl
refusal_back Earlier a = refl
refusal_back Quality a = refl
refusal_back Ttl a = refl
refusal_back NoRoute a = refl
refusal_back Full a = refl
refusal_back NoMember a = refl
refusal_back Rule a = refl
refusal_back Network a = refl
refusal_back NotOurs a = refl

-- an answer is told by its status and by what then stands
pub answer_back : {A : Type 0} (old : A) (answer : Result A Refusal) → answer_with (status_of answer) (held_after old answer) ≡ answer
answer_back old (Ok a) = refl
answer_back old (Err r) = refusal_back r old

-- one that gives nothing, by its status
pub status_back : (answer : Result Unit Refusal) → answer_with (status_of answer) tt ≡ answer
status_back (Ok tt) = refl
status_back (Err r) = refusal_back r tt

-- and a refusal by its number
abbrev pub refusal_in : Result Unit Refusal → Refusal
refusal_in (Ok tt) = NotOurs
refusal_in (Err r) = r

pub number_back : (r : Refusal) → refusal_in (answer_with (number_of r) tt) ≡ r
number_back r = ap refusal_in (refusal_back r tt)

-- what an answer says tells it, if the values that it gives tell them
pub told_back : {A : Type 0} (values : A → List ℕ) (back : List ℕ → A) → ((a : A) → back (values a) ≡ a)
    → (answer : Result A Refusal) → answer_with (told_by values answer).refusal (back (told_by values answer).values) ≡ answer
told_back values back returns (Ok a) = ap Ok (returns a)
told_back values back returns (Err r) = refusal_back r _

pub told_one : {A : Type 0} (values : A → List ℕ) (back : List ℕ → A) → ((a : A) → back (values a) ≡ a) → OneToOne (told_by values)
told_one values back returns a b e =
    sym (told_back values back returns a) ∙ (ap (λ said. answer_with said.refusal (back said.values)) e ∙ told_back values back returns b)

-- no refusal has the number 0
pub refusal_some : (r : Refusal) → number_of r ≡ 0 → ⊥
refusal_some r z =
    let e : Ok tt ≡ Err r = sym (ap (λ (n : ℕ). answer_with n tt) z) ∙ status_back (Err r) in
    cc
