-- Ranks are ordered: the ways in which one ranks above another, and what follows of three.
-- Assumes nothing.
use Rattle.octets.proofs.Words.{◌≡◌, refl, sym, ap, ◌∙◌, Bool, true, false, not, ◌&&◌, ◌||◌, and-eq-true_iff, false≢true, ℕ, ◌<◌, arith, eq-eqb, eqb-true, eqb-false, ltb-true, ltb-false, lt-ltb, eqb, ltb}
use Rattle.octets.proofs.TestLaws.{or_elim, or_left, or_right, by_bool}
use Rattle.unit_choice.specs.Outcomes.{Rank}
use Rattle.unit_choice.specs.Choices.{ours, ranks_above}
use Rattle.unit_choice.specs.Laws.{NeverAboveItself, AboveGoesOn, EqualGoesOn}

-- the ways in which one ranks above another
module _ (a b : Rank) where
  abbrev nearer : Bool
  nearer = ltb a.hop b.hop

  abbrev clearer : Bool
  clearer = eqb a.hop b.hop && ltb b.quality a.quality

  above_cases : (R : Type 0) → ranks_above a b ≡ true → (ours b ≡ false → R) → (a.hop < b.hop → R) → (a.hop ≡ b.hop → b.quality < a.quality → R) → R
  above_cases R e foreign hop quality =
      let (accepted, better) = (and-eq-true_iff (ours a) (not (ours b) || nearer || clearer)).0 e in
      or_elim R (not (ours b) || nearer) clearer better
      (λ x. or_elim R (not (ours b)) nearer x (λ y. by_bool R (ours b) (λ z. absurd (false≢true (sym (ap not z) ∙ y))) foreign) (λ y. hop (ltb-true a.hop b.hop y)))
      (λ x. let (same, more) = (and-eq-true_iff (eqb a.hop b.hop) (ltb b.quality a.quality)).0 x in quality (eqb-true _ _ same) (ltb-true _ _ more))

  pub above_ours : ranks_above a b ≡ true → ours a ≡ true
  above_ours e = ((and-eq-true_iff (ours a) (not (ours b) || nearer || clearer)).0 e).0

  module _ (o : ours a ≡ true) where
    above_by : (not (ours b) || nearer || clearer) ≡ true → ranks_above a b ≡ true
    above_by e = rw o e

    pub above_foreign : ours b ≡ false → ranks_above a b ≡ true
    above_foreign f = above_by (rw f)

    above_nearer : a.hop < b.hop → ranks_above a b ≡ true
    above_nearer h = above_by (or_left (not (ours b) || nearer) clearer (or_right (not (ours b)) nearer (lt-ltb _ _ h)))

    above_clearer : a.hop ≡ b.hop → b.quality < a.quality → ranks_above a b ≡ true
    above_clearer h q = above_by (or_right (not (ours b) || nearer) clearer ((and-eq-true_iff (eqb a.hop b.hop) (ltb b.quality a.quality)).1 (eq-eqb _ _ h, lt-ltb _ _ q)))

pub never : (b : Bool) → (b ≡ true → ⊥) → b ≡ false
never true f = absurd (f refl)
never false f = refl

pub never_above_itself : NeverAboveItself
never_above_itself a = never (ranks_above a a) (λ e. above_cases a a ⊥ e (λ f. false≢true (sym f ∙ above_ours a a e)) (λ h. omega arith) (λ h q. omega arith))

pub above_goes_on : AboveGoesOn
above_goes_on a b c e f =
    let o = above_ours a b e in
    let p = above_ours b c f in
    above_cases b c (ranks_above a c ≡ true) f
    (λ x. above_foreign a c o x)
    (λ h. above_cases a b (ranks_above a c ≡ true) e (λ x. absurd (false≢true (sym x ∙ p))) (λ g. above_nearer a c o (omega arith)) (λ g q. above_nearer a c o (omega arith)))
    (λ h q. above_cases a b (ranks_above a c ≡ true) e (λ x. absurd (false≢true (sym x ∙ p))) (λ g. above_nearer a c o (omega arith)) (λ g r. above_clearer a c o (omega arith) (omega arith)))

pub never_both : (a b : Rank) → ranks_above a b ≡ true → ranks_above b a ≡ false
never_both a b e = never (ranks_above b a) (λ f. false≢true (sym (never_above_itself a) ∙ above_goes_on a b a e f))

-- two numbers compared
compared : (R : Type 0) (m n : ℕ) → (m < n → R) → (m ≡ n → R) → (n < m → R) → R
compared R m n less same more =
    by_bool R (ltb m n) (λ e. less (ltb-true m n e)) (λ e. by_bool R (eqb m n) (λ f. same (eqb-true m n f)) (λ f. let d = eqb-false m n f in let l = ltb-false m n e in more (omega arith)))

pub equal-goes_on : EqualGoesOn
equal-goes_on a b c e =
    let o = above_ours a c e in
    let left : ranks_above a b ≡ true → (ranks_above a b || ranks_above b c) ≡ true = λ x. or_left _ _ x in
    let right : ranks_above b c ≡ true → (ranks_above a b || ranks_above b c) ≡ true = λ x. or_right (ranks_above a b) _ x in
    by_bool _ (ours b)
    (λ p. above_cases a c _ e
    (λ f. right (above_foreign b c p f))
    (λ h. by_bool _ (ltb b.hop c.hop) (λ x. right (above_nearer b c p (ltb-true _ _ x))) (λ x. let l = ltb-false b.hop c.hop x in left (above_nearer a b o (omega arith))))
    (λ h q. compared _ a.hop b.hop
    (λ x. left (above_nearer a b o x))
    (λ x. by_bool _ (ltb b.quality a.quality) (λ y. left (above_clearer a b o x (ltb-true _ _ y))) (λ y. let l = ltb-false b.quality a.quality y in right (above_clearer b c p (omega arith) (omega arith))))
    (λ x. right (above_nearer b c p (omega arith)))))
    (λ p. left (above_foreign a b o p))
