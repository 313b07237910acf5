-- What is in the way of an addition is what its group doesn't take away.
use Rattle.std.proofs.Common.{◌≡◌, ◌<◌, ◌≤◌, ◌∙◌, ℕ, true, false, List, inl, inr, sym, ap, subst, arith}
use Rattle.std.proofs.lemmas.Bool.{cases_Bool}
use Rattle.pkg_state.specs.Package.{Package, line_of}
use Rattle.plan_law.specs.Plans.{Group, clears, group_at}
use Rattle.plan_law.specs.Lives.{ComesBefore, IsCleared, IsLife, Life, Moment, commit, first_after, never, opening}
use Rattle.plan_rules.specs.Rules.{Crowds, IsInTheWay}

module _ (plan : List Group) (start : List Package) (g : ℕ) where
  begins : (b : Moment) → ComesBefore b g → first_after b ≤ g
  begins opening c = omega arith
  begins (commit h) c = omega (arith, c)
  begins never c = absurd c

  dies_here : (line : List ℕ) (from : ℕ) (d : Moment) → IsCleared plan from line d → from ≤ g → ¬ ComesBefore d g → clears (group_at plan g) line ≡ true → d ≡ commit g
  dies_here line from opening c le alive e = absurd c
  dies_here line from (commit k) c le alive e = ap commit (let first = c.2 g le e in let same : k ≡ g = at_most k first alive in same) where
    at_most : (k : ℕ) → k ≤ g → ¬ (k < g) → k ≡ g
    at_most k le far = omega (arith, le, far)
  dies_here line from never c le alive e = absurd (c g le e)

  cleared_there : (line : List ℕ) (from : ℕ) (d : Moment) → IsCleared plan from line d → d ≡ commit g → clears (group_at plan g) line ≡ true
  cleared_there line from d c e = (subst (λ (m : Moment). IsCleared plan from line m) e c).1

  pub crowds : (p : Package) (y : Life) → IsLife plan start y → line_of y.package_is.facts ≡ line_of p.facts → IsInTheWay g y → Crowds (group_at plan g) g p y
  crowds p y is twin way = record {
    stands = way.stands;
    twin = twin;
    stays = elim (cases_Bool (clears (group_at plan g) (line_of p.facts))) [
      | inl on ↦ absurd (way.stays (dies_here (line_of y.package_is.facts) (first_after y.birth) y.death is.leaves (begins y.birth way.stands.born) way.stands.alive
          (ap (λ (l : List ℕ). clears (group_at plan g) l) twin ∙ on)))
      | inr off ↦ off
    ];
  }

  pub in_the_way : (p : Package) (y : Life) → IsLife plan start y → Crowds (group_at plan g) g p y → IsInTheWay g y
  in_the_way p y is c = record {
    stands = c.stands;
    stays = λ e. let on = cleared_there (line_of y.package_is.facts) (first_after y.birth) y.death is.leaves e in
        let here : clears (group_at plan g) (line_of p.facts) ≡ true = ap (λ (l : List ℕ). clears (group_at plan g) l) (sym c.twin) ∙ on in
        let t : true ≡ false = sym here ∙ c.stays in cc t;
  }
