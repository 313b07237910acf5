use Rattle.std.proofs.Common.{◌≡◌, ◌∙◌, None, Some, ap, length, subst, sym}
use Rattle.pkg_state.specs.Package.{Package}
use Rattle.plan_law.specs.Lives as law
use Rattle.plan_lives.specs.Index.{plan_of, start_of}
use Rattle.plan_lives.specs.Lives.{life_of, lives_of}
use Rattle.plan_lives.specs.Stretches.{IsStretchWithin}
use Rattle.plan_lives.proofs.Within.{lives_within}
use Rattle.plan_check.specs.PackageRules.{weak_rule}
use Rattle.plan_rules.specs.Refusals.{Refusal, Refusal as refused}
use Rattle.plan_check.proofs.KeptOut.{weak_told}
use Rattle.plan_check.proofs.blocked.judge_weak.Goals as goal

pub first_kept-requires-clause-within : goal.first_kept-requires-clause-within
first_kept-requires-clause-within c = record {
  one = subst (λ (s : law.Stretch). IsStretchWithin (length (plan_of c.args.index.now)) s) (sym c.in_ok-keeping.ensures.stretch) (lives_within (plan_of c.args.index.now) (start_of c.args.index.now) (life_of c.args.x.now) c.requires.x);
  too = tt;
}

pub returns-in-Some : goal.returns-in-Some
returns-in-Some c =
    let plan = plan_of c.args.index.now in
    let all = lives_of c.args.all.now in
    let x = life_of c.args.x.now in
    let e : c.in_ok-package.package ≡ x.package_is.facts.id = c.in_ok-package.ensures ∙ ap (λ (q : Package). q.facts.id) c.pkg.view_is in
    let f : c.in_ok-other-2.other ≡ c.in-Some.other.now.facts.id = c.in_ok-other-2.ensures ∙ ap (λ (q : Package). q.facts.id) c.other.view_is in
    let found = rw c.in-Some.is at c.in_ok-other.ensures in
    subst (λ (r : Refusal). weak_rule plan all x (Some r)) (λ i. refused.Blocked (sym e i) (sym f i))
    (weak_told plan all x c.in_ok-keeping.keeping c.in_ok-keeping.ensures (Some c.in-Some.other.now) found)

pub returns : goal.returns
returns c =
    let found = rw c.in_default.is at c.in_ok-other.ensures in
    weak_told (plan_of c.args.index.now) (lives_of c.args.all.now) (life_of c.args.x.now) c.in_ok-keeping.keeping c.in_ok-keeping.ensures None found
