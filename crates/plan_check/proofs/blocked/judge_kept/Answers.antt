use Rattle.std.proofs.Common.{◌≡◌, ◌⊎◌, ◌∙◌, true, None, Some, ap, length, subst, sym}
use Rattle.std.specs.Option.{option_map}
use Rattle.basics.specs.Limits.{most_groups}
use Rattle.pkg_state.specs.Package.{Package}
use Rattle.plan_law.specs.Lives as law
use Rattle.plan_lives.specs.Index.{plan_of, start_of}
use Rattle.plan_lives.specs.Lives.{life_of, lives_of, moment_of}
use Rattle.plan_lives.specs.Stretches.{IsStretchWithin}
use Rattle.plan_lives.proofs.Steps.{within_more}
use Rattle.plan_lives.proofs.Within.{lives_within}
use Rattle.plan_check.specs.Kept.{IsKeptOutToo}
use Rattle.plan_check.specs.PackageRules.{IsBlocked}
use Rattle.plan_rules.specs.Order.{number_of}
use Rattle.plan_rules.specs.Refusals.{Refusal, Refusal as refused}
use Rattle.plan_rules.specs.Verdicts.{each, refuse}
use Rattle.plan_check.proofs.KeptOut.{strong_told}
use Rattle.plan_check.proofs.blocked.judge_kept.Goals as goal

pub first_kept-requires-clause-within : goal.first_kept-requires-clause-within
first_kept-requires-clause-within c = record {
  one = subst (λ (s : law.Stretch). IsStretchWithin (length (plan_of c.args.index.now)) s) (sym c.in_ok-keeping.ensures.stretch) (lives_within (plan_of c.args.index.now) (start_of c.args.index.now) (life_of c.args.x.now) c.requires.x);
  too = c.requires.others;
}

pub number_of-requires : goal.number_of-requires
number_of-requires c =
    let index = c.args.index.now in
    within_more (length (plan_of index)) most_groups c.requires.is.reach_is.form.few (moment_of c.args.x.now.birth) (lives_within (plan_of index) (start_of index) (life_of c.args.x.now) c.requires.x).0

pub returns-in-Some : goal.returns-in-Some
returns-in-Some c =
    let plan = plan_of c.args.index.now in
    let all = lives_of c.args.all.now in
    let x = life_of c.args.x.now in
    let others = option_map (λ k. k.now) c.args.other in
    let n : c.number_of.result ≡ number_of x.birth = c.number_of.ensures in
    let e : c.in_ok-package.package ≡ x.package_is.facts.id = c.in_ok-package.ensures ∙ ap (λ (q : Package). q.facts.id) c.pkg.view_is in
    let f : c.in_ok-other-2.other ≡ c.in-Some.other.now.facts.id = c.in_ok-other-2.ensures ∙ ap (λ (q : Package). q.facts.id) c.other.view_is in
    let found = rw c.in-Some.is at c.in_ok-other.ensures in
    subst (λ (r : Refusal). each all (λ y. refuse (IsBlocked plan true x y ⊎ IsKeptOutToo plan others y) (refused.Barred (number_of x.birth) x.package_is.facts.id y.package_is.facts.id)) (Some r))
    (λ i. refused.Barred (sym n i) (sym e i) (sym f i))
    (strong_told plan all x c.in_ok-keeping.keeping others c.in_ok-keeping.ensures (Some c.in-Some.other.now) found)

pub returns : goal.returns
returns c =
    let found = rw c.in_default.is at c.in_ok-other.ensures in
    strong_told (plan_of c.args.index.now) (lives_of c.args.all.now) (life_of c.args.x.now) c.in_ok-keeping.keeping (option_map (λ k. k.now) c.args.other) c.in_ok-keeping.ensures None found
