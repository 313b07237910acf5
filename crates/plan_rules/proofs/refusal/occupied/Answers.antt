use Rattle.std.proofs.Common.{◌≡◌, ◌∙◌, ap}
use Rattle.pkg_state.specs.Package.{Package}
use Rattle.plan_rules.specs.declared.refusal.PlanRefused.TheVariants.{Occupied}
use Rattle.plan_rules.proofs.refusal.occupied.Goals as goal

pub returns : goal.returns
returns c =
    let e : c.in_ok-package.package ≡ c.args.pkg.now.facts.id = c.in_ok-package.ensures ∙ ap (λ (q : Package). q.facts.id) c.pkg.view_is in
    let f : c.in_ok-other.other ≡ c.args.other.now.facts.id = c.in_ok-other.ensures ∙ ap (λ (q : Package). q.facts.id) c.other.view_is in
    λ i. Occupied c.args.group (e i) (f i)
