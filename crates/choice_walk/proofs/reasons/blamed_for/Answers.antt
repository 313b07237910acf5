use Rattle.std.proofs.Common.{◌≡◌, ◌∙◌, List, [], Option, Some, ap, sym}
use Rattle.std.specs.Option.{option_map, option_map_or}
use Rattle.choice_law.specs.Blame.{blamed_in}
use Rattle.choice_law.specs.Possible.{judged_among}
use Rattle.choice_law.specs.Tree.{filling}
use Rattle.choice_law.specs.Universe.{offer_at, package_of}
use Rattle.choice_tree.specs.Open.{obligation_of}
use Rattle.choice_tree.specs.Places.{Place}
use Rattle.choice_tree.specs.Views.{universe_of}
use Rattle.choice_tree.specs.declared.obligation.Obligation.{Obligation as TheObligation}
use Rattle.pkg_state.specs.Consistent.{facts_of}
use Rattle.pkg_state.specs.Package.{Package}
use Rattle.choice_walk.specs.Blame.{blamed_for}
use Rattle.choice_walk.specs.Possible.{judged_in}
use Rattle.choice_walk.proofs.MayStand.{judged_are}
use Rattle.choice_walk.proofs.reasons.blamed_for.Goals as goal

pub returns : goal.returns
returns c =
    let u = universe_of c.args.universe.now in
    let d = c.args.choice.now.choice in
    let class = c.in-Tree.class in
    let owner = c.in-Some.owner.now in
    let there : Some owner ≡ package_of (offer_at u c.in-Tree.own) (filling u d c.in-Tree.own) = ap (option_map (λ p. p.now)) (sym c.in-Some.is) ∙ c.package_at.ensures in
    c.in_ok-leaves.ensures
    ∙ (ap (λ (ss : List Place). blamed_in (facts_of (judged_in ss class owner)) class owner) c.requires
    ∙ (ap (λ (ps : List Package). blamed_in (facts_of ps) class owner) (sym (judged_are u d class owner))
    ∙ (ap (λ (x : Option Package). option_map_or (λ p. blamed_in (facts_of (judged_among u d class p)) class p) x []) there
    ∙ ap (λ (o : TheObligation). blamed_for u d (obligation_of o)) (sym c.in-Tree.is))))
