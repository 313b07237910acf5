use denote.Ref.{Bor}
use Rattle.std.proofs.Common.{◌≡◌, ◌∙◌, List, Some, ap, map, subst, sym}
use Rattle.std.specs.Option.{option_map}
use Rattle.choice_law.specs.Tree.{Choice}
use Rattle.choice_tree.specs.Open.{first_open, obligation_of}
use Rattle.choice_tree.specs.Steps.{after}
use Rattle.choice_tree.specs.Tree.{tried_for}
use Rattle.choice_tree.specs.Views.{universe_of}
use Rattle.choice_tree.specs.declared.universe.Universe.{Universe}
use Rattle.choice_walk.specs.Way.{here}
use Rattle.choice_walk.proofs.walk.Walk.next_steps.Goals as goal

pub returns-in_ok-steps-in-Some-clause-found : goal.returns-in_ok-steps-in-Some-clause-found
returns-in_ok-steps-in-Some-clause-found c =
    let u = c.args.self.now.universe in
    let d = here c.args.self.now.trail.items in
    let o = c.in-Some.obligation in
    let walk = c.first_open.new.self in
    let steps = c.in_ok-steps-in-Some.steps.items in
    let first : Some (obligation_of o) ≡ first_open (universe_of u.now) d = ap (option_map obligation_of) (sym c.in-Some.is) ∙ c.in_ok-obligation.ensures.found in
    let same_way : here walk.trail.items ≡ d = ap (λ v. here v.items) c.first_open.ensures.stays in
    let at_way = subst (λ (e : Choice). map (after e) steps ≡ tried_for walk.universe.now.update (universe_of walk.universe.now) e (obligation_of o)) same_way c.in_ok-steps-in-Some.ensures in
    let over = subst (λ (v : Bor Universe). map (after d) steps ≡ tried_for v.now.update (universe_of v.now) d (obligation_of o)) c.first_open.ensures.same at_way in
    ap (λ (xs : List Choice). Some xs) over ∙ ap (option_map (tried_for u.now.update (universe_of u.now) d)) first
