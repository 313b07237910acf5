use denote.Ref.{Bor}
use Rattle.std.proofs.Common.{◌≡◌, ◌∙◌, [], Option, Some, ap, sym}
use Rattle.std.specs.Option.{option_map, option_map_or}
use Rattle.choice_law.specs.Reasons.{reason}
use Rattle.choice_law.specs.Tree.{Choice, Obligation}
use Rattle.choice_tree.specs.Open.{first_open, obligation_of}
use Rattle.choice_tree.specs.Views.{universe_of}
use Rattle.choice_tree.specs.declared.universe.Universe.{Universe}
use Rattle.choice_walk.specs.Way.{here}
use Rattle.choice_walk.proofs.walk.Walk.reason.Goals as goal

pub returns-clause-found : goal.returns-clause-found
returns-clause-found c =
    let u = c.args.self.now.universe in
    let d = here c.args.self.now.trail.items in
    let o = c.in-Some.obligation in
    let walk = c.first_open.new.self in
    let first : Some (obligation_of o) ≡ first_open (universe_of u.now) d = ap (option_map obligation_of) (sym c.in-Some.is) ∙ c.in_ok-obligation.ensures.found in
    let same_way : c.in_ok-marked.marked.choice ≡ d = c.in_ok-marked.ensures ∙ (c.in_ok-choice.ensures ∙ ap (λ v. here v.items) c.first_open.ensures.stays) in
    c.in_ok-lines.ensures
    ∙ (ap (λ (e : Choice). reason (universe_of walk.universe.now) e (obligation_of o)) same_way
    ∙ (ap (λ (v : Bor Universe). reason (universe_of v.now) d (obligation_of o)) c.first_open.ensures.same
    ∙ ap (λ (x : Option Obligation). option_map_or (reason (universe_of u.now) d) x []) first))
