use Rattle.std.proofs.Common.{◌∙◌, ◌++◌, ◌∷◌, List, ap, map}
use Rattle.choice_law.specs.Tree.{Choice}
use Rattle.choice_tree.specs.Open.{obligation_of}
use Rattle.choice_tree.specs.Options.{decisions, second_part}
use Rattle.choice_tree.specs.Places.{Place}
use Rattle.choice_tree.specs.Steps.{after}
use Rattle.choice_tree.specs.Views.{decisions_of, universe_of}
use Rattle.choice_tree.specs.declared.step.Step.{Step}
use Rattle.choice_walk.proofs.branching.steps_of.Goals as goal

pub returns : goal.returns
returns c e there holds =
    let u = c.args.universe.now in
    let o = obligation_of c.args.obligation.now in
    c.in_ok-push_second.ensures e there holds
    ∙ ap (λ (xs : List Choice). xs ++ second_part u.update (universe_of u) e o)
    (c.in_ok-push_steps.ensures e
    ∙ (ap (λ (xs : List Step). map (after e) xs ++ map (λ d. d ∷ e) (decisions_of c.deref.result.now)) c.new-out.ensures.items
    ∙ ap (λ ds. map (λ d. d ∷ e) ds) (ap decisions_of c.deref.ensures.value ∙ (c.in_ok-first.ensures ∙ ap (λ (ss : List Place). decisions u.update ss o) there))))
