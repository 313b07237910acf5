use Rattle.std.proofs.Common.{◌≡◌, ◌++◌, ◌∷◌, drop, map}
use Rattle.choice_law.specs.Tree.{Choice}
use Rattle.choice_tree.specs.Steps.{after, held_on}
use Rattle.choice_tree.specs.Views.{decisions_of}
use Rattle.choice_walk.proofs.branching.push_steps.Given as goal

abbrev pub invariant-loop-decision : goal.invariant-loop-decision
invariant-loop-decision l =
    (c : Choice) → map (after c) l.out.items ++ map (λ d. d ∷ held_on l.held c) (decisions_of (drop l.decision-index l.decisions)) ≡ map (after c) l.fn.out.items ++ map (λ d. d ∷ held_on l.held c) (decisions_of l.decisions)
