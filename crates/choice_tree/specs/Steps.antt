-- Steps from a choice to its options.
use Rattle.std.specs.Prelude.{ℕ, ◌∷◌, Option, None, Some}
use Rattle.choice_law.specs.Tree.{Choice}
use Rattle.choice_law.specs.Universe.{Value}
use Rattle.choice_tree.specs.Views.{value_of}
use Rattle.choice_tree.specs.declared.step.Step.{Step}
use Rattle.choice_tree.specs.declared.value.Decision.{Decision}

abbrev pub decision_as : Decision → ℕ × Value
decision_as d = (d.line, value_of d.value)

-- the choice with the decision by which a line is held
abbrev pub held_on : Option Decision → Choice → Choice
held_on None c = c
held_on (Some d) c = decision_as d ∷ c

-- the option to which a step leads
abbrev pub after : Choice → Step → Choice
after c s = decision_as s.decision ∷ held_on s.held c
