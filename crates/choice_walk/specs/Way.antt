-- The way of a walk, and what holds a line in a conflict.
use Rattle.std.specs.Prelude.{◌≡◌, ◌<◌, ◌++◌, List, [], ◌∷◌, Option, None, Some, map, reverse, if◌then◌else◌, ⊤}
use Rattle.std.specs.Option.{option_map}
use Rattle.choice_law.specs.Tree.{Choice, Obligation, absence, conflict, decided, held, required, tree, wanted}
use Rattle.choice_law.specs.Universe.{Universe, lines}
use Rattle.choice_tree.specs.Steps.{decision_as, held_on}
use Rattle.choice_tree.specs.Views.{value_of}
use Rattle.choice_tree.specs.declared.value.Decision.{Decision}
use Rattle.choice_walk.specs.declared.turn.Turn.{Turn}

-- in a conflict this is what holds the first line
abbrev pub Holds : Universe → Choice → Obligation → Option Decision → Type 0
Holds u c (wanted a) d = ⊤
Holds u c (required l) d = ⊤
Holds u c (conflict l m) d = held_on d c ≡ held u c l
Holds u c (tree l class) d = ⊤
Holds u c (absence l) d = ⊤

-- the choice after these decisions, the newest first
abbrev pub choice_of : List Turn → Choice
choice_of ts = map (λ t. decision_as t.decision) ts

-- the choices from which a step began, the nearest first
abbrev pub begun_of : List Turn → List Choice
begun_of [] = []
begun_of (t ∷ ts) = if t.begins then choice_of ts ∷ begun_of ts else begun_of ts

-- the choice where a walk is, whose newest decision comes last
abbrev pub here : List Turn → Choice
here trail = choice_of (reverse trail)

-- those above it
abbrev pub above : List Turn → List Choice
above trail = begun_of (reverse trail)

-- each of them says what was decided of its line before
abbrev pub AreBefore : Universe → List Turn → Type 0
AreBefore u ts =
    (t : Turn) (newer older : List Turn) → ts ≡ newer ++ t ∷ older → t.decision.line < lines u →
    option_map value_of t.before ≡ decided (choice_of older) t.decision.line

-- the newest decision is taken back, if there is one
abbrev pub IsUndone : Option Turn → List Turn → List Turn → Type 0
IsUndone None old new = (old ≡ []) × (new ≡ [])
IsUndone (Some t) old new = old ≡ new ++ t ∷ []
