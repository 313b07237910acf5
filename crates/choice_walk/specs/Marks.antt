-- What is decided of each line, side by side.
use Rattle.std.specs.Prelude.{◌≡◌, ◌<◌, ℕ, List, None, Option, get_or, length}
use Rattle.std.specs.Option.{option_map}
use Rattle.choice_law.specs.Tree.{Choice, decided}
use Rattle.choice_tree.specs.Views.{value_of}
use Rattle.choice_tree.specs.declared.value.Value.{Value}

-- these are the marks of so many lines: of each what the choice decides of it
pub record AreMarks (count : ℕ) (c : Choice) (marks : List (Option Value)) : Type 0 where
  pub all : length marks ≡ count
  pub each : (l : ℕ) → l < count → option_map value_of (get_or marks l None) ≡ decided c l
