-- The tree of choices, by the options of each for what is first open of it.
use Rattle.std.specs.Prelude.{◌≡◌, ◌<◌, ◌+◌, ℕ, zero, suc, Bool, List, [], Option, None, Some, if◌then◌else◌}
use Rattle.std.specs.Option.{option_map, option_map_or}
use Rattle.basics.specs.Members.{Has}
use Rattle.choice_law.specs.Universe.{Universe, Value, lines}
use Rattle.choice_law.specs.Tree.{Choice, Obligation, decided}
use Rattle.choice_law.specs.Possible.{is_hopeless}
use Rattle.choice_law.specs.Reasons.{reason}
use Rattle.choice_tree.specs.Open.{first_open}
use Rattle.choice_tree.specs.Options.{options}

-- the options of a choice, where something is open of it
abbrev pub tree_options : Bool → Universe → Choice → Option (List Choice)
tree_options update u c = option_map (options update u c) (first_open u c)

-- the options that are tried for what is open: all, or none where the choice is hopeless
abbrev pub tried_for : Bool → Universe → Choice → Obligation → List Choice
tried_for update u c o = if is_hopeless u c o then [] else options update u c o

-- .. of a choice, where something is open of it
abbrev pub tried_options : Bool → Universe → Choice → Option (List Choice)
tried_options update u c = option_map (tried_for update u c) (first_open u c)

-- the decided lines on which it rests that something is open of a choice
abbrev pub tree_reason : Universe → Choice → List ℕ
tree_reason u c = option_map_or (reason u c) (first_open u c) []

abbrev pub one_if_free : Option Value → ℕ
one_if_free None = 1
one_if_free (Some v) = 0

-- how many of the first lines aren't decided
abbrev pub free_before : Choice → ℕ → ℕ
free_before c zero = 0
free_before c (suc n) = free_before c n + one_if_free (decided c n)

abbrev pub free_lines : Universe → Choice → ℕ
free_lines u c = free_before c (lines u)

-- each option decides a line more, so no way through the tree is longer than there are lines
abbrev pub OptionsDecideMore : Type 0
OptionsDecideMore =
    (update : Bool) (u : Universe) (c d : Choice) (ds : List Choice) →
    tree_options update u c ≡ Some ds → Has ds d → free_lines u d < free_lines u c
