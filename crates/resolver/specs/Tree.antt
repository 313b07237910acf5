-- The tree of choices: what it is to a search, and its leaves.
use Rattle.std.specs.Prelude.{Bool, List, [], is_some}
use Rattle.choice_law.specs.Universe.{Universe}
use Rattle.choice_law.specs.Tree.{Choice, decided}
use Rattle.choice_tree.specs.Tree.{free_lines, tree_options, tree_reason, tried_options}
use Rattle.choice_search.specs.Leaves.{Leaf, leaves}
use Rattle.choice_search.specs.Shape.{Shape}

-- the options that are tried of each choice, and the decided lines on which it rests that something
-- is open
abbrev pub tree_shape : Bool → Universe → Shape Choice
tree_shape update u =
    record {
      options = tried_options update u;
      room = free_lines u;
      reason = tree_reason u;
      knows = λ c l. is_some (decided c l);
    }

-- all leaves, in the order in which they would be tried
abbrev pub tree_leaves : Bool → Universe → List (Leaf Choice)
tree_leaves update u = leaves (tree_options update u) (free_lines u) []

-- the same of the tree that ends at hopeless choices: these are leaves there that aren't good
abbrev pub tried_leaves : Bool → Universe → List (Leaf Choice)
tried_leaves update u = leaves (tried_options update u) (free_lines u) []
