-- The trees that dependencies are, over what their atoms say.
use Rattle.std.specs.Prelude.{ℕ, List, map, Some, None}
use Rattle.dep_atom.specs.Values.{AtomValue, atom_value}
use Rattle.dep_group.specs.declared.token.Opener.{Opener}
use Rattle.dep_group.specs.declared.token.Opener.TheVariants as openers
use Rattle.dep_group.specs.Trees.{Tree, leaf, group, trees_of}
use Rattle.dep_tree.specs.Texts.{AtomTrees, Dependencies}
use Rattle.dep_tree.specs.declared.parse.DepOpener.{DepOpener}
use Rattle.dep_tree.specs.declared.parse.DepOpener.TheVariants as begins
use Rattle.dep_tree.specs.declared.tree.DepTree.{DepTree}
use Rattle.dep_tree.specs.declared.tree.Node.{Node}
use Rattle.dep_tree.specs.declared.tree.Node.TheOpen.{Node-F}
use Rattle.dep_tree.specs.declared.tree.Node.TheFolds.{fold-Node}

-- what an opener opens
abbrev pub kind_of : DepOpener → Opener (List ℕ)
kind_of begins.AnyOf = openers.AnyOf
kind_of (begins.When flag on) = openers.When flag on

abbrev pub view_step : Node-F (Tree (Opener (List ℕ)) AtomValue) → Tree (Opener (List ℕ)) AtomValue
view_step (Node-F.Leaf atom) = leaf (atom_value atom)
view_step (Node-F.All nodes) = group None (trees_of nodes.items)
view_step (Node-F.AnyOf nodes) = group (Some openers.AnyOf) (trees_of nodes.items)
view_step (Node-F.When flag on nodes) =
    group (Some (openers.When flag on)) (trees_of nodes.items)

-- the tree that a node is
abbrev pub view : Node → Tree (Opener (List ℕ)) AtomValue
view = fold-Node (Tree (Opener (List ℕ)) AtomValue) view_step

abbrev pub trees_view : List Node → AtomTrees
trees_view nodes = trees_of (map view nodes)

-- the dependencies that the nodes are
abbrev pub trees : DepTree → Dependencies
trees t = record { groups = trees_view t.nodes.items; empty_holds = t.empty_holds }
