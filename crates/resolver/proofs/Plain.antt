-- No group of the dependencies that are read counts its members.
use Rattle.std.proofs.Common.{ℕ, List, [], ◌∷◌, map, subst, sym}
use Rattle.dep_atom.specs.Values.{AtomValue}
use Rattle.dep_group.specs.Trees.{Tree, trees_of}
use Rattle.dep_group.specs.declared.token.Opener.{Opener}
use Rattle.dep_tree.specs.View.{trees, trees_view, view, view_step}
use Rattle.dep_tree.specs.declared.tree.DepTree.{DepTree}
use Rattle.dep_tree.specs.declared.tree.Node.{Node, map-Node}
use Rattle.dep_tree.specs.declared.tree.Node.TheOpen.{Node-F}
use Rattle.dep_tree.specs.declared.tree.Node.TheFolds.{fold-roll-Node, ind-Node}
use Rattle.choice_law.specs.Laws.{CountNothing, CountsNothing}

abbrev IsPlainNode : Node → Type 0
IsPlainNode n = CountsNothing (view n)

all_plain : (es : List ((n : Node) × IsPlainNode n)) → CountNothing (trees_of (map view (map (λ e. e.0) es)))
all_plain [] = tt
all_plain (e ∷ es) = (e.1, all_plain es)

abbrev Seen : Type 0
Seen = Tree (Opener (List ℕ)) AtomValue

step_plain : (y : Node-F ((n : Node) × IsPlainNode n)) → CountsNothing (view_step (map-Node Node Seen view (map-Node ((n : Node) × IsPlainNode n) Node (λ e. e.0) y)))
step_plain (Node-F.Leaf atom) = tt
step_plain (Node-F.All nodes) = all_plain nodes.items
step_plain (Node-F.AnyOf nodes) = all_plain nodes.items
step_plain (Node-F.When flag on nodes) = all_plain nodes.items

pub node_plain : (n : Node) → IsPlainNode n
node_plain = ind-Node IsPlainNode (λ x y is.
    subst (λ (t : Seen). CountsNothing t) (sym (fold-roll-Node Seen view_step x))
    (subst (λ (z : Node-F Node). CountsNothing (view_step (map-Node Node Seen view z))) is (step_plain y)))

nodes_plain : (ns : List Node) → CountNothing (trees_view ns)
nodes_plain [] = tt
nodes_plain (n ∷ ns) = (node_plain n, nodes_plain ns)

pub tree_plain : (t : DepTree) → CountNothing (trees t).groups
tree_plain t = nodes_plain t.nodes.items
