-- What copies of nodes say.
use Rattle.std.specs.Prelude.{map}
use Rattle.std.proofs.Common.{◌≡◌, ◌∙◌, List, [], ◌∷◌, refl, ap, sym}
use Rattle.dep_group.specs.Trees.{tree, trees_of}
use Rattle.dep_tree.specs.declared.tree.Node.{Node}
use Rattle.dep_tree.specs.View.{trees_view, view}

pub trees_view-map : (ns : List Node) → trees_view ns ≡ trees_of (map view ns)
trees_view-map [] = refl
trees_view-map (n ∷ ns) = ap (tree (view n)) (trees_view-map ns)

-- nodes that are seen alike one by one are seen alike together
pub alike : (ms ns : List Node) → map view ms ≡ map view ns → trees_view ms ≡ trees_view ns
alike ms ns h = trees_view-map ms ∙ ap trees_of h ∙ sym (trees_view-map ns)
