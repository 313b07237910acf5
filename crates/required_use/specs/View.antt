-- The trees that expressions are.
use Rattle.std.specs.Prelude.{ℕ, List, map, Some, None}
use Rattle.dep_group.specs.declared.token.Opener.{Opener}
use Rattle.dep_group.specs.declared.token.Opener.TheVariants as openers
use Rattle.dep_group.specs.Trees.{Tree, leaf, group, trees_of}
use Rattle.required_use.specs.Texts.{Expressions, ItemTrees}
use Rattle.required_use.specs.declared.required.Item.{Item}
use Rattle.required_use.specs.declared.required.RequiredUse.{RequiredUse}
use Rattle.required_use.specs.declared.required.Required.{Required}
use Rattle.required_use.specs.declared.required.Required.TheOpen.{Required-F}
use Rattle.required_use.specs.declared.required.Required.TheFolds.{fold-Required}

abbrev pub view_step : Required-F (Tree (Opener (List ℕ)) Item) → Tree (Opener (List ℕ)) Item
view_step (Required-F.Item flag on) = leaf (record { flag = flag; on = on })
view_step (Required-F.All nodes) = group None (trees_of nodes.items)
view_step (Required-F.AnyOf nodes) = group (Some openers.AnyOf) (trees_of nodes.items)
view_step (Required-F.ExactlyOne nodes) = group (Some openers.ExactlyOne) (trees_of nodes.items)
view_step (Required-F.AtMostOne nodes) = group (Some openers.AtMostOne) (trees_of nodes.items)
view_step (Required-F.When flag on nodes) =
    group (Some (openers.When flag on)) (trees_of nodes.items)

-- the tree that an expression is
abbrev pub view : Required → Tree (Opener (List ℕ)) Item
view = fold-Required (Tree (Opener (List ℕ)) Item) view_step

abbrev pub trees_view : List Required → ItemTrees
trees_view nodes = trees_of (map view nodes)

-- the expressions that the nodes are
abbrev pub trees : RequiredUse → Expressions
trees r = record { groups = trees_view r.nodes.items; empty_holds = r.empty_holds }
