-- Trees whose unbound equals operators are dropped, node by node.
use Rattle.std.specs.Prelude.{IfErr, MatchResult, map}
use Rattle.std.proofs.Common.{◌≡◌, ◌∙◌, ℕ, Result, Ok, Err, List, [], ◌∷◌, refl, ap, sym}
use Rattle.dep_group.specs.Trees.{tree, trees_of}
use Rattle.dep_tree.specs.declared.tree.Node.{Node}
use Rattle.dep_tree.specs.Faults.{IsMemory}
use Rattle.dep_tree.specs.declared.fault.TreeTextFault.{TreeTextFault}
use Rattle.dep_tree.specs.View.{trees_view, view}
use Rattle.dep_tree.proofs.CopyLemmas.{trees_view-map}
use Rattle.vdb_law.specs.Fields.{all_bound, tree_bound}
use Rattle.vdb_values.specs.Values.{IsFirstFault}

bound_view : (ns : List Node) → all_bound (trees_view ns) ≡ trees_of (map (λ n. tree_bound (view n)) ns)
bound_view [] = refl
bound_view (n ∷ ns) = ap (tree (tree_bound (view n))) (bound_view ns)

-- nodes that are bound one by one are bound together
pub all_bound_if : (ms ns : List Node) → map view ms ≡ map (λ n. tree_bound (view n)) ns → trees_view ms ≡ all_bound (trees_view ns)
all_bound_if ms ns h = trees_view-map ms ∙ ap trees_of h ∙ sym (bound_view ns)

-- want of memory is no fault of the text
pub none_but_memory : {A : Type 0} (P : A → Type 0) (text : List ℕ) (r : Result A TreeTextFault) → MatchResult r P IsMemory → IfErr r (IsFirstFault text)
none_but_memory P text (Ok x) h = tt
none_but_memory P text (Err e) h = λ none. absurd (none h)
