-- Trees with their openers and leaves replaced by others.
use Rattle.std.specs.Prelude.{List, map, Option, Some, None, Result, Ok, Err}
use Rattle.dep_group.specs.declared.token.Token.{Token}
use Rattle.dep_group.specs.declared.token.Token.TheVariants.{Leaf, Begins, Opens, Closes, Glued, Unknown}
use Rattle.dep_group.specs.declared.token.GroupFault.{GroupFault}
use Rattle.dep_group.specs.Trees.{Tree, Trees, leaf, group, no_trees, tree}
use Rattle.dep_group.specs.Reading.{Opened}

abbrev pub opener_map : {J K : Type 0} → (J → K) → Option J → Option K
opener_map f None = None
opener_map f (Some opener) = Some (f opener)

abbrev mutual
  pub tree_map : {J K L M : Type 0} → (J → K) → (L → M) → Tree J L → Tree K M
  tree_map f g (leaf a) = leaf (g a)
  tree_map f g (group opener ts) = group (opener_map f opener) (trees_map f g ts)

  pub trees_map : {J K L M : Type 0} → (J → K) → (L → M) → Trees J L → Trees K M
  trees_map f g no_trees = no_trees
  trees_map f g (tree t ts) = tree (tree_map f g t) (trees_map f g ts)

abbrev pub token_map : {J K L M : Type 0} → (J → K) → (L → M) → Token J L → Token K M
token_map f g (Leaf a) = Leaf (g a)
token_map f g (Begins opener) = Begins (f opener)
token_map f g Opens = Opens
token_map f g Closes = Closes
token_map f g Glued = Glued
token_map f g Unknown = Unknown

abbrev pub opened_map : {J K L M : Type 0} → (J → K) → (L → M) → Opened J L → Opened K M
opened_map f g o =
    record { opener = opener_map f o.opener; at = o.at; before = map (tree_map f g) o.before }

abbrev pub answer_map : {J K L M : Type 0} → (J → K) → (L → M) →
    Result (List (Tree J L)) GroupFault → Result (List (Tree K M)) GroupFault
answer_map f g (Ok ts) = Ok (map (tree_map f g) ts)
answer_map f g (Err e) = Err e
