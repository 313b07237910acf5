-- Which leaves are to blame where a tree of dependencies doesn't hold.
use Rattle.std.specs.Prelude.{◌++◌, Bool, List, [], ◌∷◌, None, Some, if◌then◌else◌}
use Rattle.pms_names.specs.Flags.{has}
use Rattle.dep_atom.specs.Values.{AtomValue}
use Rattle.dep_atom.specs.declared.package.Facts.{Facts}
use Rattle.dep_group.specs.Trees.{Tree, Trees, group, holds, is_member, leaf, no_trees, tree}
use Rattle.dep_group.specs.declared.token.Opener.{Opener}
use Rattle.dep_group.specs.declared.token.Opener.TheVariants.{AnyOf, AtMostOne, ExactlyOne, When}
use Rattle.dep_tree.specs.Truth.{is_fact, kind}
use Rattle.pkg_state.specs.Package.{Package, tree_of}
use Rattle.pkg_state.specs.declared.class.Class.{Class}

-- by what a group wants of its members: all of them, or some
abbrev pub by_opener : {F : Type 0} {A : Type 0} → Opener F → A → A → A
by_opener AnyOf all some = some
by_opener ExactlyOne all some = some
by_opener AtMostOne all some = some
by_opener (When flag on) all some = all

-- of a group that wants all its members the first one that doesn't hold is to blame, of one that
-- wants some of them each member; `fact` says which leaves hold
abbrev mutual
  pub blamed :
      {F K L : Type 0} → Bool → (K → Opener F) → (L → Bool) → (F → Bool) → Tree K L → List L
  blamed empty kind fact has (leaf a) = a ∷ []
  blamed empty kind fact has (group None ts) = first_blamed empty kind fact has ts
  blamed empty kind fact has (group (Some opener) ts) =
      by_opener (kind opener) (first_blamed empty kind fact has ts)
      (each_blamed empty kind fact has ts)

  pub first_blamed :
      {F K L : Type 0} → Bool → (K → Opener F) → (L → Bool) → (F → Bool) → Trees K L → List L
  first_blamed empty kind fact has no_trees = []
  first_blamed empty kind fact has (tree t ts) =
      if holds empty kind fact has t then first_blamed empty kind fact has ts
      else blamed empty kind fact has t

  pub each_blamed :
      {F K L : Type 0} → Bool → (K → Opener F) → (L → Bool) → (F → Bool) → Trees K L → List L
  each_blamed empty kind fact has no_trees = []
  each_blamed empty kind fact has (tree t ts) =
      (if is_member kind has t then blamed empty kind fact has t else [])
      ++ each_blamed empty kind fact has ts

-- the leaves to blame where what the package needs in this class isn't there, among packages with
-- these facts
abbrev pub blamed_in : List Facts → Class → Package → List AtomValue
blamed_in facts class p =
    first_blamed (tree_of class p).empty_holds kind (is_fact facts p.facts.enabled)
    (has p.facts.enabled) (tree_of class p).groups
