-- The leaf that a refusal names, where `Fails` says which trees fail: in trees that should all
-- pass, of the first that fails; of an any-of group, of its first member.
use Rattle.std.specs.Prelude.{◌≡◌, ◌⊎◌, ℕ, Bool, true, false, List, Option, None, Some}
use Rattle.dep_atom.specs.Values.{AtomValue}
use Rattle.dep_group.specs.Trees.{Tree, Trees, group, is_member, leaf, no_trees, tree}
use Rattle.dep_group.specs.declared.token.Opener.{Opener}
use Rattle.dep_group.specs.declared.token.Opener.TheVariants.{AnyOf, AtMostOne, ExactlyOne, When}
use Rattle.dep_tree.specs.Truth.{kind}

abbrev mutual
  pub IsLeaf : (Tree (Opener (List ℕ)) AtomValue → Type 0) → (List ℕ → Bool) →
      Tree (Opener (List ℕ)) AtomValue → Option AtomValue → Type 0
  IsLeaf Fails on (leaf a) o = o ≡ Some a
  IsLeaf Fails on (group None ts) o = IsLeafOfAll Fails on ts o
  IsLeaf Fails on (group (Some AnyOf) ts) o = IsLeafOfAny Fails on ts o
  IsLeaf Fails on (group (Some ExactlyOne) ts) o = IsLeafOfAll Fails on ts o
  IsLeaf Fails on (group (Some AtMostOne) ts) o = IsLeafOfAll Fails on ts o
  IsLeaf Fails on (group (Some (When flag wanted)) ts) o = IsLeafOfAll Fails on ts o

  pub IsLeafOfAll : (Tree (Opener (List ℕ)) AtomValue → Type 0) → (List ℕ → Bool) →
      Trees (Opener (List ℕ)) AtomValue → Option AtomValue → Type 0
  IsLeafOfAll Fails on no_trees o = o ≡ None
  IsLeafOfAll Fails on (tree t ts) o =
      (Fails t × IsLeaf Fails on t o) ⊎ ((¬ Fails t) × IsLeafOfAll Fails on ts o)

  pub IsLeafOfAny : (Tree (Opener (List ℕ)) AtomValue → Type 0) → (List ℕ → Bool) →
      Trees (Opener (List ℕ)) AtomValue → Option AtomValue → Type 0
  IsLeafOfAny Fails on no_trees o = o ≡ None
  IsLeafOfAny Fails on (tree t ts) o =
      ((is_member kind on t ≡ true) × IsLeaf Fails on t o)
      ⊎ ((is_member kind on t ≡ false) × IsLeafOfAny Fails on ts o)
