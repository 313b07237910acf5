-- What a package needs of those that are there: which of its leaves count, and which line serves
-- each of them.
use Rattle.std.specs.Prelude.{◌≡◌, ◌≤◌, ◌&&◌, ◌++◌, ℕ, Bool, true, false, List, [], ◌∷◌, Option, None, Some, if◌then◌else◌}
use Rattle.std.specs.Ordering.{is_eq, is_gt}
use Rattle.basics.specs.Members.{Has}
use Rattle.pms_names.specs.Flags.{has}
use Rattle.pms_version.specs.Order.{version_cmp}
use Rattle.dep_atom.specs.declared.package.Facts.{Facts}
use Rattle.dep_atom.specs.Match.{value_matches}
use Rattle.dep_atom.specs.Values.{AtomValue}
use Rattle.dep_group.specs.Trees.{Tree, counts_as_member, group, holds, is_any_of, is_member, leaf, no_trees, tree}
use Rattle.dep_group.specs.declared.token.Opener.{Opener}
use Rattle.dep_tree.specs.Grammar.{is_block}
use Rattle.dep_tree.specs.Texts.{AtomTrees}
use Rattle.dep_tree.specs.Truth.{is_fact, kind}
use Rattle.pkg_state.specs.Consistent.{facts_of}
use Rattle.pkg_state.specs.Package.{Package, tree_of}
use Rattle.pkg_state.specs.declared.class.Class.{Class}
use Rattle.choice_law.specs.Tree.{Choice, filling}
use Rattle.choice_law.specs.Universe.{Stands, Universe, packages}

-- The leaves that a tree needs, where `fact` says which leaves hold and `on` which flags are on: a
-- leaf itself, unless it is a block; of an any-of group those of its first member that holds, and
-- of any other group those of all its trees, if its condition is met. `empty` says whether an
-- any-of group without members holds.
abbrev mutual
  pub needed :
      Bool → (AtomValue → Bool) → (List ℕ → Bool) → Tree (Opener (List ℕ)) AtomValue →
      List AtomValue
  needed empty fact on (leaf a) = if is_block a then [] else a ∷ []
  needed empty fact on (group None ts) = needed_of_all empty fact on ts
  needed empty fact on (group (Some opener) ts) =
      if is_any_of opener then needed_of_first empty fact on ts
      else if counts_as_member on opener then needed_of_all empty fact on ts else []

  pub needed_of_all :
      Bool → (AtomValue → Bool) → (List ℕ → Bool) → AtomTrees → List AtomValue
  needed_of_all empty fact on no_trees = []
  needed_of_all empty fact on (tree t ts) =
      needed empty fact on t ++ needed_of_all empty fact on ts

  pub needed_of_first :
      Bool → (AtomValue → Bool) → (List ℕ → Bool) → AtomTrees → List AtomValue
  needed_of_first empty fact on no_trees = []
  needed_of_first empty fact on (tree t ts) =
      if is_member kind on t && holds empty kind fact on t then needed empty fact on t
      else needed_of_first empty fact on ts

-- the leaves that the package needs in this class, among packages with these facts
abbrev pub needed_leaves : List Facts → Class → Package → List AtomValue
needed_leaves facts class p =
    needed_of_all (tree_of class p).empty_holds (is_fact facts p.facts.enabled)
    (has p.facts.enabled) (tree_of class p).groups

-- the line has the greatest version that the leaf matches, for an asker with these flags; of equal
-- versions it has the one on the smallest line
pub record HasGreatest (u : Universe) (c : Choice) (asker : List (List ℕ)) (a : AtomValue)
    (l : ℕ) : Type 0 where
  pub package_is : Package
  pub stands : Stands u (filling u c) l package_is
  pub matched : value_matches a package_is.facts asker ≡ true
  pub greatest : (m : ℕ) (q : Package) → Stands u (filling u c) m q →
      value_matches a q.facts asker ≡ true →
      is_gt (version_cmp q.facts.id.version package_is.facts.id.version) ≡ false
  pub smallest : (m : ℕ) (q : Package) → Stands u (filling u c) m q →
      value_matches a q.facts asker ≡ true →
      is_eq (version_cmp q.facts.id.version package_is.facts.id.version) ≡ true → l ≤ m

-- what stands under the choice on the line is what the package needs it for in this class: a leaf
-- that it needs has its greatest version there
pub record NeedsLine (u : Universe) (c : Choice) (class : Class) (p : Package)
    (l : ℕ) : Type 0 where
  pub atom_is : AtomValue
  pub needed : Has (needed_leaves (facts_of (packages u (filling u c))) class p) atom_is
  pub served : HasGreatest u c p.facts.enabled atom_is l
