-- What good leaves have to do with solutions.
use Rattle.std.specs.Prelude.{◌≡◌, ◌<◌, ℕ, List, Option, None, Some, ⊤}
use Rattle.dep_atom.specs.Values.{AtomValue}
use Rattle.dep_group.specs.Trees.{Tree, Trees, group, leaf, no_trees, tree}
use Rattle.dep_group.specs.declared.token.Opener.{Opener}
use Rattle.dep_group.specs.declared.token.Opener.TheVariants.{AnyOf, AtMostOne, ExactlyOne, When}
use Rattle.pkg_state.specs.Package.{Package, tree_of}
use Rattle.pkg_state.specs.declared.class.Class.{Class}
use Rattle.choice_law.specs.Universe.{Filling, IsValue, Universe, Value, lines, offer_at, package_of}
use Rattle.choice_law.specs.Solutions.{IsSolution}
use Rattle.choice_law.specs.Tree.{Choice, IsGoodLeaf, IsPick, Obligation, decided, filling}

-- no group of the dependencies counts its members, as each EAPI has it (PMS 8.2.3)
abbrev mutual
  pub CountsNothing : Tree (Opener (List ℕ)) AtomValue → Type 0
  CountsNothing (leaf a) = ⊤
  CountsNothing (group None ts) = CountNothing ts
  CountsNothing (group (Some AnyOf) ts) = CountNothing ts
  CountsNothing (group (Some ExactlyOne) ts) = ⊥
  CountsNothing (group (Some AtMostOne) ts) = ⊥
  CountsNothing (group (Some (When flag on)) ts) = CountNothing ts

  pub CountNothing : Trees (Opener (List ℕ)) AtomValue → Type 0
  CountNothing no_trees = ⊤
  CountNothing (tree t ts) = CountsNothing t × CountNothing ts

-- the dependencies of all that may stand on a line are in form
abbrev pub IsUniverse : Universe → Type 0
IsUniverse u =
    (l : ℕ) (v : Value) (p : Package) (class : Class) → package_of (offer_at u l) v ≡ Some p →
    CountNothing (tree_of class p).groups

-- the filling has what the choice decides
abbrev pub Allows : Choice → Filling → Type 0
Allows c f = (l : ℕ) (v : Value) → decided c l ≡ Some v → f l ≡ v

-- each decision is a value of its line
abbrev pub DecidesValues : Universe → Choice → Type 0
DecidesValues u c =
    (l : ℕ) (v : Value) → l < lines u → decided c l ≡ Some v → IsValue (offer_at u l) v

-- a good leaf is a solution, with the lines that aren't decided as they are
abbrev pub GoodLeavesAreSolutions : Type 0
GoodLeavesAreSolutions =
    (u : Universe) (pick : Choice → Option Obligation) (c : Choice) → IsPick u pick →
    IsGoodLeaf u pick c → IsSolution u (filling u c)

-- for each solution there is a good leaf, all of whose decisions the solution has
abbrev pub SolutionsHaveLeaves : Type 0
SolutionsHaveLeaves =
    (u : Universe) (pick : Choice → Option Obligation) (f : Filling) → IsUniverse u →
    IsPick u pick → IsSolution u f → (c : Choice) × IsGoodLeaf u pick c × Allows c f
