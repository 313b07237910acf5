-- Dependencies, and their texts.
use Rattle.std.specs.Prelude.{◌≡◌, ℕ, Bool, List}
use Rattle.dep_atom.specs.Values.{AtomValue}
use Rattle.dep_group.specs.declared.token.Opener.{Opener}
use Rattle.dep_group.specs.Texts as texts
use Rattle.dep_group.specs.Trees.{Trees, no_trees}
use Rattle.dep_tree.specs.Grammar.{grammar, is_block}

-- what atoms say, in groups
abbrev pub AtomTrees : Type 0
AtomTrees = Trees (Opener (List ℕ)) AtomValue

-- atoms in groups, and whether an any-of group without members holds
pub record Dependencies : Type 0 where
  pub groups : AtomTrees
  pub empty_holds : Bool

-- those of what depends on nothing
abbrev pub no_dependencies : Bool → Dependencies
no_dependencies empty = record { groups = no_trees; empty_holds = empty }

-- the words of dependencies with one space between each two
abbrev pub text_of : Dependencies → List ℕ
text_of x = texts.text_of grammar x.groups

-- the words of the text are those of atoms in groups, which are in form
abbrev pub WritesAtoms : List ℕ → AtomTrees → Type 0
WritesAtoms text ts = texts.Writes grammar is_block text ts

-- the text is read as these dependencies, where `empty` says whether an any-of group without
-- members holds
pub record Writes (empty : Bool) (text : List ℕ) (x : Dependencies) : Type 0 where
  pub atoms : WritesAtoms text x.groups
  pub flag : x.empty_holds ≡ empty

-- the text is one of dependencies
abbrev pub AreDependencies : List ℕ → Type 0
AreDependencies text = texts.WritesSome grammar is_block text
