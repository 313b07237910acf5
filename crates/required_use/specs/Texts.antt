-- Expressions of REQUIRED_USE, and their texts.
use Rattle.std.specs.Prelude.{◌≡◌, ℕ, Bool, List}
use Rattle.dep_group.specs.declared.token.Opener.{Opener}
use Rattle.dep_group.specs.Texts as texts
use Rattle.dep_group.specs.Trees.{Trees, no_trees}
use Rattle.required_use.specs.Grammar.{grammar, never}
use Rattle.required_use.specs.declared.required.Item.{Item}

-- items in groups
abbrev pub ItemTrees : Type 0
ItemTrees = Trees (Opener (List ℕ)) Item

-- items in groups, and whether an any-of or exactly-one-of group without members holds
pub record Expressions : Type 0 where
  pub groups : ItemTrees
  pub empty_holds : Bool

-- those of what asks nothing of its flags
abbrev pub no_expressions : Bool → Expressions
no_expressions empty = record { groups = no_trees; empty_holds = empty }

-- the words of expressions with one space between each two
abbrev pub text_of : Expressions → List ℕ
text_of x = texts.text_of grammar x.groups

-- the words of the text are those of items in groups, which are in form
abbrev pub WritesItems : List ℕ → ItemTrees → Type 0
WritesItems text ts = texts.Writes grammar never text ts

-- the text is read as these expressions, where `empty` says whether a group that wants one of its
-- members holds where it has none
pub record Writes (empty : Bool) (text : List ℕ) (x : Expressions) : Type 0 where
  pub items : WritesItems text x.groups
  pub flag : x.empty_holds ≡ empty

-- the text is one of expressions
abbrev pub IsExpression : List ℕ → Type 0
IsExpression text = texts.WritesSome grammar never text
