-- The grammar of dependencies (PMS 8.2): package atoms in groups.
use Rattle.std.specs.Prelude.{◌≡◌, ℕ, ◌≤◌, Bool, true, false, List}
use Rattle.dep_atom.specs.declared.atom.Block.{Block}
use Rattle.dep_atom.specs.declared.atom.Block.TheVariants.{No, Weak, Strong}
use Rattle.dep_atom.specs.Atoms.{IsAtomValue}
use Rattle.dep_atom.specs.Text.{value_text}
use Rattle.dep_atom.specs.Values.{AtomValue}
use Rattle.dep_group.specs.declared.token.Opener.{Opener}
use Rattle.dep_group.specs.Tokens.{Grammar, AreMadeOf}
use Rattle.dep_group.specs.Trees.{Trees, all_depth, all_free, is_any_of}

-- leaves are atoms, which may have brackets, and no group counts its members
abbrev pub grammar : Grammar AtomValue
grammar =
    record { spell = value_text; IsLeaf = IsAtomValue; counts = false; brackets = true }

abbrev pub blocks : Block → Bool
blocks No = false
blocks Weak = true
blocks Strong = true

-- the atom is a block (PMS 8.3.2); none may stand inside an any-of group
abbrev pub is_block : AtomValue → Bool
is_block a = blocks a.block

-- atoms in all-of, any-of and conditional groups, at most 64 in one another, where no block is
-- inside an any-of group
pub record AreAtomsInGroups (x : Trees (Opener (List ℕ)) AtomValue) : Type 0 where
  pub made : AreMadeOf grammar x
  pub low : all_depth x ≤ 64
  pub free : all_free is_any_of is_block false x ≡ true
