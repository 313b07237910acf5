-- Blocks that are put under their names one by one.
use denote.Ref.{Bor}
use Rattle.std.proofs.Common.{◌≡◌, ℕ, List, ◌++◌, filter, map}
use Rattle.std.specs.Prelude.{Vec}
use Rattle.std.specs.Global.{Global}
use Rattle.std.specs.BTreeMap.{BTreeMap}
use Rattle.dep_atom.specs.declared.atom.Atom.{Atom}
use Rattle.dep_atom.specs.Values.{AtomValue, atom_value}
use Rattle.dep_tree.specs.Grammar.{is_block}
use Rattle.pkg_state.specs.Package.{Package}
use Rattle.pkg_state.specs.Blocks.{block_value}
use Rattle.pkg_state.specs.Index.{listed, those_on}
use Rattle.pkg_state.specs.declared.block.Block.{Block}

-- the blocks among leaves of the package
abbrev pub blocks_among : Package → List (Bor Atom) → List (Package × AtomValue)
blocks_among p leaves = map (λ a. (p, a)) (filter is_block (map (λ atom. atom_value atom.now) leaves))

-- so far, these blocks stand behind those that were there
abbrev pub HasAdded : List (Package × AtomValue) → BTreeMap (Bor (List ℕ)) (Vec Block Global) → BTreeMap (Bor (List ℕ)) (Vec Block Global) → Type 0
HasAdded bs old new = (name : List ℕ) → map block_value (listed new name) ≡ map block_value (listed old name) ++ those_on name bs
