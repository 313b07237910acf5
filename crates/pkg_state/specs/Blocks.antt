-- Blocks as the code keeps them.
use denote.Ref.{Bor}
use Rattle.std.specs.Prelude.{◌≡◌, ℕ, List, Vec, map}
use Rattle.std.specs.Global.{Global}
use Rattle.std.specs.BTreeMap.{BTreeMap}
use Rattle.dep_atom.specs.Values.{AtomValue, atom_value}
use Rattle.pkg_state.specs.Package.{Package}
use Rattle.pkg_state.specs.Index.{listed, those_on}
use Rattle.pkg_state.specs.declared.block.Block.{Block}

-- a block as the code keeps it, and the line of the package that has it
abbrev pub block_value : Block → Package × AtomValue
block_value b = (b.owner.now, atom_value b.atom.now)

-- under each name stand the blocks on packages of that name, in their order
abbrev pub AreBlocks : List (Package × AtomValue) →
    BTreeMap (Bor (List ℕ)) (Vec Block Global) → Type 0
AreBlocks bs lists = (name : List ℕ) → map block_value (listed lists name) ≡ those_on name bs
