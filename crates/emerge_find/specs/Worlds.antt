-- What is wanted where the world file counts too, and why that file says nothing.
use Rattle.std.specs.Prelude.{◌≡◌, ◌⊎◌, ◌++◌, ℕ, Bool, true, false, List, Option, None, Some, Vec, map, ⊤}
use Rattle.std.specs.Global.{Global}
use Rattle.std.specs.Str.{IsUtf8}
use Rattle.dep_atom.specs.Values.{AtomValue, atom_value}
use Rattle.dep_atom.specs.declared.atom.Atom.{Atom}
use Rattle.file_tree.specs.Disk.{Map}
use Rattle.file_tree.specs.declared.fault.TreeFault.TheVariants as trees
use Rattle.vdb_law.specs.Fields.{text_of}
use Rattle.emerge_choose.specs.Wishes.{WishValue}
use Rattle.world_text.specs.World.{FirstBad, IsWorld}
use Rattle.world_text.specs.declared.world.TheConstants.{WORLD}
use Rattle.emerge_find.specs.declared.ends.NoPlan.{NoPlan}
use Rattle.emerge_find.specs.declared.ends.NoPlan.TheVariants.{Text, Tree}
use Rattle.emerge_find.specs.declared.world.NoWorld.{NoWorld}
use Rattle.emerge_find.specs.declared.world.NoWorld.TheVariants as lacking

-- the text, where there is one, is that of a world file with these atoms
abbrev pub HasWorld : Option (List ℕ) → List Atom → Type 0
HasWorld None atoms = ⊥
HasWorld (Some text) atoms = IsWorld text atoms

-- the world file, plain or executable, has these atoms
abbrev pub HoldsWorld : Map → List Atom → Type 0
HoldsWorld m atoms = HasWorld (text_of (m WORLD.now)) atoms

-- what is wanted of these atoms: they alone, or behind them those of the world file
abbrev pub AreWanted : Map → List Atom → Bool → List AtomValue → Type 0
AreWanted m atoms false wanted = wanted ≡ map atom_value atoms
AreWanted m atoms true wanted =
    (more : List Atom) × HoldsWorld m more × (wanted ≡ map atom_value (atoms ++ more))

-- this is wanted
pub record IsWish (m : Map) (atoms : Vec Atom Global) (world update : Bool) (limit : ℕ)
    (wish : WishValue) : Type 0 where
  pub wanted : AreWanted m atoms.items world wish.wanted
  pub updates : wish.update ≡ update
  pub limited : wish.limit ≡ limit

-- there is no world file, which has line 0, or it isn't UTF-8, which has line 1, or this is its
-- first line that is no atom
abbrev pub FailsWorld : Option (List ℕ) → ℕ → Type 0
FailsWorld None line = line ≡ 0
FailsWorld (Some text) line = ((¬ IsUtf8 text) × (line ≡ 1)) ⊎ FirstBad text line

-- the file says nothing, for this reason; want of memory says nothing
abbrev pub IsNoWorld : Option (List ℕ) → NoWorld → Type 0
IsNoWorld text (lacking.Line line) = FailsWorld text line
IsNoWorld text lacking.Memory = ⊤

-- .. and this is what it is called
abbrev pub without_world : List ℕ → NoWorld → NoPlan
without_world path (lacking.Line line) = Text path line
without_world path lacking.Memory = Tree trees.Memory

-- there is no plan since the world file says nothing; a failure and want of memory say nothing
abbrev pub MissesWorld : Map → NoPlan → Type 0
MissesWorld m (Text path line) = (path ≡ WORLD.now) × FailsWorld (text_of (m WORLD.now)) line
MissesWorld m (Tree fault) = ⊤
MissesWorld m e = ⊥

-- the same where the world file counts, and else never
abbrev pub MissesWanted : Map → Bool → NoPlan → Type 0
MissesWanted m false e = ⊥
MissesWanted m true e = MissesWorld m e
