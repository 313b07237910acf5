-- What a crash may leave of a memory tree, by a choice for some of its touched paths.
use Rattle.std.specs.Prelude.{◌≡◌, ℕ, Bool, true, false, List, [], ◌∷◌, ◌++◌, Option, ⊤}
use Rattle.file_tree.specs.ObjectValue.{ObjectValue}
use Rattle.file_tree.specs.Disk.{Map, with_path}
use Rattle.tree_mem.specs.declared.fault.ImageFault.{ImageFault}
use Rattle.tree_mem.specs.declared.fault.ImageFault.TheVariants.{NotTouched, Memory}

-- a path, and what it is to hold after the crash
abbrev pub Wish : Type 0
Wish = List ℕ × Option ObjectValue

-- the map after each wish in turn
abbrev pub chosen : List Wish → Map → Map
chosen [] m = m
chosen (w ∷ ws) m = chosen ws (with_path m w.0 w.1)

-- each path of the wishes passes the test
abbrev pub AllTouched : (List ℕ → Bool) → List Wish → Type 0
AllTouched touched [] = ⊤
AllTouched touched (w ∷ ws) = (touched w.0 ≡ true) × AllTouched touched ws

-- p is the first path of the wishes that is not touched
pub record IsFirstUntouched (touched : List ℕ → Bool) (ws : List Wish) (p : List ℕ) : Type 0 where
  pub before : List Wish
  pub wish : Option ObjectValue
  pub behind : List Wish
  pub parts : ws ≡ before ++ (p, wish) ∷ behind
  pub all : AllTouched touched before
  pub untouched : touched p ≡ false

abbrev pub IsImageFault : (List ℕ → Bool) → List Wish → ImageFault → Type 0
IsImageFault touched ws (NotTouched p) = IsFirstUntouched touched ws p
IsImageFault touched ws Memory = ⊤
