-- Where the profile of a map begins: at its path, or at the folder to which a link there leads.
use Rattle.std.specs.Prelude.{◌≡◌, ◌⊎◌, ℕ, List, Option, None, Some}
use Rattle.std.specs.Str.{IsUtf8}
use Rattle.file_tree.specs.Disk.{Looks, Map}
use Rattle.file_tree.specs.ObjectValue.{ObjectValue}
use Rattle.file_tree.specs.declared.objects.Kind.TheVariants.{Link}
use Rattle.file_tree.specs.declared.objects.Look.TheVariants.{Folder}
use Rattle.profile_folders.specs.Places.{link_place}
use Rattle.profile_folders.specs.declared.fault.ProfileFault.{ProfileFault}
use Rattle.profile_folders.specs.declared.fault.ProfileFault.TheVariants.{Missing, Text}

-- the path holds no object, and something stands below it
abbrev pub IsFolder : Map → List ℕ → Type 0
IsFolder m path = Looks m path Folder

-- the target of a link at the path leads to this folder
pub record IsTarget (path target folder : List ℕ) : Type 0 where
  pub utf8 : IsUtf8 target
  pub leads : link_place path target ≡ Some folder

-- the target of a link at the path leads to no path
abbrev pub IsBadTarget : List ℕ → List ℕ → ProfileFault → Type 0
IsBadTarget path target fault =
    (IsUtf8 target → link_place path target ≡ None) × (fault ≡ Text path 1)

-- the profile at the path is in this folder, where the path holds this
abbrev pub Starts : Option ObjectValue → List ℕ → List ℕ → Type 0
Starts None path folder = folder ≡ path
Starts (Some x) path folder = (x.kind ≡ Link) × IsTarget path x.bytes folder

-- and there is no such folder, for this reason
abbrev pub StartsNowhere : Option ObjectValue → List ℕ → ProfileFault → Type 0
StartsNowhere None path fault = ⊥
StartsNowhere (Some x) path fault =
    ((x.kind ≡ Link) × IsBadTarget path x.bytes fault)
    ⊎ ((¬ (x.kind ≡ Link)) × (fault ≡ Missing path))

-- the profile at the path is that of the folder
abbrev pub BeginsAt : Map → List ℕ → List ℕ → Type 0
BeginsAt m path folder = Starts (m path) path folder × IsFolder m folder

-- there is no profile at the path, for this reason
abbrev pub BeginsNowhere : Map → List ℕ → ProfileFault → Type 0
BeginsNowhere m path fault =
    StartsNowhere (m path) path fault
    ⊎ ((folder : List ℕ) × Starts (m path) path folder × (¬ IsFolder m folder)
    × (fault ≡ Missing folder))
