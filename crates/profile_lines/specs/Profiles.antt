-- The profile of a tree as a whole (PMS 5.2): the masks of the repository, and then each of its
-- folders in their order.
use Rattle.std.specs.Prelude.{◌≡◌, ◌⊎◌, ℕ, List, Option, None, Some, codes, ⊤}
use Rattle.file_tree.specs.Disk.{Map}
use Rattle.profile_folders.specs.Folders.{Walks}
use Rattle.profile_folders.specs.Machine.{IsOfMachine}
use Rattle.profile_folders.specs.declared.fault.ProfileFault.{ProfileFault}
use Rattle.profile_lines.specs.Chains.{BreaksAt, Chain}
use Rattle.profile_lines.specs.Files.{Content, MissFolder, MissTells, ReadsFolder, Tells, counted, empty}
use Rattle.profile_lines.specs.declared.fault.ReadFault.{ReadFault}
use Rattle.profile_lines.specs.declared.fault.ReadFault.TheVariants as faults
use Rattle.profile_lines.specs.declared.file.File.TheVariants as files
use Rattle.profile_lines.specs.declared.item.Entry.{Entry}
use Rattle.profile_lines.specs.declared.item.Form.TheVariants as forms

-- the path of the repository's masks
abbrev pub repository_masks : List ℕ
repository_masks = codes "var/db/repos/gentoo/profiles/package.mask"

-- the repository's masks are all that is said at first
abbrev pub Opens : Map → Content → Type 0
Opens m is =
    (lines : List Entry) × Tells m forms.Masks (Some repository_masks) lines
    × (is ≡ counted files.Masks empty lines)

-- or they have this fault
abbrev pub MissOpens : Map → ReadFault → Type 0
MissOpens m fault = MissTells m forms.Masks (Some repository_masks) fault

-- the folders lead from what was said to what is, one after the other
abbrev pub ReadsFolders : Map → List (List ℕ) → Content → Content → Type 0
ReadsFolders m folders was is = Chain (ReadsFolder m) folders was is

-- or the first of them that is at fault has this one
abbrev pub MissFolders : Map → List (List ℕ) → Content → ReadFault → Type 0
MissFolders m folders was fault = BreaksAt (ReadsFolder m) (MissFolder m) folders was fault

-- the profile at the path of the map says this
pub record IsProfile (m : Map) (path : List ℕ) (is : Content) : Type 0 where
  pub first : Content
  pub opens : Opens m first
  pub folders : List (List ℕ)
  pub walks : Walks m path folders None
  pub reads : ReadsFolders m folders first is

-- the walk ended at its last folder, or at a fault of the profile and not of the machine
abbrev pub IsOwnEnd : Option ProfileFault → Type 0
IsOwnEnd None = ⊤
IsOwnEnd (Some fault) = ¬ IsOfMachine fault

-- the folders of the profile that were read to their end are at fault, or else the walk over
-- them is
abbrev pub MissRest : Map → List (List ℕ) → Option ProfileFault → Content → ReadFault → Type 0
MissRest m folders end first fault =
    MissFolders m folders first fault
    ⊎ ((is : Content) × ReadsFolders m folders first is × (own : ProfileFault) × (end ≡ Some own)
    × (fault ≡ faults.Profile own))

-- the first fault of the profile behind the masks of the repository
pub record MissProfile (m : Map) (path : List ℕ) (fault : ReadFault) : Type 0 where
  pub first : Content
  pub opens : Opens m first
  pub folders : List (List ℕ)
  pub end : Option ProfileFault
  pub walks : Walks m path folders end
  pub misses : MissRest m folders end first fault

-- the first fault of all
abbrev pub FirstFault : Map → List ℕ → ReadFault → Type 0
FirstFault m path fault = MissOpens m fault ⊎ MissProfile m path fault
