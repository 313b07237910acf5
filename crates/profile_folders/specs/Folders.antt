-- The folders of a profile: each parent before the profile that names it (PMS 5.2.1).
use Rattle.std.specs.Prelude.{◌≡◌, ◌⊎◌, ◌+◌, ◌<◌, ◌≤◌, ℕ, zero, suc, List, [], ◌∷◌, ◌++◌, Option, None, Some, length}
use Rattle.basics.specs.Members.{Has}
use Rattle.file_tree.specs.Disk.{Map}
use Rattle.profile_folders.specs.Begins.{BeginsAt, BeginsNowhere, IsFolder}
use Rattle.profile_folders.specs.Parents.{AreParents, IsParentFault}
use Rattle.profile_folders.specs.declared.fault.ProfileFault.{ProfileFault}
use Rattle.profile_folders.specs.declared.fault.ProfileFault.TheVariants.{Deep, Loop, Missing}
use Rattle.profile_folders.specs.declared.parents.Parent.{Parent}

-- so many profiles are read at most, each as often as it is named
abbrev pub most_profiles : ℕ
most_profiles = 64

-- the profiles in `above` are being read, and `folders` have the profiles that were read to their
-- end: then the next one may be that of this folder
pub record MayRead (m : Map) (above folders : List (List ℕ)) (folder : List ℕ) : Type 0 where
  pub other : ¬ Has above folder
  pub room : length above + length folders < most_profiles
  pub there : IsFolder m folder

-- and this is why it may not be
abbrev pub MayNotRead : Map → List (List ℕ) → List (List ℕ) → Parent → ProfileFault → Type 0
MayNotRead m above folders parent (Loop path line) =
    Has above parent.folder × (path ≡ parent.file) × (line ≡ parent.line)
MayNotRead m above folders parent (Deep path line) =
    (¬ Has above parent.folder) × (most_profiles ≤ length above + length folders) ×
    (path ≡ parent.file) × (line ≡ parent.line)
MayNotRead m above folders parent (Missing path) =
    (¬ Has above parent.folder) × (length above + length folders < most_profiles) ×
    (¬ IsFolder m parent.folder) × (path ≡ parent.folder)
MayNotRead m above folders parent _ = ⊥

-- how the reading of a profile ends: from the folders of the profiles that were read to their end
-- before, in order, to those of now, and at a fault or at none
abbrev pub Ends : Type 1
Ends = List (List ℕ) → List (List ℕ) → Option ProfileFault → Type 0

-- the parents are read one after the other, each as `Reads` says of its folder
abbrev pub ReadsEach : Map → List (List ℕ) → (List ℕ → Ends) → List Parent → Ends
ReadsEach m above Reads [] before now fault = (now ≡ before) × (fault ≡ None)
ReadsEach m above Reads (parent ∷ rest) before now fault =
    ((first : ProfileFault) × MayNotRead m above before parent first ×
    (now ≡ before) × (fault ≡ Some first))
    ⊎ (MayRead m above before parent.folder ×
    (((first : ProfileFault) × Reads parent.folder before now (Some first) ×
    (fault ≡ Some first))
    ⊎ ((between : List (List ℕ)) × Reads parent.folder before between None ×
    ReadsEach m above Reads rest between now fault)))

-- the folder stands behind those of its parents, unless a fault was there
abbrev pub with_folder : List (List ℕ) → List ℕ → Option ProfileFault → List (List ℕ)
with_folder folders folder None = folders ++ folder ∷ []
with_folder folders folder (Some fault) = folders

-- a profile is read depth first, with so many profiles inside one another at most
abbrev pub Reads : ℕ → Map → List (List ℕ) → List ℕ → Ends
Reads zero m above folder before now fault = ⊥
Reads (suc depth) m above folder before now fault =
    ((first : ProfileFault) × IsParentFault m folder first ×
    (now ≡ before) × (fault ≡ Some first))
    ⊎ ((parents : List Parent) × AreParents m folder parents ×
    ((between : List (List ℕ)) ×
    ReadsEach m (above ++ folder ∷ []) (Reads depth m (above ++ folder ∷ [])) parents
    before between fault ×
    (now ≡ with_folder between folder fault)))

-- the folders of the profiles that are read to their end, in this order, up to the first fault
abbrev pub Walks : Map → List ℕ → List (List ℕ) → Option ProfileFault → Type 0
Walks m path folders fault =
    ((first : ProfileFault) × BeginsNowhere m path first ×
    (folders ≡ []) × (fault ≡ Some first))
    ⊎ ((folder : List ℕ) × BeginsAt m path folder ×
    ((depth : ℕ) × Reads depth m [] folder [] folders fault))

-- the folders of the profile of the map, each parent before the profile that names it
abbrev pub AreFolders : Map → List ℕ → List (List ℕ) → Type 0
AreFolders m path folders = Walks m path folders None

-- the first fault of the profile of the map, and the folders of the profiles that are read before
abbrev pub FirstFault : Map → List ℕ → List (List ℕ) → ProfileFault → Type 0
FirstFault m path folders fault = Walks m path folders (Some fault)
