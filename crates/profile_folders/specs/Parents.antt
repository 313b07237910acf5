-- The lines of a profile's file `parent`, and the folders to which they lead (PMS 5.2.1).
use Rattle.std.specs.Prelude.{◌≡◌, ◌⊎◌, ℕ, List, ◌∷◌, ◌++◌, Some, codes}
use Rattle.std.specs.List.{AllZip}
use Rattle.std.specs.Str.{IsTrimAscii, IsUtf8}
use Rattle.config_text.specs.Faults.{NotUtf8At}
use Rattle.config_text.specs.Lines.{lines}
use Rattle.config_text.specs.declared.line.Line.{Line}
use Rattle.file_tree.specs.Disk.{Map}
use Rattle.profile_folders.specs.Places.{place_from}
use Rattle.profile_folders.specs.Texts.{file_in, text_in}
use Rattle.profile_folders.specs.declared.fault.ProfileFault.{ProfileFault}
use Rattle.profile_folders.specs.declared.fault.ProfileFault.TheVariants.{Text}
use Rattle.profile_folders.specs.declared.parents.Parent.{Parent}

-- the file that names the parents of the profile in the folder
abbrev pub parent_file : List ℕ → List ℕ
parent_file folder = file_in folder (codes "parent")

-- the line, without white space at its ends, leads from the folder to this parent
pub record LeadsTo (folder : List ℕ) (line : Line) (parent : Parent) : Type 0 where
  pub text : List ℕ
  pub trimmed : IsTrimAscii line.text text
  pub leads : place_from folder text ≡ Some parent.folder
  pub numbered : parent.line ≡ line.number
  pub filed : parent.file ≡ parent_file folder

-- the file of the folder with these bytes names these parents, line by line
pub record AreNamed (folder bytes : List ℕ) (parents : List Parent) : Type 0 where
  pub utf8 : IsUtf8 bytes
  pub each : AllZip (LeadsTo folder) (lines bytes) parents

-- the first line that leads nowhere has this number
pub record LeadsNowhereAt (folder bytes : List ℕ) (number : ℕ) : Type 0 where
  pub utf8 : IsUtf8 bytes
  pub front : List Line
  pub good : List Parent
  pub bad : Line
  pub rest : List Line
  pub place : lines bytes ≡ front ++ (bad ∷ rest)
  pub each : AllZip (LeadsTo folder) front good
  pub nowhere : (parent : Parent) → ¬ LeadsTo folder bad parent
  pub counted : number ≡ bad.number

-- the file of the folder with these bytes is at fault: a byte of it isn't UTF-8, or else one of
-- its lines leads nowhere
abbrev pub IsMisnamed : List ℕ → List ℕ → ProfileFault → Type 0
IsMisnamed folder bytes (Text path line) =
    (path ≡ parent_file folder) × (NotUtf8At bytes line ⊎ LeadsNowhereAt folder bytes line)
IsMisnamed folder bytes _ = ⊥

-- the profile in the folder of the map has these parents
abbrev pub AreParents : Map → List ℕ → List Parent → Type 0
AreParents m folder parents = AreNamed folder (text_in m folder (codes "parent")) parents

-- the file `parent` in the folder of the map has this fault
abbrev pub IsParentFault : Map → List ℕ → ProfileFault → Type 0
IsParentFault m folder fault = IsMisnamed folder (text_in m folder (codes "parent")) fault
