-- The variables of a profile (PMS 5.2.4).
use Rattle.std.specs.Prelude.{◌≡◌, ◌≢◌, ℕ, List, codes}
use Rattle.std.specs.Str.{IsUtf8}
use Rattle.config_text.specs.AssignFaults as texts
use Rattle.config_text.specs.Assignments.{Says}
use Rattle.config_text.specs.declared.assignment.Assignment.{Assignment}
use Rattle.config_text.specs.declared.fault.TextFault.{TextFault}
use Rattle.config_text.specs.declared.fault.TextFault.TheVariants as faults
use Rattle.file_tree.specs.Disk.{Map}
use Rattle.profile_folders.specs.Texts.{file_in, text_fault, text_in}
use Rattle.profile_folders.specs.declared.fault.ProfileFault.{ProfileFault}

-- the file of the folder with its variables
abbrev pub defaults_text : Map → List ℕ → List ℕ
defaults_text m folder = text_in m folder (codes "make.defaults")

-- where these are known a text sets those
pub record AreSet (text : List ℕ) (known those : List Assignment) : Type 0 where
  pub utf8 : IsUtf8 text
  pub says : Says known text those

-- the first fault of the text, by the path of its file
pub record IsFaultOf (file text : List ℕ) (fault : ProfileFault) : Type 0 where
  pub first : TextFault
  pub has : texts.FirstFault text first
  pub own : first ≢ faults.Memory
  pub told : fault ≡ text_fault file first

-- where these are known the profile in the folder sets those
abbrev pub AreDefaults : Map → List ℕ → List Assignment → List Assignment → Type 0
AreDefaults m folder known those = AreSet (defaults_text m folder) known those

-- the first fault of the variables of the folder
abbrev pub IsDefaultsFault : Map → List ℕ → ProfileFault → Type 0
IsDefaultsFault m folder fault =
    IsFaultOf (file_in folder (codes "make.defaults")) (defaults_text m folder) fault
