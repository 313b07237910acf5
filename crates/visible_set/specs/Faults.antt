-- Why there are no offers: the first fault of the configuration, or too many candidates.
use Rattle.std.specs.Prelude.{◌≡◌, ◌⊎◌, ◌<◌, List, length}
use Rattle.config_vars.specs.Judged.{AreGood, IsBadFile}
use Rattle.config_vars.specs.Values.{expanded}
use Rattle.config_vars.specs.declared.fault.VarFault.{VarFault}
use Rattle.config_vars.specs.declared.fault.VarFault.TheVariants as values
use Rattle.file_tree.specs.Disk.{Map}
use Rattle.file_tree.specs.Faults as carried
use Rattle.file_tree.specs.declared.fault.TreeFault.TheVariants as trees
use Rattle.md5_cache.specs.Entries.{CacheEntryValue}
use Rattle.visible_verdicts.specs.declared.verdict.Hidden.{Hidden as KeptBack}
use Rattle.profile_lines.specs.declared.fault.ReadFault.{ReadFault}
use Rattle.profile_lines.specs.declared.fault.ReadFault.TheVariants as reads
use Rattle.profile_folders.specs.declared.fault.ProfileFault.{ProfileFault}
use Rattle.profile_folders.specs.declared.fault.ProfileFault.TheVariants as profiles
use Rattle.visible_set.specs.Configured.{IsSetup, MissRead, Setup}
use Rattle.visible_set.specs.Offers.{AreJudged, most_candidates}
use Rattle.visible_set.specs.declared.fault.OffersFault.{OffersFault}
use Rattle.visible_set.specs.declared.fault.OffersFault.TheVariants.{Limit, Text, Tree}

-- what a fault of the profile is called; a missing folder has no line
abbrev pub fault_of_profile : ProfileFault → OffersFault
fault_of_profile (profiles.Missing path) = Text path 0
fault_of_profile (profiles.Loop path line) = Text path line
fault_of_profile (profiles.Deep path line) = Text path line
fault_of_profile (profiles.Text path line) = Text path line
fault_of_profile (profiles.Tree fault) = Tree fault

-- what a fault of the profile or of the user's files is called
abbrev pub fault_of : ReadFault → OffersFault
fault_of (reads.Profile fault) = fault_of_profile fault
fault_of (reads.Atom path line) = Text path line

-- what a fault of a variable's value is called
abbrev pub fault_of_value : VarFault → OffersFault
fault_of_value (values.Value path line) = Text path line
fault_of_value values.Memory = Tree trees.Memory

-- the machine failed, whatever the tree holds
abbrev pub IsOfMachine : OffersFault → Type 0
IsOfMachine fault = carried.IsOfMachine Tree fault

-- the configuration can't be read, for this reason
abbrev pub IsUnread : Map → OffersFault → Type 0
IsUnread m fault = (own : ReadFault) × MissRead m own × (fault ≡ fault_of own)

-- too many candidates are visible
pub record HasTooMany (m : Map) (s : Setup) : Type 0 where
  pub good : AreGood s.files
  pub visible : List CacheEntryValue
  pub others : List KeptBack
  pub judged : AreJudged m s visible others
  pub many : most_candidates < length visible

-- what keeps the offers of what is set up back: that the value of a variable is bad, of which the
-- first is told, or else that too many candidates are visible
abbrev pub IsHeldBack : Map → Setup → OffersFault → Type 0
IsHeldBack m s (Text path line) = IsBadFile (expanded s.files) s.files path line
IsHeldBack m s Limit = HasTooMany m s
IsHeldBack m s (Tree fault) = ⊥

-- what keeps the offers back, once the configuration is read
abbrev pub IsBehind : Map → OffersFault → Type 0
IsBehind m fault = (s : Setup) × IsSetup m s × IsHeldBack m s fault

-- the first fault of all
abbrev pub FirstFault : Map → OffersFault → Type 0
FirstFault m fault = IsUnread m fault ⊎ IsBehind m fault
