-- What a plan is made of, once the tree's files are read.
use Rattle.std.specs.Prelude.{◌≡◌, ◌≢◌, ℕ, List, ⊤, map}
use Rattle.file_tree.specs.Disk.{Map}
use Rattle.dep_atom.specs.Values.{atom_value}
use Rattle.pms_names.specs.Flags.{IsRising}
use Rattle.vdb_law.specs.Fields.{text_of}
use Rattle.plan_text.specs.Plans.{plan_value}
use Rattle.plan_text.specs.Texts.{IsPlan}
use Rattle.plan_model.specs.Accepting.{IsGood}
use Rattle.emerge_choose.specs.Wishes.{wish_value}
use Rattle.emerge_choose.specs.declared.chosen.Chosen.{Chosen}
use Rattle.emerge_choose.specs.declared.fault.NotChosen.TheVariants as choosing
use Rattle.emerge_find.specs.Choices.{Choices, IsChosenOf, IsUnchosen, IsUnmergedOf, hidden_of, installed_of, offered_of}
use Rattle.emerge_find.specs.Files.{FailsAt, HoldsPlan, IsTooLong}
use Rattle.emerge_find.specs.Filing.{IsUnfiled}
use Rattle.emerge_find.specs.Lacking.{GivesBack, GroupsLack, UnmergeLacks, WishLacks}
use Rattle.emerge_find.specs.Unmerges.{BarsUnmerge}
use Rattle.emerge_find.specs.Worlds.{IsWish, MissesWanted}
use Rattle.emerge_find.specs.declared.asked.Aim.{Aim}
use Rattle.emerge_find.specs.declared.asked.Aim.TheVariants.{Atoms, File, Unmerge}
use Rattle.emerge_find.specs.declared.ends.NoPlan.{NoPlan}
use Rattle.emerge_find.specs.declared.ends.NoPlan.TheVariants.{Limit, Text, Tree}
use Rattle.emerge_find.specs.declared.found.Found.{Found}
use Rattle.emerge_find.specs.declared.source.Source.{Source}
use Rattle.emerge_find.specs.declared.source.Source.TheVariants.{Filed, Unmerged, Wished}
use Rattle.emerge_find.specs.declared.unmade.Unmade.{Unmade}
use Rattle.emerge_find.specs.declared.unmade.Unmade.TheVariants as making

-- the source is what is aimed at: the wish, the plan that the file has, or the atoms of what is to
-- go
abbrev pub IsSource : Map → Aim → Source → Type 0
IsSource m (Atoms wanted world update limit flips) (Wished wish) =
    IsWish m wanted world update limit (wish_value wish)
IsSource m (Atoms wanted world update limit flips) s = ⊥
IsSource m (File file) (Filed path text) =
    (path ≡ file) × HoldsPlan m file (plan_value text)
IsSource m (File file) s = ⊥
IsSource m (Unmerge atoms) (Unmerged named) = named ≡ atoms
IsSource m (Unmerge atoms) s = ⊥

-- a plan is in form
abbrev pub IsFormed : Source → Type 0
IsFormed (Wished wish) = ⊤
IsFormed (Filed path text) = IsPlan (plan_value text)
IsFormed (Unmerged atoms) = ⊤

-- the file holds no plan, for this reason; a failure and want of memory say nothing of it
abbrev pub MissesFile : Map → List ℕ → NoPlan → Type 0
MissesFile m file (Text path line) = (path ≡ file) × FailsAt (text_of (m file)) line
MissesFile m file Limit = IsTooLong (text_of (m file))
MissesFile m file (Tree fault) = ⊤
MissesFile m file e = ⊥

-- there is no source, for this reason
abbrev pub HasNoSource : Map → Aim → NoPlan → Type 0
HasNoSource m (Atoms wanted world update limit flips) e = MissesWanted m world e
HasNoSource m (File file) e = MissesFile m file e
HasNoSource m (Unmerge atoms) e = ⊥

-- the plan is made of the source
abbrev pub IsMadeOf : Choices → Source → Chosen → Type 0
IsMadeOf k (Wished wish) chosen = IsChosenOf k (wish_value wish) chosen
IsMadeOf k (Filed path text) chosen = (chosen.text ≡ text)
    × IsGood (installed_of k) (offered_of k) (plan_value text) chosen.plan
IsMadeOf k (Unmerged atoms) chosen = IsUnmergedOf k (map atom_value atoms.items) chosen

-- no plan is made of the source, for this reason; want of memory says nothing
abbrev pub IsUnmade : Choices → Source → Unmade → Type 0
IsUnmade k (Wished wish) (making.Wished fault) =
    fault ≢ choosing.Memory → IsUnchosen k (wish_value wish) fault
IsUnmade k (Wished wish) e = ⊥
IsUnmade k (Filed path text) (making.Filed file fault) = (file ≡ path)
    × IsUnfiled (installed_of k) (offered_of k) (hidden_of k) (plan_value text) fault
IsUnmade k (Filed path text) e = ⊥
IsUnmade k (Unmerged atoms) (making.Unmerged fault) =
    BarsUnmerge (installed_of k) (offered_of k) (map atom_value atoms.items) fault
IsUnmade k (Unmerged atoms) e = ⊥

-- none is, for this reason
abbrev pub SourceLacks : Choices → Source → NoPlan → Type 0
SourceLacks k (Wished wish) e = WishLacks k (wish_value wish) e
SourceLacks k (Filed path text) e = GroupsLack k path (plan_value text) e
SourceLacks k (Unmerged atoms) e = UnmergeLacks k (map atom_value atoms.items) e

-- this is found over what there is to choose from
pub record IsMade (k : Choices) (source : Source) (found : Found) : Type 0 where
  pub implicit : found.implicit ≡ k.implicit
  pub rising : IsRising found.implicit
  pub packages : found.packages.items ≡ k.packages
  pub chosen : IsMadeOf k source found.chosen

-- nothing is, and the end tells why and gives the packages back
abbrev pub Ends : Choices → Source → NoPlan → Type 0
Ends k source e = SourceLacks k source e × GivesBack k.packages e
