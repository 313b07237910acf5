-- Why there is no plan over what there is to choose from.
use Rattle.std.specs.Prelude.{◌≡◌, ℕ, false, List, [], Some, ⊤, map}
use Rattle.dep_atom.specs.Values.{AtomValue, atom_value}
use Rattle.dep_atom.specs.declared.atom.Atom.{Atom}
use Rattle.dep_atom.specs.declared.atom.Block.TheVariants as blocks
use Rattle.dep_atom.specs.declared.atom.Op.TheVariants as ops
use Rattle.dep_atom.specs.declared.package.PackageId.{PackageId}
use Rattle.dep_atom.specs.declared.slot.SlotPart.TheVariants as slots
use Rattle.file_tree.specs.Disk.{Map}
use Rattle.file_tree.specs.declared.fault.TreeFault.TheVariants as trees
use Rattle.pkg_state.specs.Package.{Package}
use Rattle.vdb_law.specs.Packages.{Installed}
use Rattle.plan_text.specs.Plans.{GroupValue}
use Rattle.plan_model.specs.Faults.{link_rule}
use Rattle.plan_model.specs.declared.fault.LinkFault.{LinkFault}
use Rattle.plan_model.specs.declared.fault.LinkFault.TheVariants as links
use Rattle.plan_model.specs.Accepting.{IsRefused}
use Rattle.emerge_choose.specs.Reasons.{AreReasons}
use Rattle.emerge_choose.specs.Wishes.{WishValue}
use Rattle.emerge_choose.specs.declared.fault.NotChosen.TheVariants as choosing
use Rattle.emerge_choose.specs.declared.reason.NotTaken.{NotTaken}
use Rattle.emerge_find.specs.Choices.{Choices, IsUnchosen, hidden_of, installed_of, offered_of}
use Rattle.emerge_find.specs.Files.{HoldsPlan}
use Rattle.emerge_find.specs.Unmerges.{BarsUnmerge}
use Rattle.emerge_find.specs.Worlds.{IsWish}
use Rattle.emerge_find.specs.declared.asked.Aim.{Aim}
use Rattle.emerge_find.specs.declared.asked.Aim.TheVariants.{Atoms, File, Unmerge}
use Rattle.emerge_find.specs.declared.ends.NoPlan.{NoPlan}
use Rattle.emerge_find.specs.declared.unmerge.NotUnmerged.TheVariants as going
use Rattle.emerge_find.specs.declared.ends.NoPlan.TheVariants.{BacktrackLimit, BuildCycle, Limit, NoCandidate, NoOrder, NoSolution, NotPlanned, Refused, Text, Tree}

-- nothing is chosen for the wish, for this reason
abbrev pub WishLacks : Choices → WishValue → NoPlan → Type 0
WishLacks k wish (NoCandidate atom reasons packages) =
    IsUnchosen k wish (choosing.NoCandidate atom reasons)
WishLacks k wish (NoSolution dead packages) = IsUnchosen k wish (choosing.NoSolution dead)
WishLacks k wish (BacktrackLimit refuted dead packages) =
    IsUnchosen k wish (choosing.BacktrackLimit refuted dead)
WishLacks k wish (BuildCycle cycle packages) = IsUnchosen k wish (choosing.BuildCycle cycle)
WishLacks k wish Limit = IsUnchosen k wish choosing.Limit
WishLacks k wish (NotPlanned packages) =
    (fault : LinkFault) × IsUnchosen k wish (choosing.Unlinked fault)
WishLacks k wish (NoOrder fault packages) = IsUnchosen k wish (choosing.NoOrder fault)
WishLacks k wish (Tree trees.Memory) = ⊤
WishLacks k wish e = ⊥

-- `=category/package-version`
abbrev pub exact_atom : PackageId → AtomValue
exact_atom id =
    record {
      block = blocks.No;
      op = ops.Equal;
      name = id.name;
      version = Some id.version;
      star = false;
      slot = slots.Free;
      uses = [];
    }

-- the first fault of the groups' additions is that one is not offered: the atom is that of its
-- package, and the reasons are those of the candidates of its name
pub record LacksAddition (offered : List Package) (hidden : List NotTaken)
    (groups : List GroupValue) (atom : Atom) (reasons : List NotTaken) : Type 0 where
  pub group : ℕ
  pub id : PackageId
  pub first : link_rule offered groups (Some (links.NoCandidate group id))
  pub exact : atom_value atom ≡ exact_atom id
  pub why : AreReasons id.name offered hidden reasons

-- their first fault is that one has a flag which its package doesn't know
abbrev pub HasBadFlag : List Package → List GroupValue → Type 0
HasBadFlag offered groups = (group : ℕ) × (id : PackageId) × (flag : List ℕ)
    × link_rule offered groups (Some (links.BadFlag group id flag))

-- no plan is made of the groups that stand in the file, for this reason: the first fault of their
-- additions, where a bad flag is told by the file alone, or else the first rule of the check that
-- the plan breaks which they stand for
abbrev pub GroupsLack : Choices → List ℕ → List GroupValue → NoPlan → Type 0
GroupsLack k path groups (Text file line) =
    (file ≡ path) × (line ≡ 0) × HasBadFlag (offered_of k) groups
GroupsLack k path groups (NoCandidate atom reasons packages) =
    LacksAddition (offered_of k) (hidden_of k) groups atom reasons.items
GroupsLack k path groups (Refused fault packages) =
    IsRefused (installed_of k) (offered_of k) groups fault
GroupsLack k path groups (Tree trees.Memory) = ⊤
GroupsLack k path groups e = ⊥

-- nothing that the atoms match goes, for this reason: the first atom that matches nothing
-- installed, with no candidates, or else the first rule of the check that the plan breaks
abbrev pub UnmergeLacks : Choices → List AtomValue → NoPlan → Type 0
UnmergeLacks k atoms (NoCandidate atom reasons packages) =
    BarsUnmerge (installed_of k) (offered_of k) atoms (going.NoCandidate atom reasons)
UnmergeLacks k atoms (Refused fault packages) =
    BarsUnmerge (installed_of k) (offered_of k) atoms (going.Refused fault)
UnmergeLacks k atoms (Tree trees.Memory) = ⊤
UnmergeLacks k atoms e = ⊥

-- what is aimed at has no plan, for this reason
abbrev pub Lacks : Map → Choices → Aim → NoPlan → Type 0
Lacks m k (Atoms wanted world update limit flips) e =
    (wish : WishValue) × IsWish m wanted world update limit wish × WishLacks k wish e
Lacks m k (File path) e =
    (groups : List GroupValue) × HoldsPlan m path groups × GroupsLack k path groups e
Lacks m k (Unmerge atoms) e = UnmergeLacks k (map atom_value atoms.items) e

-- the packages that are given back are these
abbrev pub GivesBack : List Installed → NoPlan → Type 0
GivesBack ps (NoCandidate atom reasons packages) = packages.items ≡ ps
GivesBack ps (NoSolution dead packages) = packages.items ≡ ps
GivesBack ps (BacktrackLimit refuted dead packages) = packages.items ≡ ps
GivesBack ps (BuildCycle cycle packages) = packages.items ≡ ps
GivesBack ps (NoOrder fault packages) = packages.items ≡ ps
GivesBack ps (NotPlanned packages) = packages.items ≡ ps
GivesBack ps (Refused fault packages) = packages.items ≡ ps
GivesBack ps e = ⊤
