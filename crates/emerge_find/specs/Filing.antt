-- What is told of the groups of a file that make no plan.
use Rattle.std.specs.Prelude.{◌≡◌, List, ⊤}
use Rattle.dep_atom.specs.Values.{atom_value}
use Rattle.dep_atom.specs.declared.package.PackageId.{PackageId}
use Rattle.pkg_state.specs.Package.{Package}
use Rattle.plan_model.specs.declared.fault.LinkFault.{LinkFault}
use Rattle.plan_model.specs.declared.fault.LinkFault.TheVariants as links
use Rattle.plan_text.specs.Plans.{GroupValue}
use Rattle.plan_model.specs.Accepting.{IsRefused}
use Rattle.emerge_choose.specs.Reasons.{AreReasons}
use Rattle.emerge_choose.specs.declared.reason.NotTaken.{NotTaken}
use Rattle.emerge_find.specs.Lacking.{HasBadFlag, LacksAddition, exact_atom}
use Rattle.emerge_find.specs.declared.unfiled.Unfiled.{Unfiled}
use Rattle.emerge_find.specs.declared.unfiled.Unfiled.TheVariants.{BadFlag, Memory, NoCandidate, Refused}

-- the package isn't offered, and this is told of it
abbrev pub IsUnoffered : List Package → List NotTaken → PackageId → Unfiled → Type 0
IsUnoffered offered hidden id (NoCandidate atom reasons) =
    (atom_value atom ≡ exact_atom id) × AreReasons id.name offered hidden reasons.items
IsUnoffered offered hidden id Memory = ⊤
IsUnoffered offered hidden id fault = ⊥

-- this is told of the fault of an addition
abbrev pub IsOfLink : List Package → List NotTaken → LinkFault → Unfiled → Type 0
IsOfLink offered hidden (links.NoCandidate group id) told = IsUnoffered offered hidden id told
IsOfLink offered hidden (links.BadFlag group id flag) told = told ≡ BadFlag
IsOfLink offered hidden links.Memory told = told ≡ Memory

-- no plan is made of the groups, for this reason; want of memory says nothing
abbrev pub IsUnfiled : List Package → List Package → List NotTaken → List GroupValue → Unfiled →
    Type 0
IsUnfiled installed offered hidden groups (NoCandidate atom reasons) =
    LacksAddition offered hidden groups atom reasons.items
IsUnfiled installed offered hidden groups BadFlag = HasBadFlag offered groups
IsUnfiled installed offered hidden groups (Refused fault) =
    IsRefused installed offered groups fault
IsUnfiled installed offered hidden groups Memory = ⊤
