-- What goes where the packages that atoms match are unmerged, and why nothing does.
use Rattle.std.specs.Prelude.{◌≡◌, Bool, not, List, [], Option, None, Some, filter, ⊤}
use Rattle.std.specs.List.{find, list_any}
use Rattle.dep_atom.specs.Values.{AtomValue, atom_value}
use Rattle.pkg_state.specs.Package.{Package}
use Rattle.plan_text.specs.Plans.{GroupValue, plan_value}
use Rattle.plan_text.specs.Texts.{IsPlan}
use Rattle.plan_model.specs.Accepting.{IsGood, IsRefused}
use Rattle.plan_model.specs.declared.fault.NotAccepted.{NotAccepted}
use Rattle.plan_model.specs.declared.fault.NotAccepted.TheVariants as accepting
use Rattle.merge_groups.specs.Unmerge.{IsUnmerge}
use Rattle.emerge_choose.specs.Wishes.{is_match}
use Rattle.emerge_choose.specs.declared.chosen.Chosen.{Chosen}
use Rattle.emerge_find.specs.declared.unmerge.NotUnmerged.{NotUnmerged}
use Rattle.emerge_find.specs.declared.unmerge.NotUnmerged.TheVariants.{Memory, NoCandidate, Refused}

-- some of the atoms matches the package
abbrev pub is_matched : List AtomValue → Package → Bool
is_matched atoms p = list_any (λ a. is_match a p) atoms

-- the packages that some of the atoms matches
abbrev pub matched : List AtomValue → List Package → List Package
matched atoms ps = filter (is_matched atoms) ps

-- the first atom that matches none of the packages, if there is one
abbrev pub first_unmatched : List AtomValue → List Package → Option AtomValue
first_unmatched atoms ps = find (λ a. not (list_any (is_match a) ps)) atoms

-- each atom matches an installed package, and the groups take away just those that are matched
pub record IsUnmergeOf (installed : List Package) (atoms : List AtomValue)
    (groups : List GroupValue) : Type 0 where
  pub all : first_unmatched atoms installed ≡ None
  pub unmerge : IsUnmerge (matched atoms installed) groups
  pub form : IsPlan groups

-- the plan is that, and it is accepted
pub record IsUnmerged (installed offered : List Package) (atoms : List AtomValue)
    (chosen : Chosen) : Type 0 where
  pub is : IsUnmergeOf installed atoms (plan_value chosen.text)
  pub good : IsGood installed offered (plan_value chosen.text) chosen.plan

-- nothing goes, for this reason; want of memory says nothing
abbrev pub BarsUnmerge : List Package → List Package → List AtomValue → NotUnmerged → Type 0
BarsUnmerge installed offered atoms (NoCandidate atom reasons) =
    (first_unmatched atoms installed ≡ Some (atom_value atom)) × (reasons.items ≡ [])
BarsUnmerge installed offered atoms (Refused fault) =
    (groups : List GroupValue) × IsUnmergeOf installed atoms groups
    × IsRefused installed offered groups fault
BarsUnmerge installed offered atoms Memory = ⊤

-- the fault is none of an addition
abbrev pub IsOfNoAddition : NotAccepted → Type 0
IsOfNoAddition (accepting.Unlinked fault) = ⊥
IsOfNoAddition (accepting.Refused fault) = ⊤
IsOfNoAddition accepting.Memory = ⊤

-- this is what it is called
abbrev pub IsToldOf : NotAccepted → NotUnmerged → Type 0
IsToldOf (accepting.Unlinked fault) e = ⊥
IsToldOf (accepting.Refused fault) e = e ≡ Refused fault
IsToldOf accepting.Memory e = e ≡ Memory
