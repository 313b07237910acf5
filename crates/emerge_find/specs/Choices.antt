-- What a run has to choose from, and the plan that is found over it.
use Rattle.std.specs.Prelude.{◌≡◌, ℕ, Bool, List, Vec, map}
use Rattle.std.specs.Global.{Global}
use Rattle.dep_atom.specs.Values.{AtomValue, atom_value}
use Rattle.dep_atom.specs.declared.atom.Atom.{Atom}
use Rattle.file_tree.specs.Disk.{Map}
use Rattle.pms_names.specs.Flags.{IsRising}
use Rattle.pkg_state.specs.Package.{Package}
use Rattle.choice_law.specs.Universe.{Universe}
use Rattle.vdb_law.specs.Packages.{Installed}
use Rattle.vdb_text.specs.Limits.{AreWithin}
use Rattle.law_commit.specs.Lit.{packages_of}
use Rattle.law_run.specs.Openings.{HasOpening}
use Rattle.visible_verdicts.specs.declared.reason.Reason.{Reason as KeptBack}
use Rattle.visible_verdicts.specs.declared.reason.Reason.TheVariants as kept
use Rattle.visible_offers.specs.declared.candidate.Candidate.{Candidate}
use Rattle.visible_set.specs.Offers.{AreOffers}
use Rattle.visible_set.specs.declared.offers.Hidden.{Hidden}
use Rattle.visible_set.specs.declared.offers.Reason.{Reason as HiddenReason}
use Rattle.visible_set.specs.declared.offers.Reason.TheVariants as hides
use Rattle.choice_universe.specs.Offers.{variants_of}
use Rattle.choice_universe.specs.declared.candidate.Candidate.{Candidate as Tried}
use Rattle.plan_text.specs.Plans.{plan_value}
use Rattle.emerge_choose.specs.Answers.{IsChosenPlan, Tells}
use Rattle.plan_model.specs.Accepting.{IsGood}
use Rattle.emerge_choose.specs.Wishes.{Over, WishValue}
use Rattle.emerge_choose.specs.declared.chosen.Chosen.{Chosen}
use Rattle.emerge_choose.specs.declared.fault.NotChosen.{NotChosen}
use Rattle.emerge_choose.specs.declared.reason.NotTaken.{NotTaken}
use Rattle.emerge_choose.specs.declared.reason.Reason.{Reason}
use Rattle.emerge_choose.specs.declared.reason.Reason.TheVariants.{BadEntry, Eapi, Keyword, Masked, NoEbuild, RequiredUse, Stale}
use Rattle.emerge_find.specs.Files.{HoldsPlan}
use Rattle.emerge_find.specs.Unmerges.{IsUnmerged}
use Rattle.emerge_find.specs.Worlds.{IsWish}
use Rattle.emerge_find.specs.declared.asked.Aim.{Aim}
use Rattle.emerge_find.specs.declared.asked.Aim.TheVariants.{Atoms, File, Unmerge}
use Rattle.emerge_find.specs.declared.asked.Asked.{Asked}
use Rattle.emerge_find.specs.declared.found.Found.{Found}

-- the package of a candidate with just the implicit flags on
abbrev pub bare_of : Candidate → Package
bare_of c = c.offered

-- a candidate with its variants alone
abbrev pub tried_of : Candidate → Tried
tried_of c = record { variants = c.variants }

-- why a candidate may not come, as it is told
abbrev pub of_hidden : KeptBack → Reason
of_hidden kept.NoEbuild = NoEbuild
of_hidden kept.Eapi = Eapi
of_hidden kept.Stale = Stale
of_hidden kept.BadEntry = BadEntry
of_hidden kept.Keyword = Keyword
of_hidden kept.Masked = Masked

abbrev pub reason_of : HiddenReason → Reason
reason_of (hides.NotVisible reason) = of_hidden reason
reason_of hides.RequiredUse = RequiredUse

abbrev pub not_taken : Hidden → NotTaken
not_taken h = record { id = h.id; reason = reason_of h.reason }

-- what a run has to choose from: the flags that are on for every package, the installed packages as
-- they are recorded, the candidates, and those that may not come
pub record Choices : Type 0 where
  pub implicit : List (List ℕ)
  pub packages : List Installed
  pub candidates : List Candidate
  pub hidden : List Hidden

abbrev pub choices_of : List (List ℕ) → List Installed → List Candidate → List Hidden → Choices
choices_of implicit packages candidates hidden =
    record {
      implicit = implicit;
      packages = packages;
      candidates = candidates;
      hidden = hidden;
    }

-- the installed packages as the run sees them, the offered ones, and those that may not come
abbrev pub installed_of : Choices → List Package
installed_of k = packages_of k.implicit k.packages

abbrev pub offered_of : Choices → List Package
offered_of k = map bare_of k.candidates

abbrev pub hidden_of : Choices → List NotTaken
hidden_of k = map not_taken k.hidden

-- something holds of the universe of a wish
abbrev pub OfUniverse : Choices → WishValue → (Universe → Type 0) → Type 0
OfUniverse k wish Holds =
    Over (installed_of k) (variants_of (map tried_of k.candidates)) wish Holds

-- the plan is the one of the wish
abbrev pub IsChosenOf : Choices → WishValue → Chosen → Type 0
IsChosenOf k wish chosen = OfUniverse k wish (λ u.
    IsChosenPlan (installed_of k) (offered_of k) wish.update wish.limit u chosen)

-- there is none, for this reason
abbrev pub IsUnchosen : Choices → WishValue → NotChosen → Type 0
IsUnchosen k wish fault = OfUniverse k wish (λ u.
    Tells (installed_of k) (offered_of k) (hidden_of k) wish.update wish.limit u fault)

-- the plan is that of the file: of its text, linked to the offered packages and accepted over the
-- installed ones, with binds that are right
pub record IsFiled (m : Map) (k : Choices) (path : List ℕ) (chosen : Chosen) : Type 0 where
  pub text : HoldsPlan m path (plan_value chosen.text)
  pub good : IsGood (installed_of k) (offered_of k) (plan_value chosen.text) chosen.plan

-- the plan takes away what the atoms match of the installed packages
abbrev pub IsUnmergedOf : Choices → List AtomValue → Chosen → Type 0
IsUnmergedOf k atoms chosen = IsUnmerged (installed_of k) (offered_of k) atoms chosen

-- the plan is the one that is aimed at
abbrev pub IsAimed : Map → Choices → Aim → Chosen → Type 0
IsAimed m k (Atoms wanted world update limit flips) chosen =
    (wish : WishValue) × IsWish m wanted world update limit wish × IsChosenOf k wish chosen
IsAimed m k (File path) chosen = IsFiled m k path chosen
IsAimed m k (Unmerge atoms) chosen = IsUnmergedOf k (map atom_value atoms.items) chosen

-- so many flags of a candidate are flipped at most; where no atoms are to be served none is
abbrev pub flips_of : Aim → ℕ
flips_of (Atoms wanted world update limit flips) = flips
flips_of (File path) = 0
flips_of (Unmerge atoms) = 0

-- the candidates are those of the map's offers; the packages are installed in it, within the
-- limits, go together with the flags on, and no other list tells them
pub record AreChoices (m : Map) (flips : ℕ) (k : Choices) : Type 0 where
  pub offers : AreOffers m flips k.implicit k.candidates k.hidden
  pub opening : HasOpening k.implicit m k.packages
  pub within : AreWithin k.packages
  pub only : (qs : List Installed) → HasOpening k.implicit m qs → k.packages ≡ qs

-- the plan was found in these, and in what the map holds
pub record IsFoundIn (m : Map) (k : Choices) (asked : Asked) (found : Found) : Type 0 where
  pub implicit : found.implicit ≡ k.implicit
  pub rising : IsRising found.implicit
  pub packages : found.packages.items ≡ k.packages
  pub chosen : IsAimed m k asked.aim found.chosen

-- it was found in what the map has to choose from
pub record IsFound (m : Map) (asked : Asked) (found : Found) : Type 0 where
  pub all : Choices
  pub are : AreChoices m (flips_of asked.aim) all
  pub inside : IsFoundIn m all asked found
