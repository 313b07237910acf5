-- What is made of a source, or why nothing is, for what is aimed at.
use Rattle.std.proofs.Common.{◌≡◌, ℕ, Bool, true, false, List, Result, Ok, Err, inl, inr, map, refl, subst, sym}
use Rattle.std.specs.Prelude.{IfErr, IsErrAnd, Vec}
use Rattle.std.specs.Global.{Global}
use Rattle.dep_atom.specs.Values.{AtomValue, atom_value}
use Rattle.dep_atom.specs.declared.atom.Atom.{Atom}
use Rattle.file_tree.specs.Disk.{Map}
use Rattle.file_tree.specs.declared.fault.TreeFault.TheVariants as trees
use Rattle.vdb_law.specs.Packages.{Installed}
use Rattle.plan_text.specs.Plans.{GroupValue, plan_value}
use Rattle.plan_text.specs.declared.plan.Plan.{Plan}
use Rattle.plan_model.specs.Accepting.{IsGood}
use Rattle.emerge_choose.specs.Wishes.{WishValue, wish_value}
use Rattle.emerge_choose.specs.declared.chosen.Chosen.{Chosen}
use Rattle.emerge_find.specs.Choices.{AreChoices, Choices, IsAimed, IsFound, IsUnmergedOf, flips_of, installed_of, offered_of}
use Rattle.emerge_find.specs.Ends.{IsDeviceFailure}
use Rattle.emerge_find.specs.Files.{HoldsPlan}
use Rattle.emerge_find.specs.Worlds.{MissesWanted, MissesWorld}
use Rattle.emerge_find.specs.Lacking.{GroupsLack, Lacks, UnmergeLacks, WishLacks}
use Rattle.emerge_find.specs.Refusals.{CanAim, HasBadFile, HasLongFile, HasNoPlan, HasOffers, IsRead, Refuses}
use Rattle.emerge_find.specs.Sources.{Ends, HasNoSource, IsMade, IsMadeOf, IsSource, MissesFile, SourceLacks}
use Rattle.emerge_find.specs.declared.asked.Aim.{Aim}
use Rattle.emerge_find.specs.declared.asked.Aim.TheVariants.{Atoms, File, Unmerge}
use Rattle.emerge_find.specs.declared.asked.Asked.{Asked}
use Rattle.emerge_find.specs.declared.ends.NoPlan.{NoPlan}
use Rattle.emerge_find.specs.declared.ends.NoPlan.TheVariants as ends
use Rattle.emerge_find.specs.declared.found.Found.{Found}
use Rattle.emerge_find.specs.declared.source.Source.{Source}
use Rattle.emerge_find.specs.declared.source.Source.TheVariants.{Filed, Unmerged, Wished}

pub can_aim : (m : Map) (aim : Aim) (s : Source) → IsSource m aim s → CanAim m aim
can_aim m (Atoms wanted world update limit flips) (Wished wish) is = (wish_value wish, is)
can_aim m (Atoms wanted world update limit flips) (Filed path text) is = absurd is
can_aim m (Atoms wanted world update limit flips) (Unmerged named) is = absurd is
can_aim m (File file) (Wished wish) is = absurd is
can_aim m (File file) (Filed path text) is = (plan_value text, is.1)
can_aim m (File file) (Unmerged named) is = absurd is
can_aim m (Unmerge atoms) s is = tt

-- ---- what is found

aimed_at : (m : Map) (k : Choices) (aim : Aim) (s : Source) (chosen : Chosen) → IsSource m aim s → IsMadeOf k s chosen → IsAimed m k aim chosen
aimed_at m k (Atoms wanted world update limit flips) (Wished wish) chosen is made = (wish_value wish, is, made)
aimed_at m k (Atoms wanted world update limit flips) (Filed path text) chosen is made = absurd is
aimed_at m k (Atoms wanted world update limit flips) (Unmerged named) chosen is made = absurd is
aimed_at m k (File file) (Wished wish) chosen is made = absurd is
aimed_at m k (File file) (Unmerged named) chosen is made = absurd is
aimed_at m k (Unmerge atoms) (Wished wish) chosen is made = absurd is
aimed_at m k (Unmerge atoms) (Filed path text) chosen is made = absurd is
aimed_at m k (Unmerge atoms) (Unmerged named) chosen is made = subst (λ (v : Vec Atom Global). IsUnmergedOf k (map atom_value v.items) chosen) is made
aimed_at m k (File file) (Filed path text) chosen is made = record {
  text = subst (λ (p : Plan). HoldsPlan m file (plan_value p)) (sym made.0) is.1;
  good = subst (λ (p : Plan). IsGood (installed_of k) (offered_of k) (plan_value p) chosen.plan) (sym made.0) made.1;
}

module _ (m : Map) (asked : Asked) (k : Choices) (are : AreChoices m (flips_of asked.aim) k) (s : Source) (is : IsSource m asked.aim s) where
  pub found_of : (found : Found) → IsMade k s found → IsFound m asked found
  found_of found made = record {
    all = k;
    are = are;
    inside = record {
      implicit = made.implicit;
      rising = made.rising;
      packages = made.packages;
      chosen = aimed_at m k asked.aim s found.chosen is made.chosen;
    };
  }

-- ---- why nothing is

lacks_of : (m : Map) (k : Choices) (aim : Aim) (s : Source) (e : NoPlan) → IsSource m aim s → SourceLacks k s e → Lacks m k aim e
lacks_of m k (Atoms wanted world update limit flips) (Wished wish) e is lacks = (wish_value wish, is, lacks)
lacks_of m k (Atoms wanted world update limit flips) (Filed path text) e is lacks = absurd is
lacks_of m k (Atoms wanted world update limit flips) (Unmerged named) e is lacks = absurd is
lacks_of m k (File file) (Wished wish) e is lacks = absurd is
lacks_of m k (File file) (Unmerged named) e is lacks = absurd is
lacks_of m k (Unmerge atoms) (Wished wish) e is lacks = absurd is
lacks_of m k (Unmerge atoms) (Filed path text) e is lacks = absurd is
lacks_of m k (Unmerge atoms) (Unmerged named) e is lacks = subst (λ (v : Vec Atom Global). UnmergeLacks k (map atom_value v.items) e) is lacks
lacks_of m k (File file) (Filed path text) e is lacks = (plan_value text, is.1, subst (λ (p : List ℕ). GroupsLack k p (plan_value text) e) is.0 lacks)

-- no source lacks a plan for a reason that none of them has
no_reason : (k : Choices) (s : Source) (e : NoPlan) → ((wish : WishValue) → WishLacks k wish e → ⊥) → ((path : List ℕ) (groups : List GroupValue) → GroupsLack k path groups e → ⊥) → ((atoms : List AtomValue) → UnmergeLacks k atoms e → ⊥) → SourceLacks k s e → ⊥
no_reason k (Wished wish) e of_wish of_groups of_atoms lacks = of_wish _ lacks
no_reason k (Filed path text) e of_wish of_groups of_atoms lacks = of_groups path _ lacks
no_reason k (Unmerged atoms) e of_wish of_groups of_atoms lacks = of_atoms _ lacks

module _ (m : Map) (asked : Asked) (k : Choices) (are : AreChoices m (flips_of asked.aim) k) (s : Source) (is : IsSource m asked.aim s) where
  no_plan : (ps : List Installed) (e : NoPlan) → ps ≡ k.packages → SourceLacks k s e → HasNoPlan m asked ps e
  no_plan ps e same lacks = record { all = k; are = are; packages = same; lacks = lacks_of m k asked.aim s e is lacks }

  pub of_end : (e : NoPlan) → Ends k s e → Refuses m asked e
  of_end (ends.Text path line) h = inr (k.packages, no_plan k.packages (ends.Text path line) refl h.0)
  of_end (ends.NoCandidate atom reasons packages) h = no_plan packages.items (ends.NoCandidate atom reasons packages) h.1 h.0
  of_end ends.Limit h = inr (k.packages, no_plan k.packages ends.Limit refl h.0)
  of_end (ends.NoSolution dead packages) h = no_plan packages.items (ends.NoSolution dead packages) h.1 h.0
  of_end (ends.BacktrackLimit refuted dead packages) h = no_plan packages.items (ends.BacktrackLimit refuted dead packages) h.1 h.0
  of_end (ends.BuildCycle cycle packages) h = no_plan packages.items (ends.BuildCycle cycle packages) h.1 h.0
  of_end (ends.NoOrder fault packages) h = no_plan packages.items (ends.NoOrder fault packages) h.1 h.0
  of_end (ends.NotPlanned packages) h = no_plan packages.items (ends.NotPlanned packages) h.1 h.0
  of_end (ends.Refused fault packages) h = no_plan packages.items (ends.Refused fault packages) h.1 h.0
  of_end (ends.Tree fault) h = tt
  of_end e h = absurd (no_reason k s e (λ wish n. n) (λ path groups n. n) (λ atoms n. n) h.0)

pub read_of_end : (m : Map) (k : Choices) (s : Source) (e : NoPlan) → Ends k s e → IsRead m e
read_of_end m k s (ends.Offers fault) h = absurd (no_reason k s (ends.Offers fault) (λ wish n. n) (λ path groups n. n) (λ atoms n. n) h.0)
read_of_end m k s e h = tt

fails_not : (k : Choices) (s : Source) (e : NoPlan) → SourceLacks k s e → ¬ IsDeviceFailure e
fails_not k s (ends.Offers fault) lacks fails = no_reason k s (ends.Offers fault) (λ wish n. n) (λ path groups n. n) (λ atoms n. n) lacks
fails_not k s (ends.Opening fault) lacks fails = no_reason k s (ends.Opening fault) (λ wish n. n) (λ path groups n. n) (λ atoms n. n) lacks
fails_not k s (ends.Tree trees.Failed) lacks fails = no_reason k s (ends.Tree trees.Failed) (λ wish n. n) (λ path groups n. n) (λ atoms n. n) lacks
fails_not k s (ends.Tree trees.Memory) lacks fails = cc fails
fails_not k s e lacks fails = fails

pub no_failure : (k : Choices) (s : Source) (r : Result Found NoPlan) → IfErr r (Ends k s) → ¬ IsErrAnd r IsDeviceFailure
no_failure k s (Ok f) of fails = fails
no_failure k s (Err e) of fails = fails_not k s e of.0 fails

-- ---- why there is no source

-- the world file is missed where it counts alone
not_wanted : (m : Map) (world : Bool) (e : NoPlan) → (MissesWorld m e → ⊥) → MissesWanted m world e → ⊥
not_wanted m false e never none = none
not_wanted m true e never none = never none

source_bad : (m : Map) (aim : Aim) (path : List ℕ) (line : ℕ) → HasOffers m (flips_of aim) → HasNoSource m aim (ends.Text path line) → HasBadFile m aim path line
source_bad m (Atoms wanted world update limit flips) path line has none = (has, none)
source_bad m (File file) path line has none = (has, none.0, none.1)
source_bad m (Unmerge atoms) path line has none = none

source_long : (m : Map) (aim : Aim) → HasOffers m (flips_of aim) → HasNoSource m aim ends.Limit → HasLongFile m aim
source_long m (Atoms wanted world update limit flips) has none = absurd (not_wanted m world ends.Limit (λ n. n) none)
source_long m (File file) has none = (has, none)
source_long m (Unmerge atoms) has none = none

no_fault : (m : Map) (aim : Aim) (e : NoPlan) → (MissesWorld m e → ⊥) → ((file : List ℕ) → MissesFile m file e → ⊥) → HasNoSource m aim e → ⊥
no_fault m (Atoms wanted world update limit flips) e unmissed never none = not_wanted m world e unmissed none
no_fault m (File file) e unmissed never none = never file none
no_fault m (Unmerge atoms) e unmissed never none = none

pub of_source : (m : Map) (asked : Asked) → HasOffers m (flips_of asked.aim) → (e : NoPlan) → HasNoSource m asked.aim e → Refuses m asked e
of_source m asked has (ends.Text path line) none = inl (source_bad m asked.aim path line has none)
of_source m asked has ends.Limit none = inl (source_long m asked.aim has none)
of_source m asked has (ends.Tree fault) none = tt
of_source m asked has e none = absurd (no_fault m asked.aim e (λ n. n) (λ file n. n) none)

pub read_of_source : (m n : Map) (aim : Aim) (e : NoPlan) → HasNoSource n aim e → IsRead m e
read_of_source m n aim (ends.Offers fault) none = absurd (no_fault n aim (ends.Offers fault) (λ n. n) (λ file n. n) none)
read_of_source m n aim e none = tt
