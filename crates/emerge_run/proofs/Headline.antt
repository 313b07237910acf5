-- The headline of a run, from its outcome.
use Rattle.std.proofs.Common.{◌≡◌, ◌⊎◌, ◌∙◌, ℕ, List, [], ◌∷◌, Option, None, Some, inl, inr, refl, ap, subst, sym}
use Rattle.std.specs.Prelude.{IfSome}
use Rattle.basics.specs.Members.{Has}
use Rattle.basics.proofs.Each.{all_by_has}
use Rattle.basics.proofs.Membership.{has-append_cases}
use Rattle.pms_names.specs.Flags.{has}
use Rattle.pms_names.proofs.Sets.{one_set}
use Rattle.file_tree.specs.Disk.{Map, Story}
use Rattle.file_tree.proofs.Moments.{since_weaker}
use Rattle.law_commit.specs.Commits.{IsSoundTree}
use Rattle.law_commit.specs.Lit.{packages_of}
use Rattle.vdb_law.specs.Packages.{Installed}
use Rattle.pkg_state.specs.Package.{Package}
use Rattle.plan_law.specs.Accepted.{IsAccepted}
use Rattle.plan_law.specs.Plans.{Group}
use Rattle.law_run.specs.Ends.{BeginsWith}
use Rattle.law_run.specs.Openings.{HasOpening}
use Rattle.run_files.specs.Laws.{CanBeRecorded}
use Rattle.emerge_find.specs.Choices.{IsFound, flips_of}
use Rattle.emerge_find.specs.Laws.{FoundPlansAreFit, IsFit}
use Rattle.emerge_find.specs.declared.asked.Asked.{Asked}
use Rattle.emerge_find.specs.declared.found.Found.{Found}
use Rattle.run_turns.specs.Plans.{coming}
use Rattle.run_sound.specs.Ends.{ChoosesPlans, Course, Images, IsFitPlan, IsReached, RunsLeaveSoundTrees, plan_of}
use Rattle.run_sound.specs.Sound.{StaysSound}
use Rattle.run_sound.proofs.Ended.{all_ended, all_reached, wanted}
use Rattle.emerge_run.specs.Headline.{Headline, TurnsOn}
use Rattle.emerge_run.specs.Outcomes.{IsChoice, IsChosenFor, IsWantedPlan, Outcome}
use Rattle.merge_report.specs.declared.status.Status.{Status}

-- a sound tree has an opening
opening_of : (flags : List (List ℕ)) (m : Map) (ps : List Installed) → IsSoundTree flags m ps → HasOpening flags m ps
opening_of flags m ps sound = record { database = sound.database; tidy = sound.kept.tidy; consistent = sound.consistent }

-- what comes with a plan comes with a group of it
comes_with : (plan : List Group) (p : Package) → Has (coming plan) p → (g : Group) × Has plan g × Has g.additions p
comes_with [] p has = absurd has
comes_with (g ∷ gs) p has = elim (has-append_cases g.additions (coming gs) p has) [
  | inl here ↦ (g, inl refl, here)
  | inr later ↦ (let r = comes_with gs p later in (r.0, inr r.1, r.2))
]

module _ (flags : List (List ℕ)) (m : Map) (ps : List Installed) (on : TurnsOn m flags) (sound : IsSoundTree flags m ps) (asked : Asked) (found : Found) (is : IsFound m asked found) where
  -- what is found has just these flags on
  same_flags : found.implicit ≡ flags
  same_flags = one_set found.implicit flags is.inside.rising on.rising (λ q.
      ap (λ (fs : List (List ℕ)). has fs q) is.inside.implicit ∙ on.are (flips_of asked.aim) is.all.implicit is.all.candidates is.all.hidden is.are.offers q)

  -- .. and is found over these packages
  same_packages : found.packages.items ≡ ps
  same_packages =
      let back : flags ≡ is.all.implicit = sym same_flags ∙ is.inside.implicit in
      is.inside.packages ∙ is.are.only ps (subst (λ (fs : List (List ℕ)). HasOpening fs m ps) back (opening_of flags m ps sound))

  -- .. and its plan is fit in the sense of the laws
  is_plan : IsFit found → IsFitPlan flags ps found.chosen.plan
  is_plan fit =
      let plan : List Group = found.chosen.plan in
      let over = subst (λ (fs : List (List ℕ)). IsAccepted plan (packages_of fs found.packages.items)) same_flags fit.accepted in
      record {
        earlier = fit.earlier;
        accepted = subst (λ (rs : List Installed). IsAccepted plan (packages_of flags rs)) same_packages over;
        recordable = all_by_has (CanBeRecorded flags) (coming plan) (λ p there.
            let from = comes_with plan p there in
            let keeps = fit.kept from.0 p from.1 from.2 in
            subst (λ (fs : List (List ℕ)). CanBeRecorded fs p) same_flags (record { needs = keeps.needs; enabled = keeps.enabled }));
      }

chooses_plans : (fits : FoundPlansAreFit) (words : List (List ℕ)) (flags : List (List ℕ)) (m : Map) (ps : List Installed) → TurnsOn m flags → IsSoundTree flags m ps
    → ChoosesPlans flags (IsChoice words) m ps (IsWantedPlan words m ps)
chooses_plans fits words flags m ps on sound qs plan jobs (found, chosen, plan_is, are) =
    let is = chosen.ready.is in
    let same : qs ≡ ps = chosen.packages ∙ same_packages flags m ps on sound chosen.asked found is in (
      same,
      (found, subst (λ (rs : List Installed). IsChosenFor words m rs found) same chosen, plan_is),
      subst (IsFitPlan flags ps) plan_is (is_plan flags m ps on sound chosen.asked found is (fits m chosen.asked found is)),
    )

module _ (law : RunsLeaveSoundTrees) (fits : FoundPlansAreFit) (words : List (List ℕ)) (Image : Images) (back : Option (List Group)) (old new : Story) (history : List ℕ) (s : Status)
    (outcome : Outcome words Image back old new history s) (m : Map) (ps : List Installed) (flags : List (List ℕ)) (on : TurnsOn m flags) (begins : BeginsWith flags old.now m ps) where
  abbrev course : Option (Course (IsChoice words) Image old.now.holds)
  course = outcome.course

  fit : ChoosesPlans flags (IsChoice words) m ps (IsWantedPlan words m ps)
  fit = chooses_plans fits words flags m ps on begins.sound

  reached : (among : List ℕ) (c : Map) → IsReached old.now course among c → StaysSound flags ps (plan_of course) among c
  reached among c h = all_reached law flags (IsChoice words) Image old.now m ps (IsWantedPlan words m ps) fit begins course among c h

  found_of : (k : Option (Course (IsChoice words) Image old.now.holds)) → IfSome k (λ x. back ≡ Some x.plan) → (plan_of k ≡ []) ⊎ ((back ≡ Some (plan_of k)) × IsWantedPlan words m ps (plan_of k))
  found_of None same = inl refl
  found_of (Some k) same = inr (same, wanted law flags (IsChoice words) Image old.now m ps (IsWantedPlan words m ps) fit begins k)

  headline : Headline words flags m ps back old new history s
  headline = record {
    plan = plan_of course;
    found = found_of course outcome.plan;
    moments = since_weaker (IsReached old.now course []) (StaysSound flags ps (plan_of course) []) (λ c h. reached [] c h) old new outcome.moments;
    crash = λ c is. reached history c (outcome.crash c is);
    tree = λ of. all_ended law flags (IsChoice words) Image old.now m ps (IsWantedPlan words m ps) fit begins course history new.now (outcome.tree of);
  }

pub headline_of : (law : RunsLeaveSoundTrees) (fits : FoundPlansAreFit) (words : List (List ℕ)) (Image : Images) (back : Option (List Group)) (old new : Story) (history : List ℕ) (s : Status)
    → Outcome words Image back old new history s → (m : Map) (ps : List Installed) (flags : List (List ℕ)) → TurnsOn m flags → BeginsWith flags old.now m ps → Headline words flags m ps back old new history s
headline_of law fits words Image back old new history s outcome m ps flags on begins = headline law fits words Image back old new history s outcome m ps flags on begins
