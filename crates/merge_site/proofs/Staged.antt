-- What a stage leaves of the groups and of the paths of their files.
use Rattle.std.proofs.Common.{◌≡◌, ◌<◌, ◌≤◌, ◌∷◌, ◌∙◌, ℕ, suc, Bool, true, false, List, [], Some, Result, Ok, Err, ap, refl, subst, sym, length, length-append, arith}
use Rattle.std.specs.Prelude.{OnOk, is_err, slice_get, slice_index_or}
use Rattle.file_tree.specs.ObjectValue.{ObjectValue}
use Rattle.merge_journal.specs.Group.{AreStaged}
use Rattle.merge_journal.specs.Names.{stage_path}
use Rattle.merge_record.specs.declared.record.Placement.{Placement}
use Rattle.merge_core.specs.Core.{standing_in}
use Rattle.merge_core.specs.Event.{PutStage, answered}
use Rattle.merge_core.specs.CoreValue.{CoreValue, machine_of}
use Rattle.merge_core.specs.Payloads.{with_stage}
use Rattle.merge_core.specs.Phase.{Building, Idle, Phase}
use Rattle.merge_core.specs.Roll.{Standing}
use Rattle.merge_core.proofs.Standings.{by_group}
use Rattle.merge_site.specs.declared.group.SiteGroup.{SiteGroup}
use Rattle.merge_site.specs.Site.{AreInStep, IsPossible, JobValue}
use Rattle.merge_site.specs.Staging.{HasMore, HasPast}
use Rattle.merge_site.proofs.Kept.{each_kept}
use Rattle.merge_site.proofs.Reading.{got}

-- each placement has its object
objects_count : (ps : List Placement) (os : List ObjectValue) → AreStaged ps os → length os ≡ length ps
objects_count [] [] h = refl
objects_count [] (o ∷ os) h = absurd h
objects_count (p ∷ ps) [] h = absurd h
objects_count (p ∷ ps) (o ∷ os) h = ap suc (objects_count ps os h.1)

pub staged_count_is : (k : CoreValue) (g : ℕ) → IsPossible k → length (standing_in k.standings g).objects ≡ length (standing_in k.standings g).placements
staged_count_is k g possible =
    let s = standing_in k.standings g in
    objects_count s.placements s.objects (possible.order.firm.sound.staged g)

-- what an answer that is no error says
pub made_then : {A E : Type 0} (r : Result A E) (P : Type 0) → is_err r ≡ false → OnOk r P → P
made_then (Ok a) P good h = h
made_then (Err e) P good h = absurd (cc good)

-- the groups stay in step where they have more paths
pub step_more : (k : CoreValue) (xs : List SiteGroup) (ps qs : List JobValue) → AreInStep k xs ps → HasMore ps qs → AreInStep k xs qs
step_more k xs ps qs step more = record {
  numbered = λ i q at. let p = more.each i q at in p.2 ∙ step.numbered i p.0 p.1;
  paths = λ i q at. let p = more.each i q at in omega (arith, step.paths i p.0 p.1, p.3);
  fresh = step.fresh;
  payloads_all = more.count ∙ step.payloads_all;
  groups_all = step.groups_all;
}

-- where the group's next stage is put
pub next_place : (xs : List SiteGroup) (ps : List JobValue) (k : CoreValue) (g : ℕ) (p : JobValue) (i : ℕ) (q : List ℕ) → AreInStep k xs ps → g < length k.standings → p ≡ slice_index_or ps g p → q ≡ stage_path p.group i → q ≡ stage_path g i
next_place xs ps k g p i q step lt there path =
    path ∙ ap (λ (n : ℕ). stage_path n i) (step.numbered g p (got ps g p (subst (λ (n : ℕ). g < n) (sym step.payloads_all) lt) there))

-- what holds of the group's standing behind a stage and of each other one holds of each
each_staged : (k k' : CoreValue) (g : ℕ) (p : Placement) (o : ObjectValue) (ok : Bool) (P : ℕ → Standing → Type 0) → machine_of k' ≡ answered (machine_of k) (PutStage g p o) ok → P g (with_stage ok k.syncs p o (standing_in k.standings g))
    → ((h : ℕ) → (h ≡ g → ⊥) → P h (standing_in k.standings h)) → (h : ℕ) → P h (standing_in k'.standings h)
each_staged k k' g p o ok P goes here there = each_kept k k' (PutStage g p o) ok P goes (each ok here) where
  each : (b : Bool) → P g (with_stage b k.syncs p o (standing_in k.standings g)) → (h : ℕ) → P h ((answered (machine_of k) (PutStage g p o) b).roll.standing h)
  each true now = by_group P (machine_of k).roll g (with_stage true k.syncs p o (standing_in k.standings g)) now there
  each false now = by_group P (machine_of k).roll g (with_stage false k.syncs p o (standing_in k.standings g)) now there

staged_phase : (ok : Bool) (n : ℕ) (p : Placement) (o : ObjectValue) (x : Standing) → (with_stage ok n p o x).phase ≡ x.phase
staged_phase true n p o x = refl
staged_phase false n p o x = refl

staged_length : (ok : Bool) (n : ℕ) (p : Placement) (o : ObjectValue) (x : Standing) → length (with_stage ok n p o x).placements ≤ suc (length x.placements)
staged_length true n p o x = let one = length-append x.placements (p ∷ []) in omega (arith, one)
staged_length false n p o x = omega arith

building_not_idle : (x : Phase) → x ≡ Building → x ≡ Idle → ⊥
building_not_idle x building rests = absurd (cc (sym building ∙ rests))

-- the groups stay in step with a group that staged, where its paths go beyond what it had staged
pub step_staged : (k k' : CoreValue) (xs : List SiteGroup) (ps : List JobValue) (g : ℕ) (p : Placement) (o : ObjectValue) (ok : Bool) → AreInStep k xs ps → IsPossible k → machine_of k' ≡ answered (machine_of k) (PutStage g p o) ok
    → (standing_in k.standings g).phase ≡ Building → HasPast ps g (length (standing_in k.standings g).objects) → length k'.standings ≡ length k.standings → AreInStep k' xs ps
step_staged k k' xs ps g p o ok step possible goes building past groups =
    let s = standing_in k.standings g in
    let count = staged_count_is k g possible in
    let size = staged_length ok k.syncs p o s in
    record {
      numbered = step.numbered;
      paths = λ i q at. each_staged k k' g p o ok (λ h x. (y : JobValue) → slice_get ps h ≡ Some y → length x.placements ≤ y.staged) goes
          (λ y there. omega (arith, count, size, past y there)) (λ h other. step.paths h) i q at;
      fresh = each_staged k k' g p o ok (λ h x. x.phase ≡ Idle → x.placements ≡ []) goes
          (λ rests. absurd (building_not_idle s.phase building (sym (staged_phase ok k.syncs p o s) ∙ rests))) (λ h other. step.fresh h);
      payloads_all = step.payloads_all ∙ sym groups;
      groups_all = step.groups_all ∙ sym groups;
    }
