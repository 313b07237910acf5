-- A stage of a group that is being built, by what its call answered.
use Rattle.std.proofs.Common.{◌≡◌, ◌++◌, ℕ, Bool, true, false, List, [], ◌∷◌, Result, Ok, Err, refl, sym, ap, ◌∙◌, map}
use Rattle.std.specs.Prelude.{IsErrOf, OnErr, OnOk, is_ok}
use Rattle.std.proofs.lemmas.List.{map-append}
use Rattle.file_tree.specs.declared.objects.Entry.{Entry}
use Rattle.merge_core.specs.Event.{Claim, Event, PutRecord, PutStage, PutToken}
use Rattle.merge_core.specs.Core.{standing_in}
use Rattle.merge_core.specs.CoreValue.{machine_of}
use Rattle.merge_core.specs.Payloads.{IsAt}
use Rattle.merge_core.specs.Phase.{may_end, was_opened}
use Rattle.merge_core.specs.Roll.{Standing, group_of}
use Rattle.merge_core.specs.declared.phase.Phase.TheVariants as phases
use Rattle.merge_core.proofs.Standings.{set_here}
use Rattle.merge_site.specs.Booking.{with_wish}
use Rattle.merge_site.specs.Site.{SiteValue, Adds, KeepsHistory, is_stage}
use Rattle.owner_book.specs.declared.wish.Wish.{Wish}
use Rattle.merge_site.specs.Staging.{placement_of}
use Rattle.file_tree.specs.ObjectValue.{ObjectValue}
use Rattle.file_tree.specs.declared.fault.TreeFault.{TreeFault}
use Rattle.file_tree.specs.declared.fault.TreeFault.TheVariants as trees
use Rattle.merge_record.specs.declared.record.Placement.{Placement}
use Rattle.merge_site.specs.declared.fault.ClaimStop.{ClaimStop}
use Rattle.merge_site.specs.declared.fault.SiteFault.{SiteFault}
use Rattle.merge_site.specs.declared.fault.SiteFault.TheVariants as sites
use Rattle.merge_site.specs.declared.fault.StageFault.{StageFault}
use Rattle.merge_site.specs.declared.fault.StageFault.TheVariants as faults
use Rattle.merge_group.specs.Working.{Changes, Claims, HasStaged, IsInTurn, Works, changing, group_in, group_of_event, is_shut, object_of, standing_at}
use Rattle.merge_group.proofs.Worked.{at_after, early_on, group_kept, is_early, order_kept, settles, standing_after, worked, worked_failed, worked_stage, works_same}

-- what holds of a group behind a call that may have been its event
pub record Early {T S : Type 0} (g : ℕ) (old new : SiteValue T S) : Type 0 where
  pub works : Works g old new
  pub order : new.keeping.order ≡ old.keeping.order
  pub early : may_end (standing_at new g).phase ≡ true

early_by : {T S : Type 0} (old new : SiteValue T S) (e : Event) (ok : Bool) → IsInTurn (machine_of old.keeping) e → is_early e ≡ true → settles e ≡ false → Adds old new e ok → Works (group_of_event e) old new → Early (group_of_event e) old new
early_by old new e ok turn early settled adds works = record {
  works = works;
  order = order_kept old new e ok adds settled;
  early = early_on old new e ok adds turn early;
}

pub early_event : {T S : Type 0} (old new : SiteValue T S) (e : Event) (ok : Bool) → IsInTurn (machine_of old.keeping) e → is_early e ≡ true → settles e ≡ false → is_stage e ≡ false → Adds old new e ok → Early (group_of_event e) old new
early_event old new e ok turn early settled other adds = early_by old new e ok turn early settled adds (worked old new e ok adds turn other)

pub early_same : {T S : Type 0} (old new : SiteValue T S) (g : ℕ) → may_end (standing_at old g).phase ≡ true → KeepsHistory old new → Early g old new
early_same old new g early kept = record {
  works = works_same g old new kept;
  order = ap (λ k. k.order) kept.keeping;
  early = ap (λ k. may_end (standing_in k.standings g).phase) kept.keeping ∙ early;
}

pub early_stage : {A T S : Type 0} (r : Result A StageFault) (old new : SiteValue T S) (f : Entry) (w : Wish) (g : ℕ) → IsAt old.keeping g phases.Building → OnOk r (Adds old new (PutStage g (placement_of f) f.object) true)
    → (IsErrOf r (faults.Tree trees.Failed) → Adds old new (PutStage g (placement_of f) f.object) false) → (¬ IsErrOf r (faults.Tree trees.Failed) → OnErr r (KeepsHistory old new)) → OnOk r (new.wishes ≡ with_wish old.wishes g w) → OnErr r (new.wishes ≡ old.wishes) → Early g old new
early_stage (Ok a) old new f w g at adds failed kept more same =
    early_by old new (PutStage g (placement_of f) f.object) true at.phase refl refl adds (worked_stage old new g (placement_of f) f.object w adds at.phase more)
early_stage (Err (faults.Tree trees.Failed)) old new f w g at adds failed kept more same =
    early_by old new (PutStage g (placement_of f) f.object) false at.phase refl refl (failed refl) (worked_failed old new g (placement_of f) f.object (failed refl) at.phase same)
early_stage (Err (faults.Image bad)) old new f w g at adds failed kept more same = early_same old new g (ap may_end at.phase) (kept (λ e. cc e))
early_stage (Err faults.Limit) old new f w g at adds failed kept more same = early_same old new g (ap may_end at.phase) (kept (λ e. cc e))
early_stage (Err (faults.Tree trees.Memory)) old new f w g at adds failed kept more same = early_same old new g (ap may_end at.phase) (kept (λ e. cc e))

-- the record of a group that is being built
pub early_record : {A T S : Type 0} (r : Result A SiteFault) (old new : SiteValue T S) (g : ℕ) (removals : List (List ℕ)) → IsAt old.keeping g phases.Building → OnOk r (Adds old new (PutRecord g removals) true)
    → (IsErrOf r (sites.Tree trees.Failed) → Adds old new (PutRecord g removals) false) → ((IsErrOf r (sites.Tree trees.Failed) → ⊥) → OnErr r (KeepsHistory old new)) → Early g old new
early_record (Ok a) old new g removals at adds failed kept = early_event old new (PutRecord g removals) true at.phase refl refl refl adds
early_record (Err (sites.Tree trees.Failed)) old new g removals at adds failed kept = early_event old new (PutRecord g removals) false at.phase refl refl refl (failed refl)
early_record (Err sites.Limit) old new g removals at adds failed kept = early_same old new g (ap may_end at.phase) (kept (λ e. cc e))
early_record (Err (sites.Tree trees.Memory)) old new g removals at adds failed kept = early_same old new g (ap may_end at.phase) (kept (λ e. cc e))

-- the group that has its record
pub recorded_is : {T S : Type 0} (old new : SiteValue T S) (c : Changes) (g : ℕ) (removals : List (List ℕ)) → removals ≡ c.removals → HasStaged c.files (standing_at old g) → Adds old new (PutRecord g removals) true → group_in new g ≡ changing g c
recorded_is old new c g removals is has adds =
    let s = standing_after old new g (PutRecord g removals) _ adds (set_here (machine_of old.keeping).roll g _) in
    ap (group_of g) s
    ∙ (ap (λ (l : List (List ℕ)). record { content = record { group = g; removals = l; placements = (standing_at old g).placements }; objects = (standing_at old g).objects }) is
    ∙ (ap (λ (l : List Placement). record { content = record { group = g; removals = c.removals; placements = l }; objects = (standing_at old g).objects }) has.placements
    ∙ ap (λ (l : List ObjectValue). record { content = record { group = g; removals = c.removals; placements = map placement_of c.files }; objects = l }) has.objects))

-- the token of a group that has its record, and the group as it was
pub record EarlyKept {T S : Type 0} (g : ℕ) (old new : SiteValue T S) : Type 0 where
  pub early : Early g old new
  pub group : group_in new g ≡ group_in old g

pub early_token : {A T S : Type 0} (r : Result A TreeFault) (old new : SiteValue T S) (g : ℕ) → IsAt old.keeping g phases.Recorded → ((IsErrOf r trees.Memory → ⊥) → Adds old new (PutToken g) (is_ok r)) → (IsErrOf r trees.Memory → KeepsHistory old new) → EarlyKept g old new
early_token (Ok a) old new g at adds kept = let e = adds (λ x. cc x) in record { early = early_event old new (PutToken g) true at.phase refl refl refl e; group = group_kept old new (PutToken g) true e refl }
early_token (Err trees.Failed) old new g at adds kept = let e = adds (λ x. cc x) in record { early = early_event old new (PutToken g) false at.phase refl refl refl e; group = group_kept old new (PutToken g) false e refl }
early_token (Err trees.Memory) old new g at adds kept = let k = kept refl in record { early = early_same old new g (ap may_end at.phase) k; group = ap (λ x. group_of g (standing_in x.standings g)) k.keeping }

pub claims_on : {A T S : Type 0} (r : Result A ClaimStop) (old new : SiteValue T S) (g : ℕ) → IsAt old.keeping g phases.Sealed → OnOk r (Adds old new (Claim g) true) → OnErr r (KeepsHistory old new) → Claims g old new
claims_on (Ok a) old new g at adds kept =
    let s = standing_after old new g (Claim g) _ adds (set_here (machine_of old.keeping).roll g _) in
    record {
      works = worked old new (Claim g) true adds at.phase refl;
      order = order_kept old new (Claim g) true adds refl;
      group = group_kept old new (Claim g) true adds refl;
      shut = ap (λ (x : Standing). is_shut x.phase) s;
      unopened = ap (λ (x : Standing). was_opened x.phase) s;
    }
claims_on (Err e) old new g at adds kept = record {
  works = works_same g old new kept;
  order = ap (λ k. k.order) kept.keeping;
  group = ap (λ k. group_of g (standing_in k.standings g)) kept.keeping;
  shut = ap (λ k. is_shut (standing_in k.standings g).phase) kept.keeping ∙ ap is_shut at.phase;
  unopened = ap (λ k. was_opened (standing_in k.standings g).phase) kept.keeping ∙ ap was_opened at.phase;
}

-- one more file is staged
pub staged_on : {T S : Type 0} (old new : SiteValue T S) (files : List Entry) (f : Entry) (g : ℕ) → HasStaged files (standing_at old g) → Adds old new (PutStage g (placement_of f) f.object) true → HasStaged (files ++ f ∷ []) (standing_at new g)
staged_on old new files f g has adds =
    let s = standing_after old new g (PutStage g (placement_of f) f.object) _ adds (set_here (machine_of old.keeping).roll g _) in
    record {
      removals = ap (λ (x : Standing). x.removals) s ∙ has.removals;
      placements = ap (λ (x : Standing). x.placements) s ∙ (ap (λ l. l ++ placement_of f ∷ []) has.placements ∙ sym (map-append placement_of files (f ∷ [])));
      objects = ap (λ (x : Standing). x.objects) s ∙ (ap (λ l. l ++ f.object ∷ []) has.objects ∙ sym (map-append object_of files (f ∷ [])));
    }

pub building_on : {T S : Type 0} (old new : SiteValue T S) (f : Entry) (g : ℕ) → IsAt old.keeping g phases.Building → Adds old new (PutStage g (placement_of f) f.object) true → IsAt new.keeping g phases.Building
building_on old new f g at adds =
    at_after old new g (PutStage g (placement_of f) f.object) phases.Building _ adds at.running refl (set_here (machine_of old.keeping).roll g _) at.phase
