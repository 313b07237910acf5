-- The paths of a group while they are changed, kind by kind.
use Rattle.std.proofs.Common.{◌≡◌, ◌<◌, ◌∙◌, ℕ, suc, Bool, true, false, ap, length, refl}
use Rattle.merge_journal.specs.Group.{Group}
use Rattle.merge_core.specs.Core.{standing_in}
use Rattle.merge_core.specs.Event.{PlacePath, RemovePath, answered}
use Rattle.merge_core.specs.CoreValue.{CoreValue, machine_of}
use Rattle.merge_core.specs.Payloads.{IsAt}
use Rattle.merge_core.specs.Roll.{Machine, Standing}
use Rattle.merge_core.specs.Steps.{IsTaken, event_of}
use Rattle.merge_core.specs.declared.phase.Phase.TheVariants.{Open}
use Rattle.merge_core.specs.declared.step.Step.TheVariants as steps
use Rattle.merge_core.proofs.Standings.{set_here}
use Rattle.merge_site.specs.Site.{SiteValue, Adds}
use Rattle.merge_group.specs.Paths.{ChangesPaths, due_in, made_in, other_than, step_for}
use Rattle.merge_group.specs.Working.{group_in, standing_at}
use Rattle.merge_group.specs.declared.opening.PathChange.{PathChange}
use Rattle.merge_group.specs.declared.opening.PathChange.TheVariants as changes
use Rattle.merge_group.proofs.Worked.{at_after, group_kept, order_kept, standing_after, step_worked, taken_at, works_then}

-- a path that isn't changed yet may be
pub may_change : (c : PathChange) (k : CoreValue) (g : ℕ) → IsAt k g Open → made_in (standing_in k.standings g) c < due_in (standing_in k.standings g) c → IsTaken k g (step_for c)
may_change changes.Place k g at due = taken_at k g steps.PlacePath Open at refl due
may_change changes.Remove k g at due = taken_at k g steps.RemovePath Open at refl due

pub same_group : {T S : Type 0} (c : PathChange) (g : ℕ) (ok : Bool) (old new : SiteValue T S) → Adds old new (event_of g (step_for c)) ok → group_in new g ≡ group_in old g
same_group changes.Place g ok old new adds = group_kept old new (PlacePath g) ok adds refl
same_group changes.Remove g ok old new adds = group_kept old new (RemovePath g) ok adds refl

same_order : {T S : Type 0} (c : PathChange) (g : ℕ) (ok : Bool) (old new : SiteValue T S) → Adds old new (event_of g (step_for c)) ok → new.keeping.order ≡ old.keeping.order
same_order changes.Place g ok old new adds = order_kept old new (PlacePath g) ok adds refl
same_order changes.Remove g ok old new adds = order_kept old new (RemovePath g) ok adds refl

others_answered : (c : PathChange) (m : Machine) (g : ℕ) (ok : Bool) → made_in ((answered m (event_of g (step_for c)) ok).roll.standing g) (other_than c) ≡ made_in (m.roll.standing g) (other_than c)
others_answered changes.Place m g true = ap (λ (s : Standing). s.removed) (set_here m.roll g _)
others_answered changes.Place m g false = ap (λ (s : Standing). s.removed) (set_here m.roll g _)
others_answered changes.Remove m g true = ap (λ (s : Standing). s.placed) (set_here m.roll g _)
others_answered changes.Remove m g false = ap (λ (s : Standing). s.placed) (set_here m.roll g _)

-- one path more is tried, and answered so
pub one_tried : {T S : Type 0} (c : PathChange) (g : ℕ) (ok : Bool) (start old new : SiteValue T S) → ChangesPaths c g start old → IsAt old.keeping g Open → made_in (standing_at old g) c < due_in (standing_at old g) c → Adds old new (event_of g (step_for c)) ok → ChangesPaths c g start new
one_tried c g ok start old new before at due adds = record {
  works = works_then g start old new before.works (step_worked old new g (step_for c) ok (may_change c old.keeping g at due) adds);
  order = same_order c g ok old new adds ∙ before.order;
  group = same_group c g ok old new adds ∙ before.group;
  others = ap (λ (m : Machine). made_in (m.roll.standing g) (other_than c)) adds.machine ∙ (others_answered c (machine_of old.keeping) g ok ∙ before.others);
}

pub still_open : {T S : Type 0} (c : PathChange) (g : ℕ) (old new : SiteValue T S) → Adds old new (event_of g (step_for c)) true → IsAt old.keeping g Open → IsAt new.keeping g Open
still_open changes.Place g old new adds at = at_after old new g (PlacePath g) Open _ adds at.running refl (set_here (machine_of old.keeping).roll g _) at.phase
still_open changes.Remove g old new adds at = at_after old new g (RemovePath g) Open _ adds at.running refl (set_here (machine_of old.keeping).roll g _) at.phase

pub one_more : {T S : Type 0} (c : PathChange) (g : ℕ) (old new : SiteValue T S) → Adds old new (event_of g (step_for c)) true → made_in (standing_at new g) c ≡ suc (made_in (standing_at old g) c)
one_more changes.Place g old new adds = ap (λ (x : Standing). x.placed) (standing_after old new g (PlacePath g) _ adds (set_here (machine_of old.keeping).roll g _))
one_more changes.Remove g old new adds = ap (λ (x : Standing). x.removed) (standing_after old new g (RemovePath g) _ adds (set_here (machine_of old.keeping).roll g _))

-- as many are due where the group has the same paths
pub same_due : {T S : Type 0} (c : PathChange) (g : ℕ) (old new : SiteValue T S) → group_in new g ≡ group_in old g → due_in (standing_at new g) c ≡ due_in (standing_at old g) c
same_due changes.Place g old new same = ap (λ (x : Group). length x.content.placements) same
same_due changes.Remove g old new same = ap (λ (x : Group). length x.content.removals) same
