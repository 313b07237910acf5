-- One event more keeps what a site promises.
use Rattle.std.proofs.Common.{◌≡◌, ◌<◌, ◌++◌, ◌∷◌, ◌^◌, ◌∙◌, ℕ, Bool, false, true, List, [], ap, inl, refl, subst, sym, length, arith}
use Rattle.std.specs.Prelude.{IsTrue}
use Rattle.file_tree.specs.Disk.{Story, next, settled, write}
use Rattle.file_tree.specs.ObjectValue.{ObjectValue}
use Rattle.merge_core.specs.Event.{Admits, Answers, Asks, Call, Event, MayFollow, Nothing, Sync, answered, call}
use Rattle.merge_core.specs.CoreValue.{CoreValue, machine_of}
use Rattle.merge_core.specs.Order.{IsInOrder}
use Rattle.merge_core.specs.Roll.{Machine, Standing, RecoversCommitted, idle}
use Rattle.merge_core.specs.Event.{begun}
use Rattle.file_tree.specs.Moments.{Since}
use Rattle.merge_core.specs.Site.{Performs}
use Rattle.merge_core.specs.Steps.{IsTaken, event_of}
use Rattle.merge_core.specs.declared.step.Step.{Step}
use Rattle.merge_core.specs.declared.step.Step.TheVariants as steps
use Rattle.merge_core.specs.Trail.{Entry, machine_after}
use Rattle.merge_core.proofs.Trails.{each_event_keeps, machine_on, trail_on}
use Rattle.merge_site.specs.declared.group.SiteGroup.{SiteGroup}
use Rattle.merge_core.specs.Core.{standing_in}
use Rattle.merge_site.proofs.Placed.{IsPlacedAs, placed_same}
use Rattle.merge_site.specs.Site.{AreFresh, AreInStep, HavePaths, IsHeld, IsSiteInOrder, IsPossible, JobValue, is_stage}

-- a step that is taken is one that the machine admits
pub taken_admits : (k : CoreValue) (g : ℕ) (s : Step) → g < 2 ^ 32 → IsTaken k g s → Admits (machine_of k) (event_of g s)
taken_admits k g steps.Begin small h = (small, h.phase)
taken_admits k g steps.PutToken small h = h.phase
taken_admits k g steps.SyncSealed small h = h.phase
taken_admits k g steps.OpenGate small h = h.phase
taken_admits k g steps.SyncGate small h = h.phase
taken_admits k g steps.PlacePath small h = (h.phase, h.due)
taken_admits k g steps.RemovePath small h = (h.phase, h.due)
taken_admits k g steps.SyncPlaced small h = (h.phase, h.due.0, h.due.1)
taken_admits k g steps.CloseGate small h = h.phase
taken_admits k g steps.SyncClosed small h = h.phase
taken_admits k g steps.Acknowledge small h = h.phase
taken_admits k g steps.Abandon small h = h.phase

-- the event was performed, so what is held goes on
pub held_on : (k k' : CoreValue) (es : List Entry) (start old new : Story) (e : Event) (ok : Bool) → machine_after idle es ≡ machine_of k → IsHeld k es start old
    → MayFollow (machine_of k) e → Admits (machine_of k) e → Performs (machine_of k) e ok old new → machine_of k' ≡ answered (machine_of k) e ok
    → IsHeld k' (es ++ (e, ok) ∷ []) start new
held_on k k' es start old new e ok leads held may admits performs goes =
    let step = performs start.now.holds held.order may admits in
    record {
      order = subst (λ (x : Machine). IsInOrder start.now.holds x new.now) (sym goes) step.0;
      trail = trail_on start.now.holds idle start old new es e ok held.trail (subst (λ (m : Machine). Since (RecoversCommitted start.now.holds (begun m e).roll) old new) (sym leads) step.1);
    }

-- what a device could have done
could : (c : Call) (ok : Bool) (old : Story) → (new : Story) × Answers c ok old new
could Nothing ok old = (old, refl)
could (Asks p x) true old = (next old (write old.now p x), refl)
could (Asks p x) false old = (old, inl refl)
could Sync true old = (next old (settled old.now), refl)
could Sync false old = (old, inl refl)

-- some disk stays in order
possible_on : (k k' : CoreValue) (e : Event) (ok : Bool) → IsPossible k → MayFollow (machine_of k) e → Admits (machine_of k) e → machine_of k' ≡ answered (machine_of k) e ok → IsPossible k'
possible_on k k' e ok possible may admits goes =
    let old : Story = record { past = []; now = possible.disk } in
    let new = could (call (machine_of k) possible.disk.holds e) ok old in
    let step = each_event_keeps possible.opening (machine_of k) e old new.0 ok possible.order may admits new.1 in
    record {
      opening = possible.opening;
      disk = new.0.now;
      order = subst (λ (x : Machine). IsInOrder possible.opening x new.0.now) (sym goes) step.0;
    }

-- so does all that a site promises, where its groups stay in step
pub kept_by : (tells : Bool) (k k' : CoreValue) (es es' : List Entry) (xs : List SiteGroup) (ps ps' : List JobValue) (start old new : Story) (mark : ObjectValue) (e : Event) (ok : Bool)
    → IsSiteInOrder tells k es xs ps start old mark → MayFollow (machine_of k) e → Admits (machine_of k) e → (IsTrue tells → Performs (machine_of k) e ok old new)
    → machine_of k' ≡ answered (machine_of k) e ok → es' ≡ es ++ (e, ok) ∷ [] → AreInStep k' xs ps' → IsSiteInOrder tells k' es' xs ps' start new mark
kept_by tells k k' es es' xs ps ps' start old new mark e ok kept may admits performs goes log step =
    subst (λ (l : List Entry). IsSiteInOrder tells k' l xs ps' start new mark) (sym log) (record {
      leads = machine_on idle es e ok ∙ (ap (λ (m : Machine). answered m e ok) kept.leads ∙ sym goes);
      step = step;
      is_token = kept.is_token;
      possible = possible_on k k' e ok kept.possible may admits goes;
      held = λ t. held_on k k' es start old new e ok kept.leads (kept.held t) may admits (performs t) goes;
    })

-- what holds of each standing behind the event holds of each that is kept
pub each_kept : (k k' : CoreValue) (e : Event) (ok : Bool) (P : ℕ → Standing → Type 0) → machine_of k' ≡ answered (machine_of k) e ok → ((i : ℕ) → P i ((answered (machine_of k) e ok).roll.standing i)) → (i : ℕ) → P i (standing_in k'.standings i)
each_kept k k' e ok P goes each i = subst (λ (m : Machine). P i (m.roll.standing i)) (sym goes) (each i)

fresh_on : (k k' : CoreValue) (e : Event) (ok : Bool) → is_stage e ≡ false → Admits (machine_of k) e → machine_of k' ≡ answered (machine_of k) e ok → AreFresh k → AreFresh k'
fresh_on k k' e ok none admits goes fresh i =
    let placed = each_kept k k' e ok (IsPlacedAs (machine_of k).roll) goes (placed_same (machine_of k) fresh e ok admits none) i in
    placed.1

paths_on : (k k' : CoreValue) (ps : List JobValue) (e : Event) (ok : Bool) → is_stage e ≡ false → Admits (machine_of k) e → machine_of k' ≡ answered (machine_of k) e ok → AreFresh k → HavePaths k ps → HavePaths k' ps
paths_on k k' ps e ok none admits goes fresh paths i p at =
    let placed = each_kept k k' e ok (IsPlacedAs (machine_of k).roll) goes (placed_same (machine_of k) fresh e ok admits none) i in
    omega (arith, ap length placed.0, paths i p at)

-- an event that stages nothing
pub kept_on : (tells : Bool) (k k' : CoreValue) (es es' : List Entry) (xs : List SiteGroup) (ps : List JobValue) (start old new : Story) (mark : ObjectValue) (e : Event) (ok : Bool)
    → is_stage e ≡ false → IsSiteInOrder tells k es xs ps start old mark → MayFollow (machine_of k) e → Admits (machine_of k) e
    → (IsTrue tells → Performs (machine_of k) e ok old new) → machine_of k' ≡ answered (machine_of k) e ok → length k'.standings ≡ length k.standings → es' ≡ es ++ (e, ok) ∷ []
    → IsSiteInOrder tells k' es' xs ps start new mark
kept_on tells k k' es es' xs ps start old new mark e ok none kept may admits performs goes groups log =
    kept_by tells k k' es es' xs ps ps start old new mark e ok kept may admits performs goes log (record {
      numbered = kept.step.numbered;
      paths = paths_on k k' ps e ok none admits goes kept.step.fresh kept.step.paths;
      fresh = fresh_on k k' e ok none admits goes kept.step.fresh;
      payloads_all = kept.step.payloads_all ∙ sym groups;
      groups_all = kept.step.groups_all ∙ sym groups;
    })

pub no_stage : (g : ℕ) (s : Step) → is_stage (event_of g s) ≡ false
no_stage g steps.Begin = refl
no_stage g steps.PutToken = refl
no_stage g steps.SyncSealed = refl
no_stage g steps.OpenGate = refl
no_stage g steps.SyncGate = refl
no_stage g steps.PlacePath = refl
no_stage g steps.RemovePath = refl
no_stage g steps.SyncPlaced = refl
no_stage g steps.CloseGate = refl
no_stage g steps.SyncClosed = refl
no_stage g steps.Acknowledge = refl
no_stage g steps.Abandon = refl

-- a step of a group
pub kept_step : (tells : Bool) (k k' : CoreValue) (es es' : List Entry) (xs : List SiteGroup) (ps : List JobValue) (start old new : Story) (mark : ObjectValue) (g : ℕ) (s : Step) (ok : Bool)
    → g < 2 ^ 32 → IsSiteInOrder tells k es xs ps start old mark → IsTaken k g s → (IsTrue tells → Performs (machine_of k) (event_of g s) ok old new)
    → machine_of k' ≡ answered (machine_of k) (event_of g s) ok → length k'.standings ≡ length k.standings → es' ≡ es ++ (event_of g s, ok) ∷ []
    → IsSiteInOrder tells k' es' xs ps start new mark
kept_step tells k k' es es' xs ps start old new mark g s ok small kept taken performs goes groups log =
    kept_on tells k k' es es' xs ps start old new mark (event_of g s) ok (no_stage g s) kept taken.comes.1 (taken_admits k g s small taken) performs goes groups log
