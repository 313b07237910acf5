-- The run of a group once its journal is cleared.
use Rattle.std.proofs.Common.{◌≡◌, ◌⊎◌, ℕ, List, [], Result, Ok, Err, inl, inr, refl, sym, subst, map}
use Rattle.std.specs.Prelude.{IsErrOf}
use Rattle.basics.specs.Members.{Has}
use Rattle.file_tree.specs.Disk.{Disk, IsUntouched, Map, Story}
use Rattle.file_tree.specs.Moments.{Leaves, Since}
use Rattle.file_tree.proofs.Moments.{since_same, since_start, since_then, since_weaker}
use Rattle.file_tree.specs.declared.fault.TreeFault.TheVariants as trees
use Rattle.merge_journal.specs.Group.{Group, applied, with_groups}
use Rattle.merge_core.specs.Trail.{IsAtRest}
use Rattle.merge_journal.specs.Names.{gate_path}
use Rattle.merge_journal.specs.Names.Part.{Gate}
use Rattle.merge_core.proofs.Paths.{file_below}
use Rattle.recovery.proofs.Shut.{shut_leaves}
use Rattle.recovery.specs.Phases.{IsShut, cleared}
use Rattle.recovery.specs.Promise.{RecoversTo}
use Rattle.merge_group.specs.Applied.{AreOf, RecoversWith, number}
use Rattle.merge_group.specs.Went.{DroveWith, Went, WentWith}
use Rattle.merge_group.specs.declared.stop.Stop.{Stop}
use Rattle.merge_group.specs.declared.stop.Stop.TheVariants as stops

device_or_not : {A : Type 0} (r : Result A Stop) → (IsErrOf r (stops.Tree trees.Failed)) ⊎ (IsErrOf r (stops.Tree trees.Failed) → ⊥)
device_or_not (Ok a) = inr (λ e. cc e)
device_or_not (Err (stops.Tree trees.Failed)) = inl refl
device_or_not (Err (stops.Tree trees.Memory)) = inr (λ e. cc e)
device_or_not (Err stops.Output) = inr (λ e. cc e)
device_or_not (Err (stops.Image b)) = inr (λ e. cc e)
device_or_not (Err (stops.Claim s)) = inr (λ e. cc e)
device_or_not (Err stops.Limit) = inr (λ e. cc e)

recovers_of : (Run : List Group → Type 0) (m : Map) (groups : List Group) (among history : List ℕ) (c : Map) → Run groups → map number groups ≡ history → ((n : ℕ) → Has among n → Has history n) → RecoversTo c (applied m groups) → RecoversWith Run m among c
recovers_of Run m groups among history c of are within is = record { groups = groups; of = of; has = λ n there. subst (λ (l : List ℕ). Has l n) (sym are) (within n there); is = is }

pub went : {A : Type 0} (Run : List Group → Type 0) (old mid new : Story) (history : List ℕ) (end end' : Result A Stop) → DroveWith Run old mid history end
    → (IsErrOf end (stops.Tree trees.Failed) → new ≡ mid) → (IsErrOf end (stops.Tree trees.Failed) → IsErrOf end' (stops.Tree trees.Failed))
    → ((IsErrOf end (stops.Tree trees.Failed) → ⊥) → (m : Map) → IsShut m mid.now → Since (λ c. RecoversTo c (cleared m)) mid new)
    → ((IsErrOf end' (stops.Tree trees.Failed) → ⊥) → (IsErrOf end' (stops.Tree trees.Memory) → ⊥) → (m : Map) → IsShut m mid.now → (q : List ℕ) → new.now.holds q ≡ cleared m q)
    → ((IsErrOf end' (stops.Tree trees.Failed) → ⊥) → (IsErrOf end' (stops.Tree trees.Memory) → ⊥) → IsUntouched new.now)
    → WentWith Run old new history end'
went Run old mid new history end end' d same stays clears reads settled = elim (device_or_not end) [
  | inl failed ↦ record {
    moments = subst (λ (s : Story). Since (RecoversWith Run old.now.holds []) old s) (sym (same failed)) d.moments;
    crash = subst (λ (s : Story). Leaves (RecoversWith Run old.now.holds history) s.now) (sym (same failed)) d.crash;
    left = λ healthy. absurd (healthy (stays failed));
    tree = λ healthy fed. absurd (healthy (stays failed));
  }
  | inr healthy ↦ (
      let k = d.shut healthy in
      let since = clears healthy (λ q. with_groups k.0 q (old.now.holds q)) k.2.1 in
      record {
        moments = since_then (RecoversWith Run old.now.holds []) old mid new d.moments
            (since_weaker (λ c. RecoversTo c (applied old.now.holds k.0)) (RecoversWith Run old.now.holds []) (λ c is. recovers_of Run old.now.holds k.0 [] history c k.1 k.2.0 (λ n none. absurd none) is) mid new since);
        crash = λ c image. recovers_of Run old.now.holds k.0 history history c k.1 k.2.0 (λ n there. there) (since.now c image);
        left = λ well. record { groups = k.0; of = k.1; are = k.2.0; each = since.now };
        tree = λ well fed. record { groups = k.0; of = k.1; are = k.2.0; reads = reads well fed (λ q. with_groups k.0 q (old.now.holds q)) k.2.1; untouched = settled well fed };
      })
]

rest_shut : (d : Disk) → IsAtRest d.holds d → IsShut d.holds d
rest_shut d rest = record {
  outside = λ q out. record { untouched = rest.untouched q; reads = refl };
  gates = λ h small. record { untouched = rest.untouched (gate_path h); reads = rest.empty (gate_path h) (file_below h Gate) };
}

-- a run that never began
pub nowhere : {A : Type 0} (Run : List Group → Type 0) (old new : Story) (history : List ℕ) (end : Result A Stop) → Run [] → IsAtRest old.now.holds old.now → new ≡ old → history ≡ [] → end ≡ Err (stops.Tree trees.Memory) → WentWith Run old new history end
nowhere Run old new history end of rest same none is =
    let each = shut_leaves old.now.holds old.now (rest_shut old.now rest) in
    let stands : (among : List ℕ) → ((n : ℕ) → Has among n → Has history n) → Leaves (RecoversWith Run old.now.holds among) old.now =
    λ among within c image. recovers_of Run old.now.holds [] among history c of (sym none) within (each c image) in
    record {
      moments = since_same (RecoversWith Run old.now.holds []) old old new (since_start (RecoversWith Run old.now.holds []) old (stands [] (λ n there. absurd there))) same;
      crash = subst (λ (s : Story). Leaves (RecoversWith Run old.now.holds history) s.now) (sym same) (stands history (λ n there. there));
      left = λ well. record { groups = []; of = of; are = sym none; each = subst (λ (s : Story). Leaves (λ c. RecoversTo c (applied old.now.holds [])) s.now) (sym same) each };
      tree = λ well fed. absurd (fed is);
    }

pub went_nowhere : {A : Type 0} (Of : Group → Type 0) (old new : Story) (history : List ℕ) (end : Result A Stop) → IsAtRest old.now.holds old.now → new ≡ old → history ≡ [] → end ≡ Err (stops.Tree trees.Memory) → Went Of old new history end
went_nowhere Of old new history end = nowhere (AreOf Of) old new history end (λ x there. absurd there)
