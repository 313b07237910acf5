-- A machine no group of which has its gate open, over a disk in order.
use Rattle.std.proofs.Common.{◌≡◌, ℕ, true, Option, Some, None, Result, Ok, Err, refl, ap}
use Rattle.std.specs.Prelude.{IfErr, IsErrOf, OnOk}
use Rattle.file_tree.specs.Disk.{Disk, Map}
use Rattle.file_tree.specs.ObjectValue.{ObjectValue}
use Rattle.merge_journal.specs.Names.{gate_path}
use Rattle.merge_core.specs.Order.{IsInOrder}
use Rattle.merge_core.specs.Phase.{Phase, Idle, Building, Recorded, Marked, Sealed, Claimed, GatePut, Open, Placed, GateTaken, Done, Told, Abandoned, Redo, Redone, Odd, Emptied, gate_owed, is_working, may_end}
use Rattle.merge_core.specs.Roll.{Machine, phase_at, stood}
use Rattle.merge_core.specs.Payloads.{IsAt}
use Rattle.merge_core.specs.declared.phase.Phase.TheVariants as phases
use Rattle.merge_site.specs.Site.{SiteValue}
use Rattle.merge_core.proofs.Words.{gate_kept, tree_kept}
use Rattle.recovery.specs.Phases.{IsShut}
use Rattle.file_tree.specs.declared.fault.TreeFault.TheVariants as trees
use Rattle.merge_group.specs.Working.{is_shut, standing_at}
use Rattle.merge_group.specs.declared.stop.Stop.{Stop}
use Rattle.merge_group.specs.declared.stop.Stop.TheVariants as stops

pub shut_owed : (found : Option ObjectValue) (p : Phase) → is_shut p ≡ true → gate_owed found p ≡ Some None
shut_owed found Idle e = refl
shut_owed found Building e = refl
shut_owed found Recorded e = refl
shut_owed found Marked e = refl
shut_owed found Sealed e = refl
shut_owed found Claimed e = refl
shut_owed found GatePut e = absurd (cc e)
shut_owed found Open e = absurd (cc e)
shut_owed found Placed e = absurd (cc e)
shut_owed found GateTaken e = absurd (cc e)
shut_owed found Done e = refl
shut_owed found Told e = refl
shut_owed found Abandoned e = refl
shut_owed found Redo e = absurd (cc e)
shut_owed found Redone e = absurd (cc e)
shut_owed found Odd e = absurd (cc e)
shut_owed found Emptied e = absurd (cc e)

shut_rests : (p : Phase) → is_shut p ≡ true → is_working p ≡ true → ⊥
shut_rests Idle e w = cc w
shut_rests Building e w = cc w
shut_rests Recorded e w = cc w
shut_rests Marked e w = cc w
shut_rests Sealed e w = cc w
shut_rests Claimed e w = cc w
shut_rests GatePut e w = cc w
shut_rests Open e w = cc e
shut_rests Placed e w = cc w
shut_rests GateTaken e w = cc w
shut_rests Done e w = cc w
shut_rests Told e w = cc w
shut_rests Abandoned e w = cc w
shut_rests Redo e w = cc e
shut_rests Redone e w = cc w
shut_rests Odd e w = cc w
shut_rests Emptied e w = cc w

-- a group that may end has its gate shut
pub ends_shut : (p : Phase) → may_end p ≡ true → is_shut p ≡ true
ends_shut Idle e = refl
ends_shut Building e = refl
ends_shut Recorded e = refl
ends_shut Marked e = refl
ends_shut Sealed e = refl
ends_shut Claimed e = refl
ends_shut GatePut e = absurd (cc e)
ends_shut Open e = absurd (cc e)
ends_shut Placed e = absurd (cc e)
ends_shut GateTaken e = absurd (cc e)
ends_shut Done e = refl
ends_shut Told e = refl
ends_shut Abandoned e = refl
ends_shut Redo e = absurd (cc e)
ends_shut Redone e = absurd (cc e)
ends_shut Odd e = absurd (cc e)
ends_shut Emptied e = absurd (cc e)

pub shut_if_over : (opening : Map) (m : Machine) (d : Disk) → IsInOrder opening m d → ((g : ℕ) → is_shut (phase_at m.roll g) ≡ true) → IsShut (stood opening m.roll) d
shut_if_over opening m d order over = record {
  outside = λ q out. tree_kept opening m d order q out (λ g w. absurd (shut_rests (phase_at m.roll g) (over g) w));
  gates = λ h small. gate_kept opening m d order h None small (shut_owed (opening (gate_path h)) (phase_at m.roll h) (over h));
}

pub ok_if : {A E P : Type 0} (r : Result A E) → P → OnOk r P
ok_if (Ok a) p = p
ok_if (Err e) p = tt

-- a group that is done has its gate shut, where nothing but the device could fail
pub done_shut : {A T S : Type 0} (r : Result A Stop) (a : SiteValue T S) (g : ℕ) → (IsErrOf r (stops.Tree trees.Failed) → ⊥) → IfErr r (λ e. e ≡ stops.Tree trees.Failed) → OnOk r (IsAt a.keeping g phases.Done) → is_shut (standing_at a g).phase ≡ true
done_shut (Ok x) a g healthy only at = ap is_shut at.phase
done_shut (Err e) a g healthy only at = absurd (healthy (ap Err only))
