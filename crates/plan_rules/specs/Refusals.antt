-- Why a plan is not accepted, as plain data.
use Rattle.std.specs.Prelude.{ℕ, List, Option, None, Some, IfSome, MatchResult, Result}
use Rattle.std.specs.Option.{option_map}
use Rattle.dep_atom.specs.Values.{AtomValue, atom_value}
use Rattle.dep_atom.specs.declared.package.PackageId.{PackageId}
use Rattle.dep_atom.specs.declared.slot.Bind.{Bind}
use Rattle.pkg_state.specs.Fault as state
use Rattle.pkg_state.specs.declared.class.Class.{Class}
use Rattle.plan_rules.specs.declared.refusal.PlanRefused.{PlanRefused}
use Rattle.plan_rules.specs.declared.refusal.PlanRefused.TheVariants as refused

pub data Refusal : Type 0 where
  Line : (line : List ℕ) (g h : ℕ) → Refusal
  Absent : (g : ℕ) (id : PackageId) → Refusal
  Occupied : (g : ℕ) (id other : PackageId) → Refusal
  Opening : (fault : state.Fault) → Refusal
  RequiredUse : (id : PackageId) → Refusal
  Binding : (id : PackageId) (leaf : Option AtomValue) (found : Option Bind) → Refusal
  Unsatisfied : (g : ℕ) (id : PackageId) (class : Class) (leaf : Option AtomValue) → Refusal
  Unsafe : (id : PackageId) (class : Class) (leaf : Option AtomValue) (meeting : List ℕ) → Refusal
  Blocked : (id other : PackageId) → Refusal
  Barred : (g : ℕ) (id other : PackageId) → Refusal
  Build : (g : ℕ) (id : PackageId) (class : Class) (leaf : Option AtomValue) → Refusal
  Final : (id : PackageId) (leaf : Option AtomValue) → Refusal

-- what an answer of the code says; want of memory says nothing of the plan
abbrev pub told : PlanRefused → Option Refusal
told (refused.Line line g h) = Some (Line line g h)
told (refused.Absent g id) = Some (Absent g id)
told (refused.Occupied g id other) = Some (Occupied g id other)
told (refused.Opening fault) = option_map Opening (state.told fault)
told (refused.RequiredUse id) = Some (RequiredUse id)
told (refused.Binding id leaf found) = Some (Binding id (option_map atom_value leaf) found)
told (refused.Unsatisfied g id class leaf) =
    Some (Unsatisfied g id class (option_map atom_value leaf))
told (refused.Unsafe id class leaf meeting) =
    Some (Unsafe id class (option_map atom_value leaf) meeting.items)
told (refused.Blocked id other) = Some (Blocked id other)
told (refused.Barred g id other) = Some (Barred g id other)
told (refused.Build g id class leaf) = Some (Build g id class (option_map atom_value leaf))
told (refused.Final id leaf) = Some (Final id (option_map atom_value leaf))
told refused.Memory = None

-- the answer is the verdict that the rule gives, if it isn't want of memory
abbrev pub Says : {T : Type 0} → (Option Refusal → Type 0) → Result T PlanRefused → Type 0
Says rule result =
    MatchResult result (λ x. rule None) (λ e. IfSome (told e) (λ refusal. rule (Some refusal)))
