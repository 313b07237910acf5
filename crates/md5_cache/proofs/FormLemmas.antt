-- The form of dependencies and of REQUIRED_USE, whether or not a group without members holds.
use Rattle.std.proofs.Common.{◌≡◌, ℕ, false, List, Result, Ok, Err, refl}
use Rattle.std.specs.Prelude.{IfErr, IfOk, MatchResult, OnOk}
use Rattle.dep_tree.specs.Faults.{IsMemory}
use Rattle.dep_tree.specs.Texts as dependencies
use Rattle.dep_tree.specs.View.{trees}
use Rattle.dep_tree.specs.declared.fault.TreeTextFault.{TreeTextFault}
use Rattle.dep_tree.specs.declared.fault.TreeTextFault.TheVariants as tree_faults
use Rattle.dep_tree.specs.declared.tree.DepTree.{DepTree}
use Rattle.required_use.specs.Faults.{IsMemory as IsRequiredMemory}
use Rattle.required_use.specs.Texts as expressions
use Rattle.required_use.specs.View.{trees as required_trees}
use Rattle.required_use.specs.declared.fault.RequiredFault.{RequiredFault}
use Rattle.required_use.specs.declared.fault.RequiredFault.TheVariants as required_faults
use Rattle.required_use.specs.declared.required.RequiredUse.{RequiredUse}

pub needs_found : (text : List ℕ) (r : Result DepTree TreeTextFault) → IfOk r (λ t. dependencies.Writes false text (trees t)) → OnOk r (dependencies.AreDependencies text)
needs_found text (Ok t) w = ((trees t).groups, w.atoms)
needs_found text (Err e) w = tt

tree_fault_only : (P : DepTree → Type 0) (r : Result DepTree TreeTextFault) → MatchResult r P IsMemory → IfErr r (λ e. e ≡ tree_faults.Memory)
tree_fault_only P (Ok t) m = tt
tree_fault_only P (Err e) m = m

pub needs_only : (text : List ℕ) (r : Result DepTree TreeTextFault) → ((x : dependencies.Dependencies) → dependencies.Writes false text x → MatchResult r (λ t. trees t ≡ x) IsMemory) → dependencies.AreDependencies text → IfErr r (λ e. e ≡ tree_faults.Memory)
needs_only text r only are = tree_fault_only _ r (only (record { groups = are.0; empty_holds = false }) (record { atoms = are.1; flag = refl }))

pub required_found : (text : List ℕ) (r : Result RequiredUse RequiredFault) → IfOk r (λ x. expressions.Writes false text (required_trees x)) → OnOk r (expressions.IsExpression text)
required_found text (Ok x) w = ((required_trees x).groups, w.items)
required_found text (Err e) w = tt

required_fault_only : (P : RequiredUse → Type 0) (r : Result RequiredUse RequiredFault) → MatchResult r P IsRequiredMemory → IfErr r (λ e. e ≡ required_faults.Memory)
required_fault_only P (Ok x) m = tt
required_fault_only P (Err e) m = m

pub required_only : (text : List ℕ) (r : Result RequiredUse RequiredFault) → ((x : expressions.Expressions) → expressions.Writes false text x → MatchResult r (λ y. required_trees y ≡ x) IsRequiredMemory) → expressions.IsExpression text → IfErr r (λ e. e ≡ required_faults.Memory)
required_only text r only is = required_fault_only _ r (only (record { groups = is.0; empty_holds = false }) (record { items = is.1; flag = refl }))
