-- The rule of binds: each leaf of an addition that asks for a bind has one, which is right.
use Rattle.std.specs.Prelude.{List, [], ◌∷◌, Option, None, Some, ⊤}
use Rattle.std.specs.List.{AllZip}
use Rattle.basics.specs.Members.{Has}
use Rattle.dep_atom.specs.Values.{AtomValue}
use Rattle.dep_atom.specs.declared.package.PackageId.{PackageId}
use Rattle.dep_atom.specs.declared.slot.Bind.{Bind}
use Rattle.pkg_state.specs.Package.{Package}
use Rattle.plan_law.specs.Plans.{Group}
use Rattle.plan_law.specs.Lives.{Life, Moment, commit, never, opening}
use Rattle.plan_lives.specs.Lives.{lives}
use Rattle.plan_lives.specs.Binding.{IsRightBind}
use Rattle.plan_check.specs.Asks.{AskedValue, asking}
use Rattle.plan_rules.specs.Refusals.{Refusal, Refusal as refused}
use Rattle.plan_rules.specs.Verdicts.{both, demand, fail, nothing}

-- each leaf has its bind, which is right, and no bind is left over; else the first place is told
-- where that isn't so
abbrev pub binds_rule : (AtomValue → Bind → Type 0) → PackageId → List AtomValue → List Bind →
    Option Refusal → Type 0
binds_rule IsRight id [] [] = nothing
binds_rule IsRight id [] (b ∷ binds) = fail (refused.Binding id None (Some b))
binds_rule IsRight id (a ∷ leaves) [] = fail (refused.Binding id (Some a) None)
binds_rule IsRight id (a ∷ leaves) (b ∷ binds) =
    both (demand (IsRight a b) (refused.Binding id (Some a) (Some b)))
    (binds_rule IsRight id leaves binds)

-- what is there from this moment on has a right bind for each leaf that asks, if a group brings it
abbrev pub IsBound : List Group → List Package → Moment → Package → AskedValue → Type 0
IsBound plan start opening p asked = ⊤
IsBound plan start (commit g) p asked =
    AllZip (IsRightBind plan start g p.facts.enabled) asked.leaves asked.binds
IsBound plan start never p asked = ⊤

-- the binds of all additions are right, where they ask for these in their order
abbrev pub AreBound : List Group → List Package → List AskedValue → Type 0
AreBound plan start asks =
    (x : Life) (asked : AskedValue) → Has (asking (lives plan start) asks) (x, asked) →
    IsBound plan start x.birth x.package_is asked
