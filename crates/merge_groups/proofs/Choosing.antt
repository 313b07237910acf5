-- The plans of the changes of a choice are those of the choice.
use Rattle.std.proofs.Common.{◌≡◌, List, Result, Ok, Err, subst}
use Rattle.std.specs.Prelude.{IfErr, IfOk}
use Rattle.pkg_state.specs.Package.{Package}
use Rattle.merge_graph.specs.declared.edge.Edge.{Edge}
use Rattle.plan_text.specs.Plans.{plan_value}
use Rattle.choice_law.specs.Universe.{Universe}
use Rattle.choice_law.specs.Tree.{Choice}
use Rattle.merge_edges.specs.Changes.{Change, changes}
use Rattle.merge_edges.specs.Edges.{AreEdges}
use Rattle.merge_groups.specs.Arranged.{HasNoPlan, HaveNoPlan, IsFine, IsFineOf, IsLevel, IsLevelOf}
use Rattle.merge_groups.specs.declared.arranged.Arranged.{Arranged}
use Rattle.merge_groups.specs.declared.arranged.NotArranged.{NotArranged}

module _ (start : List Package) (u : Universe) (c : Choice) (cs : List Change) (es : List Edge) (same : cs ≡ changes u c) (edges : AreEdges u c es) where
  pub ok_fine : (r : Result Arranged NotArranged) → IfOk r (λ a. IsFineOf start cs es (plan_value a.fine)) → IfOk r (λ a. IsFine start u c (plan_value a.fine))
  ok_fine (Ok a) is = (es, edges, subst (λ (l : List Change). IsFineOf start l es (plan_value a.fine)) same is)
  ok_fine (Err e) is = tt

  pub ok_level : (r : Result Arranged NotArranged) → IfOk r (λ a. IsLevelOf start cs es (plan_value a.level)) → IfOk r (λ a. IsLevel start u c (plan_value a.level))
  ok_level (Ok a) is = (es, edges, subst (λ (l : List Change). IsLevelOf start l es (plan_value a.level)) same is)
  ok_level (Err e) is = tt

  pub err_none : (r : Result Arranged NotArranged) → IfErr r (HaveNoPlan cs es) → IfErr r (HasNoPlan u c)
  err_none (Ok a) none = tt
  err_none (Err e) none = λ other. (es, edges, subst (λ (l : List Change). HaveNoPlan l es e) same none)
