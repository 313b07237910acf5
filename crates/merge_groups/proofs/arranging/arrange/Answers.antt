use Rattle.std.proofs.Common.{◌≡◌, ◌∙◌, List, ap, length, map, subst, sym, ℕ}
use Rattle.choice_tree.specs.Views.{universe_of}
use Rattle.merge_edges.specs.Changes.{Change, changes}
use Rattle.merge_edges.specs.Edges.{AreEdges}
use Rattle.merge_edges.specs.Views.{change_of}
use Rattle.merge_graph.specs.Edges.{AreBetween}
use Rattle.merge_graph.specs.declared.edge.Edge.{Edge}
use Rattle.merge_groups.specs.Apart.{AreChangesApart, AreSome}
use Rattle.merge_groups.proofs.Changing.{changes_apart, changes_some}
use Rattle.merge_groups.proofs.Choosing.{err_none, ok_fine, ok_level}
use Rattle.merge_groups.proofs.arranging.arrange.Goals as goal

pub both_plans-requires-clause-apart : goal.both_plans-requires-clause-apart
both_plans-requires-clause-apart c =
    let u = universe_of c.args.universe.now in
    let same : map change_of c.deref.result.now ≡ changes u c.args.choice.now = ap (map change_of) c.deref.ensures.value ∙ c.in_ok-changes.ensures in
    subst (λ (cs : List Change). AreChangesApart cs) (sym same) (changes_apart u c.args.choice.now c.requires.apart)

pub both_plans-requires-clause-some : goal.both_plans-requires-clause-some
both_plans-requires-clause-some c =
    let u = universe_of c.args.universe.now in
    let same : map change_of c.deref.result.now ≡ changes u c.args.choice.now = ap (map change_of) c.deref.ensures.value ∙ c.in_ok-changes.ensures in
    subst (λ (cs : List Change). AreSome cs) (sym same) (changes_some u c.args.choice.now c.requires.values)

pub both_plans-requires-clause-between : goal.both_plans-requires-clause-between
both_plans-requires-clause-between c =
    let u = universe_of c.args.universe.now in
    let same : map change_of c.deref.result.now ≡ changes u c.args.choice.now = ap (map change_of) c.deref.ensures.value ∙ c.in_ok-changes.ensures in
    subst (λ (n : ℕ). AreBetween n c.deref-2.result.now) (ap length (sym same)) (subst (λ (es : List Edge). AreBetween (length (changes u c.args.choice.now)) es) (sym c.deref-2.ensures.value) c.in_ok-edges.ensures.between)

pub returns-clause-fine : goal.returns-clause-fine
returns-clause-fine c =
    let u = universe_of c.args.universe.now in
    let same : map change_of c.deref.result.now ≡ changes u c.args.choice.now = ap (map change_of) c.deref.ensures.value ∙ c.in_ok-changes.ensures in
    let edges = subst (λ (es : List Edge). AreEdges u c.args.choice.now es) (sym c.deref-2.ensures.value) c.in_ok-edges.ensures.edges in
    ok_fine c.args.installed.now u c.args.choice.now (map change_of c.deref.result.now) c.deref-2.result.now same edges c.both_plans.result c.both_plans.ensures.fine

pub returns-clause-level : goal.returns-clause-level
returns-clause-level c =
    let u = universe_of c.args.universe.now in
    let same : map change_of c.deref.result.now ≡ changes u c.args.choice.now = ap (map change_of) c.deref.ensures.value ∙ c.in_ok-changes.ensures in
    let edges = subst (λ (es : List Edge). AreEdges u c.args.choice.now es) (sym c.deref-2.ensures.value) c.in_ok-edges.ensures.edges in
    ok_level c.args.installed.now u c.args.choice.now (map change_of c.deref.result.now) c.deref-2.result.now same edges c.both_plans.result c.both_plans.ensures.level

pub returns-clause-fault : goal.returns-clause-fault
returns-clause-fault c =
    let u = universe_of c.args.universe.now in
    let same : map change_of c.deref.result.now ≡ changes u c.args.choice.now = ap (map change_of) c.deref.ensures.value ∙ c.in_ok-changes.ensures in
    let edges = subst (λ (es : List Edge). AreEdges u c.args.choice.now es) (sym c.deref-2.ensures.value) c.in_ok-edges.ensures.edges in
    err_none c.args.installed.now u c.args.choice.now (map change_of c.deref.result.now) c.deref-2.result.now same edges c.both_plans.result c.both_plans.ensures.fault
