use Rattle.std.proofs.Common.{◌≡◌, ◌∙◌, ◌+◌, List, [], arith, get_or, map, subst, sym, ℕ}
use Rattle.plan_law.specs.Plans.{Group}
use Rattle.merge_edges.specs.Views.{change_of}
use Rattle.merge_graph.specs.Rows.{AreRising}
use Rattle.merge_groups.specs.Grouped.{Makes}
use Rattle.merge_groups.specs.Rows.{AreGroups}
use Rattle.merge_groups.proofs.Grown.{groups_more}
use Rattle.merge_groups.proofs.grouping.groups_of.Goals as goal

pub group_of-requires-clause-rising : goal.group_of-requires-clause-rising
group_of-requires-clause-rising c = subst (λ (l : List ℕ). AreRising l) (sym c.row_at-in-loop-k.ensures) (c.requires.rising c.loop-k.k (omega arith))

pub loop-k-preserved : goal.loop-k-preserved
loop-k-preserved c =
    let cs = map change_of c.args.changes.now in
    let rows = map (λ r. r.items) c.args.rows.now in
    let afters = map (λ r. r.items) c.args.afters.now in
    let k = c.loop-k.k in
    let g = c.in_ok-group_of.field-0 in
    let makes : Makes cs (get_or rows k []) g = subst (λ (l : List ℕ). Makes cs l g) c.row_at-in-loop-k.ensures c.in_ok-group_of.ensures.makes in
    let waits : g.after ≡ get_or afters k [] = c.in_ok-group_of.ensures.after ∙ (c.in_ok-after.ensures ∙ c.row_at.ensures) in
    subst (λ (plan : List Group). AreGroups cs rows afters (k + 1) plan) (sym {A = List Group} c.in_ok-push.ensures.items)
    (groups_more cs rows afters k c.loop-k.groups.items g c.loop-k.invariant makes waits)
