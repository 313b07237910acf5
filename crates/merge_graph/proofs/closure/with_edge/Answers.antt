use Rattle.std.proofs.Common.{◌∙◌, ◌+◌, ◌&&◌, ◌||◌, [], Bool, List, ap, false, get_or, map, subst, sym}
use Rattle.std.proofs.lemmas.List.{map_push}
use Rattle.merge_graph.specs.Closure.{IsRow, IsTable, reached_with}
use Rattle.merge_graph.proofs.Closing.{table_more}
use Rattle.merge_graph.proofs.closure.with_edge.Goals as goal

pub loop-node-preserved : goal.loop-node-preserved
loop-node-preserved c =
    let nodes = c.args.nodes in
    let n = c.loop-node.node in
    let from = c.args.from in
    let to = c.args.to in
    let old = map (λ r. r.items) c.args.rows.now in
    let row = c.in_ok-row.row.items in
    let one : IsRow nodes (reached_with old from to n) row =
    subst (λ (a : List Bool). IsRow nodes (λ y. get_or a y false || (get_or a from false && get_or (get_or old to []) y false)) row) c.marks_at.ensures
    (subst (λ (b : List Bool). IsRow nodes (λ y. get_or c.marks_at.result.now y false || (get_or c.marks_at.result.now from false && get_or b y false)) row) c.marks_at-in-loop-node.ensures c.in_ok-row.ensures) in
    let now = ap (map (λ r. r.items)) c.in_ok-push.ensures.items ∙ map_push (λ r. r.items) c.loop-node.more.items c.in_ok-row.row in
    subst (λ (l : List (List Bool)). IsTable (n + 1) nodes (reached_with old from to) l) (sym now)
    (table_more n nodes (reached_with old from to) (map (λ r. r.items) c.loop-node.more.items) row c.loop-node.invariant one)
