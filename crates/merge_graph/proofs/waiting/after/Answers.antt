use Rattle.std.proofs.Common.{◌∙◌, ◌+◌, List, ℕ, ap, map, subst, sym}
use Rattle.merge_graph.specs.After.{AreAfter}
use Rattle.merge_graph.proofs.Waited.{afters_more}
use Rattle.std.proofs.lemmas.List.{map_push}
use Rattle.merge_graph.proofs.waiting.after.Goals as goal

pub loop-number-preserved : goal.loop-number-preserved
loop-number-preserved c =
    let es = c.args.edges.now in
    let numbers = c.args.numbers.now in
    let n = c.loop-number.number in
    let now = ap (map (λ r. r.items)) c.in_ok-push.ensures.items ∙ map_push (λ r. r.items) c.loop-number.all.items c.in_ok-one.one in
    subst (λ (l : List (List ℕ)). AreAfter es numbers (n + 1) l) (sym now)
    (afters_more es numbers n (map (λ r. r.items) c.loop-number.all.items) c.in_ok-one.one.items c.loop-number.invariant c.in_ok-one.ensures)
