use Rattle.std.proofs.Common.{◌∙◌, ◌+◌, List, ℕ, ap, map, subst, sym}
use Rattle.std.proofs.lemmas.List.{map_push}
use Rattle.merge_groups.specs.Rows.{AreWaiting}
use Rattle.merge_groups.proofs.Grown.{befores_more}
use Rattle.merge_groups.proofs.grouping.befores.Goals as goal

pub loop-place-preserved : goal.loop-place-preserved
loop-place-preserved c =
    let n = c.loop-place.place in
    let one = c.in_ok-before.field-0 in
    let now = ap (map (λ r. r.items)) c.in_ok-push.ensures.items ∙ map_push (λ r. r.items) c.loop-place.all.items one in
    subst (λ (l : List (List ℕ)). AreWaiting (n + 1) l) (sym now)
    (befores_more n (map (λ r. r.items) c.loop-place.all.items) one.items c.loop-place.invariant c.in_ok-before.ensures)
