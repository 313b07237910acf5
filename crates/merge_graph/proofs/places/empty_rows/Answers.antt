use Rattle.std.proofs.Common.{◌∙◌, ◌++◌, ◌∷◌, [], List, ℕ, ap, map, replicate}
use Rattle.std.proofs.lemmas.List.{map_push, replicate_more}
use Rattle.merge_graph.proofs.places.empty_rows.Goals as goal

pub loop-preserved : goal.loop-preserved
loop-preserved c =
    ap (map (λ r. r.items)) c.in_ok-push.ensures.items
    ∙ (map_push (λ r. r.items) c.loop.rows.items c.new.result
    ∙ (ap (λ (l : List (List ℕ)). l ++ c.new.result.items ∷ []) c.loop.invariant
    ∙ (ap (λ (l : List ℕ). replicate c.loop.counter [] ++ l ∷ []) c.new.ensures.items ∙ replicate_more c.loop.counter [])))
