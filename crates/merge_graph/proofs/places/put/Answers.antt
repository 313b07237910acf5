use Rattle.std.proofs.Common.{◌≡◌, ◌∙◌, ◌++◌, ◌∷◌, [], List, ℕ, ap, arith, get_or, map, set, sym}
use Rattle.std.proofs.lemmas.List.{get_or-map, map-set}
use Rattle.merge_graph.proofs.places.put.Goals as goal

pub returns-in_ok-push : goal.returns-in_ok-push
returns-in_ok-push c =
    let rows = c.args.rows.now in
    let one = c.index_mut.result.now in
    let at : one.items ≡ get_or (map (λ r. r.items) rows.items) c.args.number [] =
    sym (get_or-map (λ r. r.items) rows.items c.args.number one [] (omega (arith, rows.ok.0)) ∙ ap (λ r. r.items) (sym c.index_mut.ensures.value)) in
    map-set (λ r. r.items) rows.items c.args.number c.push.new.self
    ∙ ap (set (map (λ r. r.items) rows.items) c.args.number) (c.in_ok-push.ensures.items ∙ ap (λ (l : List ℕ). l ++ c.args.at ∷ []) at)
