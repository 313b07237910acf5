use Rattle.std.proofs.lemmas.List.{get_or_default}
use Rattle.basics.proofs.Membership.{has-at}
use Rattle.merge_graph.proofs.Leveled.{highest_more}
use Rattle.merge_graph.proofs.leveling.level_over.Goals as goal

pub level_of_edge-requires : goal.level_of_edge-requires
level_of_edge-requires c =
    let places = c.args.places.now in
    let at = c.loop-place.place-index in
    c.requires _ (has-at places at _ c.loop-place-test.true (get_or_default places at 0 _ c.loop-place-test.true))

pub loop-place-preserved : goal.loop-place-preserved
loop-place-preserved c =
    highest_more c.args.edges.now c.args.numbers.now c.args.levels.now c.args.places.now c.loop-place.place-index _ _ _ c.loop-place-test.true c.loop-place.invariant c.level_of_edge.ensures c.higher-level.ensures.first c.higher-level.ensures.second c.higher-level.ensures.either
