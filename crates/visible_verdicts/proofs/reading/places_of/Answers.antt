use Rattle.std.proofs.Common.{[], subst, sym}
use Rattle.visible_verdicts.specs.Places.{ArePlaces}
use Rattle.visible_verdicts.proofs.Found.{next_place, no_places}
use Rattle.visible_verdicts.proofs.reading.places_of.Goals as goal

pub loop-path-init : goal.loop-path-init
loop-path-init c = subst (ArePlaces []) (sym c.new-places.ensures.items) no_places

pub loop-path-preserved : goal.loop-path-preserved
loop-path-preserved c =
    next_place c.args.paths.now c.loop-path.path-index c.path-item.result c.loop-path.places.items c.add_place.new.places.items c.in_ok-place.place c.order_is_that_of_keys.ensures.total c.requires c.loop-path-test.true c.path-item.is c.in_ok-place.ensures c.in_ok-add_place.ensures c.loop-path.invariant
