-- The offers that were pushed and those that are left are those of the map.
use Rattle.std.proofs.Common.{◌≡◌, ◌++◌}
use Rattle.std.specs.Map.{values_of}
use Rattle.choice_universe.proofs.making.listed.Given as goal

abbrev pub invariant-loop-offer : goal.invariant-loop-offer
invariant-loop-offer l = l.list.items ++ l.offer-iterator ≡ values_of l.fn.offers.entries
