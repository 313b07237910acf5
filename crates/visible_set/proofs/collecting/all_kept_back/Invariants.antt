use Rattle.std.proofs.Common.{◌≡◌, ◌++◌, drop, map}
use Rattle.visible_set.specs.Offers.{kept_back}
use Rattle.visible_set.proofs.collecting.all_kept_back.Given as goal

abbrev pub invariant-loop-other : goal.invariant-loop-other
invariant-loop-other l = l.hidden.items ++ map kept_back (drop l.other-index l.others) ≡ map kept_back l.others
