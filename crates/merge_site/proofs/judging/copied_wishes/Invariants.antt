use Rattle.std.proofs.Common.{◌≡◌, take}
use Rattle.merge_site.proofs.judging.copied_wishes.Given as goal

abbrev pub invariant-loop-wish : goal.invariant-loop-wish
invariant-loop-wish l = l.copies.items ≡ take l.wish-index l.wishes
