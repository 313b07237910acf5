use Rattle.std.proofs.Common.{◌≡◌, take}
use Rattle.build_pool.proofs.binds.Binds.copied.Given as goal

abbrev pub invariant-loop-bind : goal.invariant-loop-bind
invariant-loop-bind l = l.items.items ≡ take l.bind-index l.binds
