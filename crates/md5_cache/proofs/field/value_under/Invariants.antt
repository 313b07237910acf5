use Rattle.std.proofs.Common.{◌≡◌, drop}
use Rattle.md5_cache.specs.Fields.{value_under}
use Rattle.md5_cache.proofs.field.value_under.Given as goal

abbrev pub invariant-loop-pair : goal.invariant-loop-pair
invariant-loop-pair l = value_under (drop l.pair-index l.pairs) l.key ≡ value_under l.pairs l.key
