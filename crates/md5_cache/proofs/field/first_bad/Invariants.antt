use Rattle.std.proofs.Common.{take}
use Rattle.std.specs.List.{AllByRecursion}
use Rattle.md5_cache.specs.Fields.{IsGood}
use Rattle.md5_cache.proofs.field.first_bad.Given as goal

abbrev pub invariant-loop-pair : goal.invariant-loop-pair
invariant-loop-pair l = AllByRecursion (IsGood l.edition) (take l.pair-index l.pairs)
