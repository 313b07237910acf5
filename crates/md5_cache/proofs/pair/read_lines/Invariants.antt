use Rattle.std.proofs.Common.{◌≡◌, map, take}
use Rattle.std.specs.List.{AllByRecursion}
use Rattle.md5_cache.specs.Pairs.{HasEquals, pair_of}
use Rattle.md5_cache.proofs.Lines.{now_of}
use Rattle.md5_cache.proofs.pair.read_lines.Given as goal

abbrev pub invariant-loop-at : goal.invariant-loop-at
invariant-loop-at l = (l.pairs.items ≡ map pair_of (now_of (take l.at l.lines))) × AllByRecursion HasEquals (now_of (take l.at l.lines))
