use Rattle.std.proofs.Common.{take}
use Rattle.basics.specs.Members.{AreDistinct}
use Rattle.md5_cache.specs.Pairs.{keys_of}
use Rattle.md5_cache.specs.Seen.{HasSeen}
use Rattle.md5_cache.proofs.repeated.first_repeated.Given as goal

abbrev pub invariant-loop-pair : goal.invariant-loop-pair
invariant-loop-pair l = HasSeen l.seen (keys_of (take l.pair-index l.pairs)) × AreDistinct (keys_of (take l.pair-index l.pairs))
