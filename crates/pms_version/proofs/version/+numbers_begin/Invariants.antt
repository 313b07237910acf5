use Rattle.std.proofs.Common.{length}
use Rattle.pms_version.proofs.version.+numbers_begin.Given as goal

abbrev pub decreases-numbers_begin : goal.decreases-numbers_begin
decreases-numbers_begin l = length l.numbers.now
