use Rattle.std.proofs.Common.{length}
use Rattle.pms_version.proofs.version.+compare_numbers.Given as goal

abbrev pub decreases-compare_numbers : goal.decreases-compare_numbers
decreases-compare_numbers l = length l.numbers.now
