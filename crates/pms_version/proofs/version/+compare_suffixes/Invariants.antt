use Rattle.std.proofs.Common.{length}
use Rattle.pms_version.proofs.version.+compare_suffixes.Given as goal

abbrev pub decreases-compare_suffixes : goal.decreases-compare_suffixes
decreases-compare_suffixes l = length l.suffixes.now
