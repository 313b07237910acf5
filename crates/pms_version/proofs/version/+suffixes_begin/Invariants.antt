use Rattle.std.proofs.Common.{length}
use Rattle.pms_version.proofs.version.+suffixes_begin.Given as goal

abbrev pub decreases-suffixes_begin : goal.decreases-suffixes_begin
decreases-suffixes_begin l = length l.suffixes.now
