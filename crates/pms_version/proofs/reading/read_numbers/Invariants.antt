use Rattle.std.proofs.Common.{length}
use Rattle.pms_version.specs.Limits.{HasShortNumbers}
use Rattle.pms_version.specs.Steps.{ReadsNumbers}
use Rattle.pms_version.proofs.reading.read_numbers.Given as goal

abbrev pub invariant-dots : goal.invariant-dots
invariant-dots l = record { short : HasShortNumbers l.behind; reads : ReadsNumbers l.bytes l.numbers.items l.behind }

abbrev pub decreases-dots : goal.decreases-dots
decreases-dots l = length l.behind
