use Rattle.std.proofs.Common.{length}
use Rattle.pms_version.specs.Limits.{HasShortNumbers}
use Rattle.pms_version.specs.Steps.{ReadsSuffixes}
use Rattle.pms_version.proofs.reading.read_suffixes.Given as goal

abbrev pub invariant-underscores : goal.invariant-underscores
invariant-underscores l = record { short : HasShortNumbers l.behind; reads : ReadsSuffixes l.bytes l.suffixes.items l.behind }

abbrev pub decreases-underscores : goal.decreases-underscores
decreases-underscores l = length l.behind
