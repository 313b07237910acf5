use Rattle.std.specs.List.{AllByRecursion}
use Rattle.dep_group.specs.Tokens.{IsFlag}
use Rattle.vdb_files.proofs.named.flags_are_named.Given as goal

abbrev pub invariant-loop-flag : goal.invariant-loop-flag
invariant-loop-flag l = AllByRecursion IsFlag l.flag-iterator → AllByRecursion IsFlag l.flags
