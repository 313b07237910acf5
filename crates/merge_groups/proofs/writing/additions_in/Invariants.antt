use Rattle.std.proofs.Common.{take}
use Rattle.std.specs.List.{AllByRecursion, AllZip}
use Rattle.plan_lives.specs.Index.{plan_of, start_of}
use Rattle.plan_text.specs.Texts.{IsAddition}
use Rattle.merge_groups.specs.Written.{Says}
use Rattle.merge_groups.proofs.writing.additions_in.Given as goal

abbrev pub invariant-loop-pkg : goal.invariant-loop-pkg
invariant-loop-pkg l =
    AllZip (Says (plan_of l.index) (start_of l.index) l.g) (take l.pkg-index l.pkgs) l.all.items
    × AllByRecursion IsAddition l.all.items
