use Rattle.std.proofs.Common.{◌≡◌, ◌++◌, drop, filter, map}
use Rattle.emerge_choose.specs.Reasons.{is_of_name, unmatched}
use Rattle.emerge_choose.proofs.reasons.push_all_offered.Given as goal

abbrev pub invariant-loop-pkg : goal.invariant-loop-pkg
invariant-loop-pkg l =
    l.reasons.items ++ filter (is_of_name l.name) (map unmatched (drop l.pkg-index l.offered))
    ≡ l.fn.reasons.items ++ filter (is_of_name l.name) (map unmatched l.offered)
