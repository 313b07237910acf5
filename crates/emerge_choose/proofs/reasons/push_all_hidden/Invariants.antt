use Rattle.std.proofs.Common.{◌≡◌, ◌++◌, drop, filter}
use Rattle.emerge_choose.specs.Reasons.{is_of_name}
use Rattle.emerge_choose.proofs.reasons.push_all_hidden.Given as goal

abbrev pub invariant-loop-one : goal.invariant-loop-one
invariant-loop-one l =
    l.reasons.items ++ filter (is_of_name l.name) (drop l.one-index l.hidden)
    ≡ l.fn.reasons.items ++ filter (is_of_name l.name) l.hidden
