use Rattle.std.proofs.Common.{◌≡◌, drop}
use Rattle.plan_text.specs.Numbers.{rise_between}
use Rattle.plan_text.proofs.standing.rise_between.Given as goal

abbrev pub invariant-loop-number : goal.invariant-loop-number
invariant-loop-number l = rise_between l.last l.high (drop l.number-index l.numbers) ≡ rise_between l.low l.high l.numbers
