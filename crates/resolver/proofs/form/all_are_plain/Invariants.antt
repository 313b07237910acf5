use Rattle.std.proofs.Common.{take}
use Rattle.resolver.specs.Form.{ArePlain}
use Rattle.resolver.proofs.form.all_are_plain.Given as goal

abbrev pub invariant-loop-one : goal.invariant-loop-one
invariant-loop-one l = ArePlain (take l.one-index l.all)
