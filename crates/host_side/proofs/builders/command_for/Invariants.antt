-- The words so far, with those of the flags that are left, are the words of the order.
use Rattle.std.proofs.Common.{◌≡◌, ◌++◌}
use Rattle.std.specs.Process.{command_args, command_program}
use Rattle.host_side.specs.Words.{order_words}
use Rattle.host_side.proofs.builders.command_for.Given as goal

abbrev pub invariant-loop-flag : goal.invariant-loop-flag
invariant-loop-flag l = (command_program l.command ≡ l.program) × (command_args l.command ++ l.flag-iterator ≡ order_words l.order)
