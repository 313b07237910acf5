use Rattle.std.proofs.Common.{◌≡◌, drop}
use Rattle.std.specs.Prelude.{string_bytes}
use Rattle.dep_group.specs.Printing.{TokenList, written}
use Rattle.dep_group.specs.Reading.{all_tokens}
use Rattle.required_use.specs.declared.required.Item.{Item}
use Rattle.required_use.specs.Grammar.{grammar}
use Rattle.required_use.specs.View.{trees_view}
use Rattle.required_use.proofs.print.+print.Given as goal

abbrev pub invariant-push_all-loop-node : goal.invariant-push_all-loop-node
invariant-push_all-loop-node l = (rest : TokenList Item) → written grammar (string_bytes l.out) (all_tokens (trees_view (drop l.node-index l.nodes)) rest) ≡ written grammar (string_bytes l.fn.out) (all_tokens (trees_view l.nodes) rest)
