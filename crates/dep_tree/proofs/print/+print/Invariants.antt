use Rattle.std.proofs.Common.{◌≡◌, drop}
use Rattle.std.specs.Prelude.{string_bytes}
use Rattle.dep_atom.specs.Values.{AtomValue}
use Rattle.dep_group.specs.Printing.{TokenList, written}
use Rattle.dep_group.specs.Reading.{all_tokens}
use Rattle.dep_tree.specs.Grammar.{grammar}
use Rattle.dep_tree.specs.View.{trees_view}
use Rattle.dep_tree.proofs.print.+print.Given as goal

abbrev pub invariant-push_all-loop-node : goal.invariant-push_all-loop-node
invariant-push_all-loop-node l = (rest : TokenList AtomValue) → written grammar (string_bytes l.out) (all_tokens (trees_view (drop l.node-index l.nodes)) rest) ≡ written grammar (string_bytes l.fn.out) (all_tokens (trees_view l.nodes) rest)
