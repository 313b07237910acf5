use Rattle.std.proofs.Common.{◌≡◌, ◌++◌, drop}
use Rattle.tree_mem.specs.Items.{front}
use Rattle.tree_mem.proofs.items.front_of.Given as goal

abbrev pub invariant-loop-path : goal.invariant-loop-path
invariant-loop-path l = l.paths.items ++ front l.text (drop l.path-index l.items) ≡ front l.text l.items
