use Rattle.std.proofs.Common.{◌≡◌, drop}
use Rattle.tree_mem.specs.Image.{chosen}
use Rattle.tree_mem.specs.Items.{IsRising, held}
use Rattle.tree_mem.proofs.choosing.grant_all.Given as goal

abbrev pub invariant-loop-path : goal.invariant-loop-path
invariant-loop-path l = record {
  rising : IsRising l.items.items;
  left : chosen (drop l.path-index l.choice) (held l.items.items) ≡ chosen l.choice (held l.initial.items.items);
}
