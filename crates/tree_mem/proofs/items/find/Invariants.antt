use Rattle.std.proofs.Common.{◌≤◌, ◌-◌, length, take, drop}
use Rattle.tree_mem.specs.Items.{AllBelow, AllAbove}
use Rattle.tree_mem.proofs.items.find.Given as goal

abbrev pub invariant-loop-low : goal.invariant-loop-low
invariant-loop-low l = record {
  in_order : l.low ≤ l.high;
  in_range : l.high ≤ length l.items;
  below : AllBelow l.text (take l.low l.items);
  above : AllAbove l.text (drop l.high l.items);
}

abbrev pub decreases-loop-low : goal.decreases-loop-low
decreases-loop-low l = l.high - l.low
