use Rattle.std.proofs.Common.{◌≡◌, length, take}
use Rattle.basics.specs.Members.{AreDistinct}
use Rattle.tree_mem.specs.Items.{IsRising, held, paths}
use Rattle.tree_mem.proofs.sorting.sorted.Given as goal

abbrev pub invariant-loop-path : goal.invariant-loop-path
invariant-loop-path l = record {
  rising : IsRising l.sorted.items;
  same : held l.sorted.items ≡ held l.yielded;
  distinct : AreDistinct (paths l.yielded);
  front : l.yielded ≡ take (length l.yielded) l.fn.objects.items;
}
