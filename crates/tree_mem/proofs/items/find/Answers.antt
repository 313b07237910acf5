use Rattle.std.proofs.Common.{◌≡◌, ◌<◌, ◌+◌, ◌-◌, ◌/◌, length, arith}
use Rattle.std.specs.declared.cmp.Ordering.TheVariants.{Less, Equal, Greater}
use Rattle.tree_mem.specs.Items.{path_cmp}
use Rattle.tree_mem.proofs.Order.{AllBelow-up_to, AllAbove-from, less-from_greater}
use Rattle.tree_mem.proofs.Held.{stands}
use Rattle.tree_mem.proofs.items.find.Goals as goal

pub loop-low-preserved-in-Less : goal.loop-low-preserved-in-Less
loop-low-preserved-in-Less c =
    let inside : c.loop-low.low + (c.loop-low.high - c.loop-low.low) / 2 < length c.args.items.now = omega arith in
    let before : path_cmp c.index-items-middle.result.0 c.args.text.now ≡ Less = cc in
    record {
      in_order = omega arith;
      in_range = c.loop-low.invariant.in_range;
      below = AllBelow-up_to c.args.items.now _ c.index-items-middle.result c.args.text.now c.requires.rising inside c.index-items-middle.is before;
      above = c.loop-low.invariant.above;
    }

pub returns-in-Equal : goal.returns-in-Equal
returns-in-Equal c =
    let inside : c.loop-low.low + (c.loop-low.high - c.loop-low.low) / 2 < length c.args.items.now = omega arith in
    let same : path_cmp c.index-items-middle.result.0 c.args.text.now ≡ Equal = cc in
    stands c.args.items.now _ c.index-items-middle.result c.args.text.now inside c.index-items-middle.is same

pub loop-low-preserved : goal.loop-low-preserved
loop-low-preserved c =
    let inside : c.loop-low.low + (c.loop-low.high - c.loop-low.low) / 2 < length c.args.items.now = omega arith in
    let behind : path_cmp c.index-items-middle.result.0 c.args.text.now ≡ Greater = cc in
    record {
      in_order = omega arith;
      in_range = omega arith;
      below = c.loop-low.invariant.below;
      above = AllAbove-from c.args.items.now _ c.index-items-middle.result c.args.text.now c.requires.rising inside c.index-items-middle.is (less-from_greater c.index-items-middle.result.0 c.args.text.now behind);
    }
