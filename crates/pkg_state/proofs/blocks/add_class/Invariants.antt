use Rattle.std.proofs.Common.{take}
use Rattle.pkg_state.proofs.Grouped.{HasAdded, blocks_among}
use Rattle.pkg_state.proofs.blocks.add_class.Given as goal

abbrev pub invariant-loop-atom : goal.invariant-loop-atom
invariant-loop-atom l = HasAdded (blocks_among l.owner (take l.atom-index l.atom-items)) l.initial.blocks.lists l.blocks.lists
