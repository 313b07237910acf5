use Rattle.std.proofs.Common.{take}
use Rattle.pkg_state.specs.Blocks.{AreBlocks}
use Rattle.pkg_state.specs.Index.{all_blocks}
use Rattle.pkg_state.proofs.around.by_blocked_name.Given as goal

abbrev pub invariant-loop-package : goal.invariant-loop-package
invariant-loop-package l = AreBlocks (all_blocks (take l.package-index l.packages)) l.blocks.lists
