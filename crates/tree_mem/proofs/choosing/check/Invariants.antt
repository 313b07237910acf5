use Rattle.std.proofs.Common.{take}
use Rattle.tree_mem.specs.Image.{AllTouched}
use Rattle.tree_mem.specs.Record.{is_among}
use Rattle.tree_mem.proofs.choosing.check.Given as goal

abbrev pub invariant-loop-path : goal.invariant-loop-path
invariant-loop-path l = AllTouched (is_among l.touched.keys) (take l.path-index l.choice)
