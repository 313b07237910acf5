use Rattle.std.proofs.Common.{◌≡◌, false, take}
use Rattle.std.specs.List.{list_any}
use Rattle.pkg_state.specs.Blocks.{block_value}
use Rattle.pkg_state.specs.Index.{keeps_out}
use Rattle.pkg_state.proofs.around.Around.blocker.Given as goal

abbrev pub invariant-loop-block : goal.invariant-loop-block
invariant-loop-block l = list_any (λ b. keeps_out l.other (block_value b)) (take l.block-index l.block-items) ≡ false
