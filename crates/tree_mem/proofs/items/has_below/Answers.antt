use Rattle.std.proofs.Common.{◌∙◌}
use Rattle.tree_mem.proofs.Below.{has-below}
use Rattle.tree_mem.proofs.items.has_below.Goals as goal

pub returns : goal.returns
returns c = has-below c.args.items.now c.args.path.now c.as_str.result.now c.has_under.result (c.as_str.ensures.value ∙ c.in_ok-folder.ensures) c.has_under.ensures
