use Rattle.std.proofs.Common.{[]}
use Rattle.choice_law.specs.Tree.{root}
use Rattle.resolver.proofs.resolving.no_jump_loses.Goals as goal

pub returns : goal.returns
returns c = c.jumps_lose_nothing.ensures [] (c.universe_is_plain.ensures, root)
