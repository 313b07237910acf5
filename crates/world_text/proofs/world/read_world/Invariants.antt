use Rattle.std.proofs.Common.{take}
use Rattle.std.specs.List.{AllZip}
use Rattle.world_text.specs.World.{IsWorldLine}
use Rattle.world_text.proofs.world.read_world.Given as goal

abbrev pub invariant-loop-line : goal.invariant-loop-line
invariant-loop-line l = AllZip IsWorldLine (take l.line-index l.line-items) l.atoms.items
