use Rattle.std.proofs.Common.{inl, inr}
use Rattle.profile_lines.proofs.NoFault.{profile_or_not}
use Rattle.profile_lines.proofs.whole.read.Goals as goal

pub returns-in-Err-clause-only : goal.returns-in-Err-clause-only
returns-in-Err-clause-only g c t is profile = elim (c.in-Err.ensures.fault t) [
  | inl machine ↦ machine
  | inr first ↦ absurd (profile_or_not (g.T.Tree.story c.args.tree.now).now.holds c.args.path.now is c.in-Err.fault profile first)
]
