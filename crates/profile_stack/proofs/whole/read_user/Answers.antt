use Rattle.std.proofs.Common.{inl, inr, subst}
use Rattle.profile_lines.specs.Files.{content}
use Rattle.profile_stack.specs.Files.{Config, MissUser, begun}
use Rattle.profile_stack.proofs.UserLemmas.{user_or_not}
use Rattle.profile_stack.proofs.whole.read_user.Goals as goal

pub returns-in-Err-clause-only : goal.returns-in-Err-clause-only
returns-in-Err-clause-only g c t is reads = elim (c.in-Err.ensures.fault t) [
  | inl machine ↦ machine
  | inr miss ↦ absurd (user_or_not (g.T.Tree.story c.args.tree.now).now.holds (begun (content c.args.profile)) is (begun (content c.args.profile)) c.in-Err.fault reads (subst (λ (k : Config). MissUser (g.T.Tree.story c.args.tree.now).now.holds k c.in-Err.fault) c.begin-config.ensures miss))
]

pub returns-in-Err-clause-fault : goal.returns-in-Err-clause-fault
returns-in-Err-clause-fault g c t = elim (c.in-Err.ensures.fault t) [
  | inl machine ↦ inl machine
  | inr miss ↦ inr (subst (λ (k : Config). MissUser (g.T.Tree.story c.args.tree.now).now.holds k c.in-Err.fault) c.begin-config.ensures miss)
]
