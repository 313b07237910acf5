use Rattle.std.proofs.Common.{◌≡◌, ◌↔◌, IsTrue, ap, subst, sym}
use Rattle.std.proofs.lemmas.Result.{IfOk-weaker}
use Rattle.plan_law.specs.Lives as law
use Rattle.plan_lives.specs.Index.{plan_of}
use Rattle.plan_lives.specs.Lives.{life_of, moment_of}
use Rattle.plan_rules.specs.Rules.{HasLine}
use Rattle.plan_rules.proofs.hindrance.has_line.Goals as goal

pub returns-in-Commit : goal.returns-in-Commit
returns-in-Commit c =
    let birth : moment_of c.args.x.now.birth ≡ law.commit c.in-Commit.g = ap moment_of c.in-Commit.is in
    IfOk-weaker c.takes_line.result _ _ (λ takes h. subst (λ (m : law.Moment). IsTrue takes ↔ HasLine (plan_of c.args.index.now) (life_of c.args.x.now) (life_of c.args.y.now) m) (sym birth) h) c.takes_line.ensures
