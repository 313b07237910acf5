use Rattle.std.proofs.Common.{◌≡◌, List, false, subst}
use Rattle.pkg_state.specs.Consistent.{facts_of, is_met}
use Rattle.pkg_state.specs.Fault.{lacking_leaf}
use Rattle.pkg_state.specs.Package.{Package}
use Rattle.pkg_state.specs.declared.class.Class.TheVariants.{Pdepend}
use Rattle.plan_lives.specs.Lives.{moment_of}
use Rattle.plan_check.specs.PackageRules.{if_left}
use Rattle.plan_rules.specs.Refusals.{Refusal as refused, Says}
use Rattle.plan_rules.specs.Verdicts.{refuse}
use Rattle.plan_check.proofs.finished.judge_finished.Goals as goal

pub returns-in-Commit : goal.returns-in-Commit
returns-in-Commit c plan start e =
    let p = c.args.x.now.pkg.now in
    rw c.in-Commit.is (subst (λ (ps : List Package). Says (if_left (moment_of c.args.x.now.death) (refuse (is_met (facts_of ps) Pdepend p ≡ false) (refused.Final p.facts.id (lacking_leaf (facts_of ps) Pdepend p)))) c.judge_end.result) e c.judge_end.ensures)
