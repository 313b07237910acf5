use Rattle.std.proofs.Common.{◌≡◌, List, length, map, subst, sym}
use Rattle.pkg_state.specs.Package.{Package}
use Rattle.plan_law.specs.Accepted.{AreLeft}
use Rattle.plan_law.specs.Lives as law
use Rattle.basics.specs.Limits.{most_groups}
use Rattle.plan_lives.specs.Index.{plan_of, start_of}
use Rattle.plan_lives.specs.Lives.{life_of, moment_of}
use Rattle.plan_lives.specs.declared.life.Moment.{Moment}
use Rattle.plan_lives.proofs.Steps.{within_more}
use Rattle.plan_lives.proofs.Within.{lives_within}
use Rattle.plan_check.specs.Home.{among, met_rule}
use Rattle.plan_check.specs.PackageRules.{if_left}
use Rattle.plan_rules.specs.Refusals.{Says}
use Rattle.plan_check.proofs.Accepting.{left_are}
use Rattle.plan_check.proofs.AtHome.{says_among}
use Rattle.plan_check.proofs.unmet.judge_left.Goals as goal

pub judge_among-requires : goal.judge_among-requires
judge_among-requires c = within_more (length (plan_of c.args.index.now)) most_groups c.requires.is.reach_is.form.few (moment_of c.args.x.now.birth) (lives_within (plan_of c.args.index.now) (start_of c.args.index.now) (life_of c.args.x.now) c.requires.x).0

pub returns-in-Never : goal.returns-in-Never
returns-in-Never c =
    let plan = plan_of c.args.index.now in
    let start = start_of c.args.index.now in
    let x = life_of c.args.x.now in
    subst (λ (d : Moment). Says (if_left (moment_of d) (among (AreLeft plan start) (met_rule x))) c.judge_among.result) (sym c.in-Never.is)
    (says_among (λ (p : Package). (y : law.Life) × law.IsLife plan start y × (y.death ≡ law.never) × (y.package_is ≡ p)) x (map (λ p. p.now) c.args.left.now.all.items) c.judge_among.result
    (subst (λ (ps : List Package). AreLeft plan start ps) (sym c.requires.left) (left_are plan start)) c.judge_among.ensures)
