use Rattle.std.proofs.Common.{◌≡◌, length, map, subst, sym}
use Rattle.pkg_state.specs.Package.{Package}
use Rattle.plan_law.specs.Lives as law
use Rattle.basics.specs.Limits.{most_groups}
use Rattle.plan_lives.specs.Home.{AreThereAt, IsThereAt}
use Rattle.plan_lives.specs.Index.{plan_of, start_of}
use Rattle.plan_lives.specs.Lives.{life_of, moment_of}
use Rattle.plan_lives.proofs.Steps.{within_more}
use Rattle.plan_lives.proofs.Within.{lives_within}
use Rattle.plan_check.proofs.AtHome.{says_among}
use Rattle.plan_check.proofs.unmet.judge_home.Goals as goal

pub there_at-requires-clause-moment : goal.there_at-requires-clause-moment
there_at-requires-clause-moment c = (lives_within (plan_of c.args.index.now) (start_of c.args.index.now) (life_of c.args.x.now) c.requires.x).0

pub judge_among-requires : goal.judge_among-requires
judge_among-requires c = within_more (length (plan_of c.args.index.now)) most_groups c.requires.is.reach_is.form.few (moment_of c.args.x.now.birth) (lives_within (plan_of c.args.index.now) (start_of c.args.index.now) (life_of c.args.x.now) c.requires.x).0

pub returns : goal.returns
returns c =
    let plan = plan_of c.args.index.now in
    let start = start_of c.args.index.now in
    let m = moment_of c.args.x.now.birth in
    says_among (λ (p : Package). (x : law.Life) × law.IsLife plan start x × IsThereAt plan m x × (x.package_is ≡ p)) (life_of c.args.x.now) (map (λ p. p.now) c.in_ok-home.home.all.items) c.judge_among.result
    (subst (λ v. AreThereAt plan start m (map (λ p. p.now) v.items)) (sym c.in_ok-home.ensures) c.in_ok-there_at.ensures) c.judge_among.ensures
