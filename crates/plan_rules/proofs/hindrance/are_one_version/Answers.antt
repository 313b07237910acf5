use Rattle.std.proofs.Common.{length, subst, sym}
use Rattle.plan_law.specs.Lives as law
use Rattle.plan_lives.specs.Index.{plan_of, start_of}
use Rattle.plan_lives.specs.Lives.{life_of}
use Rattle.plan_lives.specs.Stretches.{IsStretchWithin}
use Rattle.plan_lives.proofs.Within.{lives_within}
use Rattle.plan_rules.proofs.hindrance.are_one_version.Goals as goal

pub meets-requires-clause-stretch : goal.meets-requires-clause-stretch
meets-requires-clause-stretch c = subst (λ (s : law.Stretch). IsStretchWithin (length (plan_of c.args.index.now)) s) (sym c.stretch_of.ensures) (lives_within (plan_of c.args.index.now) (start_of c.args.index.now) (life_of c.args.x.now) c.requires.x)

pub meets-requires-clause-birth : goal.meets-requires-clause-birth
meets-requires-clause-birth c = (lives_within (plan_of c.args.index.now) (start_of c.args.index.now) (life_of c.args.y.now) c.requires.y).0

pub meets-requires-clause-death : goal.meets-requires-clause-death
meets-requires-clause-death c = (lives_within (plan_of c.args.index.now) (start_of c.args.index.now) (life_of c.args.y.now) c.requires.y).1
