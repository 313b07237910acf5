use Rattle.std.proofs.Common.{◌≡◌, ◌∙◌, false, inl, sym, true}
use Rattle.std.proofs.lemmas.Result.{err_from_is_err_and}
use Rattle.plan_lives.specs.Index.{plan_of, start_of}
use Rattle.plan_lives.specs.Lives.{life_of}
use Rattle.plan_lives.proofs.Within.{lives_within}
use Rattle.plan_check.specs.PackageRules.{lasting_rule, satisfied_rule}
use Rattle.plan_rules.proofs.Trying.{told_more}
use Rattle.plan_check.proofs.lasting.judge_lasting.Goals as goal

pub is_firm_through-requires-clause-within : goal.is_firm_through-requires-clause-within
is_firm_through-requires-clause-within c = lives_within (plan_of c.args.index.now) (start_of c.args.index.now) (life_of c.args.x.now) c.requires.x

pub missing-requires-clause-within : goal.missing-requires-clause-within
missing-requires-clause-within c = lives_within (plan_of c.args.index.now) (start_of c.args.index.now) (life_of c.args.x.now) c.requires.x

pub returns-in_err-judge_satisfied : goal.returns-in_err-judge_satisfied
returns-in_err-judge_satisfied c =
    let plan = plan_of c.args.index.now in let start = start_of c.args.index.now in let x = life_of c.args.x.now in
    let p = err_from_is_err_and c.from_residual-in_err-judge_satisfied.result c.from_residual-in_err-judge_satisfied.ensures.1 in
    rw (p.1, p.2) (told_more (satisfied_rule plan start x) (lasting_rule plan start x) c.in_err-judge_satisfied.field-0.0
    (λ a j. ((λ firm. let y = c.in_ok-is_firm_through.ensures.1 firm in let n = c.if-branch.false in let off : true ≡ false = sym y ∙ n in cc off), inl j))
    c.in_err-judge_satisfied.ensures)
