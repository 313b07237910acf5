use Rattle.std.specs.Option.{option_map}
use Rattle.std.proofs.lemmas.Result.{err_from_is_err_and}
use Rattle.plan_lives.specs.Index.{plan_of, start_of}
use Rattle.plan_lives.specs.Lives.{life_of}
use Rattle.plan_check.specs.Asks.{what_asked}
use Rattle.plan_check.specs.PackageRules.{binding_rule, required_rule}
use Rattle.plan_rules.proofs.Told.{tells_first}
use Rattle.plan_rules.proofs.Trying.{says_second}
use Rattle.plan_check.proofs.coming.judge_what_comes.Goals as goal

pub returns-in_err-judge_required : goal.returns-in_err-judge_required
returns-in_err-judge_required c =
    let plan = plan_of c.args.index.now in let start = start_of c.args.index.now in let x = life_of c.args.x.now in let asked = what_asked (option_map (λ a. a.now) c.args.asked) in
    let p = err_from_is_err_and c.from_residual.result c.from_residual.ensures.1 in
    rw (p.1, p.2) (tells_first (required_rule x) (binding_rule plan start x asked) c.in_err-judge_required.field-0.0 c.in_err-judge_required.ensures)

pub returns : goal.returns
returns c =
    let plan = plan_of c.args.index.now in let start = start_of c.args.index.now in let x = life_of c.args.x.now in let asked = what_asked (option_map (λ a. a.now) c.args.asked) in
    says_second (required_rule x) (binding_rule plan start x asked) c.judge_bound.result c.in_ok-judge_required.ensures c.judge_bound.ensures
