use Rattle.std.specs.Option.{option_map}
use Rattle.std.proofs.lemmas.Result.{err_from_is_err_and}
use Rattle.plan_lives.specs.Index.{plan_of, start_of}
use Rattle.plan_lives.specs.Lives.{life_of, lives_of}
use Rattle.plan_check.specs.Asks.{what_asked}
use Rattle.plan_check.specs.PackageRules.{built_rule, coming_rule, finished_rule, lasting_rule, strong_rule, weak_rule}
use Rattle.plan_rules.specs.Verdicts.{both}
use Rattle.plan_rules.proofs.Told.{tells_first, tells_later}
use Rattle.plan_rules.proofs.Trying.{says_second}
use Rattle.plan_check.proofs.checking.judge_package.Goals as goal

pub returns-in_err-judge_what_comes : goal.returns-in_err-judge_what_comes
returns-in_err-judge_what_comes c =
    let plan = plan_of c.args.index.now in let start = start_of c.args.index.now in let all = lives_of c.args.all.now in let x = life_of c.args.x.now in let asked = what_asked (option_map (λ a. a.now) c.args.asked) in
    let p = err_from_is_err_and c.from_residual.result c.from_residual.ensures.1 in
    rw (p.1, p.2) (tells_first (coming_rule plan start x asked) (both (lasting_rule plan start x) (both (weak_rule plan all x) (both (strong_rule plan all x) (both (built_rule plan start x) (finished_rule plan start x))))) c.in_err-judge_what_comes.field-0.0 c.in_err-judge_what_comes.ensures)

pub returns-in_err-judge_lasting : goal.returns-in_err-judge_lasting
returns-in_err-judge_lasting c =
    let plan = plan_of c.args.index.now in let start = start_of c.args.index.now in let all = lives_of c.args.all.now in let x = life_of c.args.x.now in let asked = what_asked (option_map (λ a. a.now) c.args.asked) in
    let p = err_from_is_err_and c.from_residual-in_err-judge_lasting.result c.from_residual-in_err-judge_lasting.ensures.1 in
    rw (p.1, p.2) (tells_later (coming_rule plan start x asked) (both (lasting_rule plan start x) (both (weak_rule plan all x) (both (strong_rule plan all x) (both (built_rule plan start x) (finished_rule plan start x))))) c.in_err-judge_lasting.field-0.0 c.in_ok-judge_what_comes.ensures (tells_first (lasting_rule plan start x) (both (weak_rule plan all x) (both (strong_rule plan all x) (both (built_rule plan start x) (finished_rule plan start x)))) c.in_err-judge_lasting.field-0.0 c.in_err-judge_lasting.ensures))

pub returns-in_err-judge_weak : goal.returns-in_err-judge_weak
returns-in_err-judge_weak c =
    let plan = plan_of c.args.index.now in let start = start_of c.args.index.now in let all = lives_of c.args.all.now in let x = life_of c.args.x.now in let asked = what_asked (option_map (λ a. a.now) c.args.asked) in
    let p = err_from_is_err_and c.from_residual-in_err-judge_weak.result c.from_residual-in_err-judge_weak.ensures.1 in
    rw (p.1, p.2) (tells_later (coming_rule plan start x asked) (both (lasting_rule plan start x) (both (weak_rule plan all x) (both (strong_rule plan all x) (both (built_rule plan start x) (finished_rule plan start x))))) c.in_err-judge_weak.field-0.0 c.in_ok-judge_what_comes.ensures (tells_later (lasting_rule plan start x) (both (weak_rule plan all x) (both (strong_rule plan all x) (both (built_rule plan start x) (finished_rule plan start x)))) c.in_err-judge_weak.field-0.0 c.in_ok-judge_lasting.ensures (tells_first (weak_rule plan all x) (both (strong_rule plan all x) (both (built_rule plan start x) (finished_rule plan start x))) c.in_err-judge_weak.field-0.0 c.in_err-judge_weak.ensures)))

pub returns-in_err-judge_strong : goal.returns-in_err-judge_strong
returns-in_err-judge_strong c =
    let plan = plan_of c.args.index.now in let start = start_of c.args.index.now in let all = lives_of c.args.all.now in let x = life_of c.args.x.now in let asked = what_asked (option_map (λ a. a.now) c.args.asked) in
    let p = err_from_is_err_and c.from_residual-in_err-judge_strong.result c.from_residual-in_err-judge_strong.ensures.1 in
    rw (p.1, p.2) (tells_later (coming_rule plan start x asked) (both (lasting_rule plan start x) (both (weak_rule plan all x) (both (strong_rule plan all x) (both (built_rule plan start x) (finished_rule plan start x))))) c.in_err-judge_strong.field-0.0 c.in_ok-judge_what_comes.ensures (tells_later (lasting_rule plan start x) (both (weak_rule plan all x) (both (strong_rule plan all x) (both (built_rule plan start x) (finished_rule plan start x)))) c.in_err-judge_strong.field-0.0 c.in_ok-judge_lasting.ensures (tells_later (weak_rule plan all x) (both (strong_rule plan all x) (both (built_rule plan start x) (finished_rule plan start x))) c.in_err-judge_strong.field-0.0 c.in_ok-judge_weak.ensures (tells_first (strong_rule plan all x) (both (built_rule plan start x) (finished_rule plan start x)) c.in_err-judge_strong.field-0.0 c.in_err-judge_strong.ensures))))

pub returns-in_err-judge_built : goal.returns-in_err-judge_built
returns-in_err-judge_built c =
    let plan = plan_of c.args.index.now in let start = start_of c.args.index.now in let all = lives_of c.args.all.now in let x = life_of c.args.x.now in let asked = what_asked (option_map (λ a. a.now) c.args.asked) in
    let p = err_from_is_err_and c.from_residual-in_err-judge_built.result c.from_residual-in_err-judge_built.ensures.1 in
    rw (p.1, p.2) (tells_later (coming_rule plan start x asked) (both (lasting_rule plan start x) (both (weak_rule plan all x) (both (strong_rule plan all x) (both (built_rule plan start x) (finished_rule plan start x))))) c.in_err-judge_built.field-0.0 c.in_ok-judge_what_comes.ensures (tells_later (lasting_rule plan start x) (both (weak_rule plan all x) (both (strong_rule plan all x) (both (built_rule plan start x) (finished_rule plan start x)))) c.in_err-judge_built.field-0.0 c.in_ok-judge_lasting.ensures (tells_later (weak_rule plan all x) (both (strong_rule plan all x) (both (built_rule plan start x) (finished_rule plan start x))) c.in_err-judge_built.field-0.0 c.in_ok-judge_weak.ensures (tells_later (strong_rule plan all x) (both (built_rule plan start x) (finished_rule plan start x)) c.in_err-judge_built.field-0.0 c.in_ok-judge_strong.ensures (tells_first (built_rule plan start x) (finished_rule plan start x) c.in_err-judge_built.field-0.0 c.in_err-judge_built.ensures)))))

pub returns : goal.returns
returns c =
    let plan = plan_of c.args.index.now in let start = start_of c.args.index.now in let all = lives_of c.args.all.now in let x = life_of c.args.x.now in let asked = what_asked (option_map (λ a. a.now) c.args.asked) in
    says_second (coming_rule plan start x asked) (both (lasting_rule plan start x) (both (weak_rule plan all x) (both (strong_rule plan all x) (both (built_rule plan start x) (finished_rule plan start x))))) c.judge_finished.result c.in_ok-judge_what_comes.ensures (says_second (lasting_rule plan start x) (both (weak_rule plan all x) (both (strong_rule plan all x) (both (built_rule plan start x) (finished_rule plan start x)))) c.judge_finished.result c.in_ok-judge_lasting.ensures (says_second (weak_rule plan all x) (both (strong_rule plan all x) (both (built_rule plan start x) (finished_rule plan start x))) c.judge_finished.result c.in_ok-judge_weak.ensures (says_second (strong_rule plan all x) (both (built_rule plan start x) (finished_rule plan start x)) c.judge_finished.result c.in_ok-judge_strong.ensures (says_second (built_rule plan start x) (finished_rule plan start x) c.judge_finished.result c.in_ok-judge_built.ensures (c.judge_finished.ensures plan start c.requires.left)))))
