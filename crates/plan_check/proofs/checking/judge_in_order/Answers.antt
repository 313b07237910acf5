use Rattle.std.proofs.Common.{map}
use Rattle.std.proofs.lemmas.Result.{err_from_is_err_and}
use Rattle.plan_lives.specs.Index.{plan_of, start_of}
use Rattle.plan_lives.specs.Lives.{lives_of}
use Rattle.plan_check.specs.PackageRules.{package_rule}
use Rattle.plan_check.specs.Turns.{tried_value}
use Rattle.plan_rules.specs.Rules.{line_rule, opening_rule, present_rule, room_rule}
use Rattle.plan_rules.specs.Verdicts.{both, each}
use Rattle.plan_rules.proofs.Told.{tells_first, tells_later}
use Rattle.plan_rules.proofs.Trying.{says_second}
use Rattle.plan_check.proofs.checking.judge_in_order.Goals as goal

pub returns-in_err-judge_lines : goal.returns-in_err-judge_lines
returns-in_err-judge_lines c =
    let plan = plan_of c.args.index.now in let start = start_of c.args.index.now in let all = lives_of c.args.all.now in let them = map tried_value c.args.tried.now in
    let p = err_from_is_err_and c.from_residual.result c.from_residual.ensures.1 in
    rw (p.1, p.2) (tells_first (line_rule plan) (both (present_rule plan start) (both (room_rule plan all) (both (opening_rule start) (each them (package_rule plan start all))))) c.in_err-judge_lines.field-0.0 c.in_err-judge_lines.ensures)

pub returns-in_err-judge_present : goal.returns-in_err-judge_present
returns-in_err-judge_present c =
    let plan = plan_of c.args.index.now in let start = start_of c.args.index.now in let all = lives_of c.args.all.now in let them = map tried_value c.args.tried.now in
    let p = err_from_is_err_and c.from_residual-in_err-judge_present.result c.from_residual-in_err-judge_present.ensures.1 in
    rw (p.1, p.2) (tells_later (line_rule plan) (both (present_rule plan start) (both (room_rule plan all) (both (opening_rule start) (each them (package_rule plan start all))))) c.in_err-judge_present.field-0.0 c.in_ok-judge_lines.ensures (tells_first (present_rule plan start) (both (room_rule plan all) (both (opening_rule start) (each them (package_rule plan start all)))) c.in_err-judge_present.field-0.0 c.in_err-judge_present.ensures))

pub returns-in_err-judge_room : goal.returns-in_err-judge_room
returns-in_err-judge_room c =
    let plan = plan_of c.args.index.now in let start = start_of c.args.index.now in let all = lives_of c.args.all.now in let them = map tried_value c.args.tried.now in
    let p = err_from_is_err_and c.from_residual-in_err-judge_room.result c.from_residual-in_err-judge_room.ensures.1 in
    rw (p.1, p.2) (tells_later (line_rule plan) (both (present_rule plan start) (both (room_rule plan all) (both (opening_rule start) (each them (package_rule plan start all))))) c.in_err-judge_room.field-0.0 c.in_ok-judge_lines.ensures (tells_later (present_rule plan start) (both (room_rule plan all) (both (opening_rule start) (each them (package_rule plan start all)))) c.in_err-judge_room.field-0.0 c.in_ok-judge_present.ensures (tells_first (room_rule plan all) (both (opening_rule start) (each them (package_rule plan start all))) c.in_err-judge_room.field-0.0 c.in_err-judge_room.ensures)))

pub returns-in_err-judge_opening : goal.returns-in_err-judge_opening
returns-in_err-judge_opening c =
    let plan = plan_of c.args.index.now in let start = start_of c.args.index.now in let all = lives_of c.args.all.now in let them = map tried_value c.args.tried.now in
    let p = err_from_is_err_and c.from_residual-in_err-judge_opening.result c.from_residual-in_err-judge_opening.ensures.1 in
    rw (p.1, p.2) (tells_later (line_rule plan) (both (present_rule plan start) (both (room_rule plan all) (both (opening_rule start) (each them (package_rule plan start all))))) c.in_err-judge_opening.field-0.0 c.in_ok-judge_lines.ensures (tells_later (present_rule plan start) (both (room_rule plan all) (both (opening_rule start) (each them (package_rule plan start all)))) c.in_err-judge_opening.field-0.0 c.in_ok-judge_present.ensures (tells_later (room_rule plan all) (both (opening_rule start) (each them (package_rule plan start all))) c.in_err-judge_opening.field-0.0 c.in_ok-judge_room.ensures (tells_first (opening_rule start) (each them (package_rule plan start all)) c.in_err-judge_opening.field-0.0 c.in_err-judge_opening.ensures))))

pub returns : goal.returns
returns c =
    let plan = plan_of c.args.index.now in let start = start_of c.args.index.now in let all = lives_of c.args.all.now in let them = map tried_value c.args.tried.now in
    says_second (line_rule plan) (both (present_rule plan start) (both (room_rule plan all) (both (opening_rule start) (each them (package_rule plan start all))))) c.judge_packages.result c.in_ok-judge_lines.ensures (says_second (present_rule plan start) (both (room_rule plan all) (both (opening_rule start) (each them (package_rule plan start all)))) c.judge_packages.result c.in_ok-judge_present.ensures (says_second (room_rule plan all) (both (opening_rule start) (each them (package_rule plan start all))) c.judge_packages.result c.in_ok-judge_room.ensures (says_second (opening_rule start) (each them (package_rule plan start all)) c.judge_packages.result c.in_ok-judge_opening.ensures c.judge_packages.ensures)))
