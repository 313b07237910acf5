use Rattle.std.specs.Option.{option_copied}
use Rattle.visible_verdicts.proofs.OneVerdict.{told}
use Rattle.visible_verdicts.proofs.judging.judge.Goals as goal

pub returns-clause-told : goal.returns-clause-told
returns-clause-told c = told c.args.rules.now c.args.id c.args.entry.now (option_copied c.args.ebuild) c.one_slot_value.ensures.one c.judge_files.result c.judge_files.ensures.visible c.judge_files.ensures.reason
