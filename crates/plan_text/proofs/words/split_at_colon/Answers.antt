use Rattle.std.proofs.Common.{lit<}
use Rattle.plan_text.proofs.Split.{splits_at}
use Rattle.plan_text.proofs.words.split_at_colon.Goals as goal

pub returns : goal.returns
returns c = splits_at 58 c.args.text.now c.split_once.result c.split_once.ensures.cases (lit< tt)
