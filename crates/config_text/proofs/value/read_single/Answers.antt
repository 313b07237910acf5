use Rattle.config_text.proofs.Runs.{single_run}
use Rattle.config_text.proofs.value.read_single.Goals as goal

pub returns : goal.returns
returns c = λ named. single_run named c.args.text.now c.cut.result.0.now c.cut.result.1.now c.in-Some.more.now c.args.value.now.items c.extend_from_slice.new.self.items c.cut.ensures c.in-Some.ensures c.in_ok-extend_from_slice.ensures.items
