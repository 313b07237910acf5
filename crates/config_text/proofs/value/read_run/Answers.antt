use Rattle.std.proofs.lemmas.Result.{IfOk-weaker}
use Rattle.config_text.specs.Known.{value_of}
use Rattle.config_text.proofs.Runs.{bare_begins, bare_run, double_run_at, single_run_at}
use Rattle.config_text.proofs.value.read_run.Goals as goal

pub returns-in-Some : goal.returns-in-Some
returns-in-Some c = IfOk-weaker c.read_single.result _ _ (λ r. single_run_at (value_of c.args.known.now.values) c.args.text.now c.in-Some.inner.now c.args.value.now.items c.read_single.new.value.items r c.in-Some.ensures) c.read_single.ensures

pub returns-in-Some-behind : goal.returns-in-Some-behind
returns-in-Some-behind c = IfOk-weaker c.read_double.result _ _ (λ r. double_run_at (value_of c.args.known.now.values) c.args.text.now c.in-Some-behind.inner.now c.args.value.now.items c.read_double.new.value.items r c.in-Some-behind.ensures) c.read_double.ensures

pub returns : goal.returns
returns c = bare_run (value_of c.args.known.now.values) c.args.text.now c.in_ok-read_part.field-0.now c.args.value.now.items c.read_part.new.value.items c.in_ok-read_part.ensures

pub read_part-requires : goal.read_part-requires
read_part-requires c = bare_begins c.args.text.now c.requires c.in_default.ensures c.in_default-behind.ensures
