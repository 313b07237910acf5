use Rattle.std.proofs.Common.{◌∙◌, ap}
use Rattle.config_vars.specs.Values.{value_in}
use Rattle.config_vars.proofs.Stacking.{next_file}
use Rattle.config_vars.proofs.vars.last_value.Goals as goal

pub loop-file-preserved : goal.loop-file-preserved
loop-file-preserved c =
    next_file c.args.key.now c.args.files.now c.loop-file.file-index c.file-item.result c.value_in.result c.loop-file.value _ c.loop-file-test.true c.file-item.is c.or-value.ensures (c.value_in.ensures ∙ ap (value_in c.args.key.now) c.deref.ensures.value) c.loop-file.invariant
