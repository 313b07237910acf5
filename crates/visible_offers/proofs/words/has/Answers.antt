use Rattle.std.proofs.Common.{◌∙◌}
use Rattle.config_vars.proofs.Judging.{any_told}
use Rattle.visible_offers.proofs.words.has.Goals as goal

pub returns : goal.returns
returns c = c.is_among.ensures ∙ any_told c.args.key.now c.args.variables.now
