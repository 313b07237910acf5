use Rattle.std.proofs.Common.{◌∙◌}
use Rattle.pms_names.proofs.Keys.{contains_has}
use Rattle.pms_names.proofs.flags.Flags.has.Goals as goal

pub returns : goal.returns
returns c = c.contains.ensures ∙ rw (← c.self.view_is) (contains_has c.self.inside.items.keys c.args.flag.now)
