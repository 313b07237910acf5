use Rattle.std.proofs.Common.{◌∙◌}
use Rattle.pms_names.proofs.Keys.{taken, contains_has}
use Rattle.pms_names.proofs.flags.Flags.remove.Goals as goal

pub returns-clause-after : goal.returns-clause-after
returns-clause-after c = λ q. rw (← c.self.view_is) (taken c.self.inside.items c.remove.new.self c.args.flag.now q c.remove.ensures.updates)

pub returns-clause-found : goal.returns-clause-found
returns-clause-found c = c.remove.ensures.test ∙ rw (← c.self.view_is) (contains_has c.self.inside.items.keys c.args.flag.now)
