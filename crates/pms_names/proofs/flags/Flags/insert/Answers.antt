use Rattle.std.proofs.Common.{◌∙◌, ap, not}
use Rattle.pms_names.proofs.Keys.{added, contains_has}
use Rattle.pms_names.proofs.flags.Flags.insert.Goals as goal

pub returns-clause-ok : goal.returns-clause-ok
returns-clause-ok c = λ q. rw (← c.self.view_is) (added c.self.inside.items c.insert.new.self c.args.flag q c.in_ok-insert.ensures.updates)

pub returns-clause-new : goal.returns-clause-new
returns-clause-new c = c.in_ok-insert.ensures.added ∙ ap not (rw (← c.self.view_is) (contains_has c.self.inside.items.keys c.args.flag))
