use Rattle.std.proofs.Common.{◌∙◌, sym}
use Rattle.std.specs.Prelude.{is_ok}
use Rattle.merge_core.specs.CoreValue.{machine_of}
use Rattle.merge_site.proofs.Device.{sync_performs}
use Rattle.merge_site.proofs.site.sync_step.Goals as goal

pub returns-clause-performs : goal.returns-clause-performs
returns-clause-performs g c t =
    let e = c.sync_group-answer.ensures in
    let m = machine_of c.args.core.now in
    let needs = sym (c.needs_sync-needs.ensures.there c.requires.taken.comes.0) in
    sync_performs m c.args.group c.args.step (is_ok c.sync_group-answer.result) (g.T.Tree.story c.args.tree.now) (g.T.Tree.story c.sync_group-answer.new.tree) c.requires.sync
    (e.sealed t m needs) (e.gate t m needs) (e.placed t m needs) (e.closed t m needs)

pub returns-clause-idle : goal.returns-clause-idle
returns-clause-idle g c none = c.sync_group-answer.ensures.idle (c.needs_sync-needs.ensures.there c.requires.taken.comes.0 ∙ none)
