use Rattle.std.proofs.Common.{◌∙◌, sym}
use Rattle.merge_group.proofs.Onward.{next_merged, next_stopped}
use Rattle.merge_group.proofs.Through.{history_now}
use Rattle.merge_group.proofs.next.merge_next.Goals as goal

pub merge_and_tell-requires-clause-history : goal.merge_and_tell-requires-clause-history
merge_and_tell-requires-clause-history g c =
    let b = c.requires.begun in
    b.2.merged ∙ sym (history_now g.T.Tree.tells (g.T.Tree.story c.args.site.now.opened).now.holds b.0 c.args.site.now b.2.through)

pub returns-clause-merged : goal.returns-clause-merged
returns-clause-merged g c ts fresh under =
    let e = c.merge_and_tell.ensures in
    let opening = (g.T.Tree.story c.args.site.now.opened).now.holds in
    next_merged g.T.Tree.tells opening ts c.args.turn c.args.site.now c.merge_and_tell.new.site c.args.history.now.items c.args.acknowledged.now.items c.merge_and_tell.new.history.items c.merge_and_tell.new.acknowledged.items
    under fresh e.works e.let_in c.merge_and_tell.result e.at e.group e.settled e.merged e.told

pub returns-clause-stopped : goal.returns-clause-stopped
returns-clause-stopped g c ts fresh under =
    let e = c.merge_and_tell.ensures in
    let opening = (g.T.Tree.story c.args.site.now.opened).now.holds in
    next_stopped g.T.Tree.tells opening ts c.args.turn c.args.site.now c.merge_and_tell.new.site c.args.history.now.items c.args.acknowledged.now.items c.merge_and_tell.new.history.items c.merge_and_tell.new.acknowledged.items
    under fresh e.works e.let_in c.merge_and_tell.result e.history e.one e.untold e.early e.shut e.cause
