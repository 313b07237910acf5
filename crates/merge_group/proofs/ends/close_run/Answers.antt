use Rattle.std.proofs.Common.{ap, subst, sym}
use Rattle.file_tree.specs.Disk.{Story}
use Rattle.merge_group.specs.Turns.{AreFirst}
use Rattle.merge_group.specs.Went.{DroveWith}
use Rattle.merge_group.proofs.Cleared.{went}
use Rattle.merge_group.proofs.Drove.{drove}
use Rattle.merge_group.proofs.ends.close_run.Goals as goal

pub returns-clause-went : goal.returns-clause-went
returns-clause-went g c turns history acknowledged over t =
    let a = c.args.site in
    let p = c.promise.ensures in
    let e = c.clear-end.ensures in
    let old = g.T.Tree.story a.opened in
    let mid = g.T.Tree.story c.into_parts-tree.result.0 in
    let Run = AreFirst old.now.holds a.opened_book a.groups turns in
    let one = drove g.T.Tree.tells turns a old (g.T.Tree.story a.tree) history c.args.end t over.ended over.order (p.held t) (p.stands t) (p.moments t) in
    let two = subst (λ (s : Story). DroveWith Run old s history c.args.end) (sym (ap g.T.Tree.story c.into_parts-tree.ensures.tree)) one in
    went Run old mid (g.T.Tree.story c.clear-end.new.tree) history c.args.end c.clear-end.result two (e.failed t) e.device (e.moments t) (e.cleared t) (e.settled t)
