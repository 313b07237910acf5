use Rattle.std.proofs.Common.{◌∙◌, Result, ap, subst, sym}
use Rattle.merge_group.specs.Runs.{IsOver}
use Rattle.merge_group.specs.Turns.{AreFirst}
use Rattle.merge_group.specs.Went.{WentWith}
use Rattle.merge_group.specs.declared.stop.Stop.{Stop}
use Rattle.run_plan.specs.Ends.{joined_end}
use Rattle.run_plan.specs.Runs.{merge_end}
use Rattle.run_plan.proofs.Ending.{merge_joined}
use Rattle.run_plan.proofs.closing.close.Goals as goal

pub returns-clause-went : goal.returns-clause-went
returns-clause-went g c turns history acknowledged over t =
    let a = c.args.site in
    let opened = g.T.Tree.story a.opened in
    let r = c.close_run-tree.result.end in
    let before = subst (λ (x : Result (Unit {0}) Stop). IsOver g.T.Tree.tells opened.now.holds turns history acknowledged x a) (sym c.parted-merge.ensures.merge) over in
    let same = ap (merge_end tt) (c.joined.ensures ∙ ap (joined_end r) c.parted-merge.ensures.build) ∙ merge_joined c.args.end r in
    subst (λ (x : Result (Unit {0}) Stop). WentWith (AreFirst opened.now.holds a.opened_book a.groups turns) opened (g.T.Tree.story c.close_run-tree.result.tree) history x) (sym same)
    (c.close_run-tree.ensures.went turns history acknowledged before t)
