use Rattle.std.proofs.Common.{map, subst, sym, true}
use Rattle.std.specs.Prelude.{string_bytes}
use Rattle.merge_image.specs.Images.{IsBuilt}
use Rattle.emerge_run.specs.Commands.{RunsCommand}
use Rattle.emerge_run.proofs.Headline.{headline_of}
use Rattle.emerge_run.proofs.Promises.{runs_finished}
use Rattle.emerge_run.proofs.run.emerge.Goals as goal

pub returns-clause-run : goal.returns-clause-run
returns-clause-run g c =
    let words = map string_bytes c.args.words.now in
    let e = c.finished.ensures in
    let r = c.finished.result in
    subst (λ x. RunsCommand g.T.Tree g.S.Sink g.B.Builder true words c.args.tree c.args.out c.args.pool x) (sym e.rest)
    (runs_finished g.T.Tree g.S.Sink g.B.Builder words c.args.tree c.args.out c.args.pool c.attempt-run.result r.status r.out e.status e.device e.count e.written c.attempt-run.ensures)

pub returns-clause-headline : goal.returns-clause-headline
returns-clause-headline g c t =
    let runs = returns-clause-run g c in
    headline_of c.runs_leave_sound_trees.ensures c.found_plans_are_fit.ensures (map string_bytes c.args.words.now) (IsBuilt g.B.Builder.tells g.B.Builder.told c.args.pool.resting)
    c.finished.result.plan (g.T.Tree.story c.args.tree) (g.T.Tree.story c.finished.result.tree) c.finished.result.history.items c.finished.result.status (runs.tree t)
