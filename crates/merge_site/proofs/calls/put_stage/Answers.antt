use Rattle.std.proofs.Common.{◌≡◌, ℕ, List, Some, subst}
use Rattle.std.specs.Prelude.{OnOk, is_ok, length}
use Rattle.file_tree.specs.Disk.{Moves, next, write}
use Rattle.merge_journal.specs.Names.{stage_path}
use Rattle.merge_core.specs.Event.{PutStage}
use Rattle.merge_site.proofs.Device.{asks_answers, performed}
use Rattle.merge_site.proofs.calls.put_stage.Goals as goal

pub returns-clause-performs : goal.returns-clause-performs
returns-clause-performs g c t m p at =
    let old = g.T.Tree.story c.args.tree.now in
    let new = g.T.Tree.story c.put.new.self in
    performed m (PutStage c.args.group p c.args.object.now) (is_ok c.put.result) old new
    (asks_answers c.put.result (stage_path c.args.group (length (m.roll.standing c.args.group).objects)) (Some c.args.object.now) old new
    (subst (λ (q : List ℕ). OnOk c.put.result (new ≡ next old (write old.now q (Some c.args.object.now)))) at (c.put.ensures.ok t))
    (subst (λ (q : List ℕ). Moves old q new) at (c.put.ensures.moved t)))
